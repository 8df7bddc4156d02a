use Rattle.std.proofs.Common.{List, ℕ, suc, zero, ◌+◌, ◌-◌, ◌*◌, ◌/◌, ◌%◌, ◌^◌, ◌<◌, ◌≤◌, ◌≡◌, ◌≢◌, ◌⊎◌, min, length, slice_index, bit_and, inl, inr, refl, sym, ap, subst, arith, ◌∙◌}
use Rattle.std.specs.Int.Bits.{and_step, or_add_and}
use Rattle.std.proofs.lemmas.Nat.{and_le_l, and_le_r, and_mod, or_lt, mod-mul-add}
use Rattle.std.proofs.lemmas.List.{get_or_past}
use Rattle.loom_steiner.specs.Split.{TakesSplits, split_cost}
use Rattle.std.proofs.lemmas.Bool.{cases_lt, cases_eq}

half_of_part : (t r : ℕ) → bit_and t r ≡ t → bit_and (t / 2) (r / 2) ≡ t / 2
half_of_part t r e = omega (arith, and_step t r)

low_of_part : (t r : ℕ) → bit_and t r ≡ t → t % 2 ≤ r % 2
low_of_part t r e = omega (arith, and_step t r)

-- what a part has in common with the rest is a part
pub and_part : (k a r : ℕ) → a ≤ k → bit_and (bit_and a r) r ≡ bit_and a r
and_part zero a r h = let e : a ≡ 0 = omega arith in subst (λ (x : ℕ). bit_and (bit_and x r) r ≡ bit_and x r) (sym e) refl
and_part (suc k) a r h = elim (cases_eq a 0) [
  | inl e ↦ subst (λ (x : ℕ). bit_and (bit_and x r) r ≡ bit_and x r) (sym e) refl
  | inr n ↦
      (let x = bit_and a r in
      let step = and_step a r in
      let half : x / 2 ≡ bit_and (a / 2) (r / 2) = omega arith in
      let low : x % 2 ≡ min (a % 2) (r % 2) = omega arith in
      let deeper = and_part k (a / 2) (r / 2) (omega arith) in
      let same : bit_and (x / 2) (r / 2) ≡ bit_and (a / 2) (r / 2) = ap (λ (y : ℕ). bit_and y (r / 2)) half ∙ deeper in
      omega (arith, and_step x r, same))
]

-- between a part and the next lower one there is none
pub next_part : (k t p r : ℕ) → p ≤ k → bit_and t r ≡ t → bit_and p r ≡ p → t < p → t ≤ bit_and (p - 1) r
next_part zero t p r h part_t part_p below = absurd (omega arith)
next_part (suc k) t p r h part_t part_p below = elim (cases_eq (p % 2) 1) [
  | inl odd ↦
      (let half : (p - 1) / 2 ≡ p / 2 = omega arith in
      let same : bit_and ((p - 1) / 2) (r / 2) ≡ p / 2 = ap (λ (y : ℕ). bit_and y (r / 2)) half ∙ half_of_part p r part_p in
      omega (arith, and_step (p - 1) r, same))
  | inr even ↦
      (let half : (p - 1) / 2 ≡ p / 2 - 1 = omega arith in
      let deeper = next_part k (t / 2) (p / 2) (r / 2) (omega arith) (half_of_part t r part_t) (half_of_part p r part_p) (omega arith) in
      let same : bit_and ((p - 1) / 2) (r / 2) ≡ bit_and (p / 2 - 1) (r / 2) = ap (λ (y : ℕ). bit_and y (r / 2)) half in
      omega (arith, and_step (p - 1) r, same, deeper, low_of_part t r part_t))
]

-- before any split
pub TakesSplits-none : (cells branches : List ℕ) (n high rest : ℕ) (row : List ℕ) → TakesSplits cells branches n high rest rest row row
TakesSplits-none cells branches n high rest row = record {
  len = refl;
  lower = λ v. omega arith;
  splits = λ part v is_part low h. absurd (omega (arith, is_part.1));
  from = λ v h. inl refl;
}

-- one split more
pub TakesSplits-next : (cells branches : List ℕ) (n high rest part : ℕ) (row new after : List ℕ)
    → part ≢ 0 → part ≤ rest → bit_and part rest ≡ part → length after ≡ length new
    → ((v : ℕ) → v < length new → slice_index after v ≡ min (slice_index new v) (split_cost cells branches n high rest (bit_and (part - 1) rest) v))
    → TakesSplits cells branches n high rest part row new
    → TakesSplits cells branches n high rest (bit_and (part - 1) rest) row after
TakesSplits-next cells branches n high rest part row new after some below is_part len is t =
    let next = bit_and (part - 1) rest in
    let less : next < part = omega (arith, and_le_l (part - 1) rest) in
    let lower : (v : ℕ) → slice_index after v ≤ slice_index new v = λ v. elim (cases_lt v (length new)) [
      | inl lt ↦ omega (arith, is v lt)
      | inr ge ↦ omega (arith, get_or_past after v 0 (omega arith))
    ] in
    record {
      len = len ∙ t.len;
      lower = λ v. omega (arith, lower v, t.lower v);
      splits = λ p v p_is low h. elim (cases_lt p part) [
        | inl lt ↦ (let e : p ≡ next = omega (arith, next_part part p part rest (omega arith) p_is.0 is_part lt) in
            subst (λ (q : ℕ). slice_index after v ≤ split_cost cells branches n high rest q v) (sym e)
            (omega (arith, is v (omega (arith, t.len)))))
        | inr ge ↦ omega (arith, lower v, t.splits p v p_is ge h)
      ];
      from = λ v h. elim (cases_lt (split_cost cells branches n high rest next v) (slice_index new v)) [
        | inl lt ↦ inr (next, (and_part (part - 1) (part - 1) rest (omega arith), omega arith), omega (arith, is v (omega (arith, t.len))))
        | inr ge ↦ (let e : slice_index after v ≡ slice_index new v = omega (arith, is v (omega (arith, t.len))) in
            elim (t.from v h) [
              | inl same ↦ inl (e ∙ same)
              | inr p ↦ inr (p.0, p.1, e ∙ p.2)
            ])
      ];
    }

-- a part and what is left of the rest are apart
pub part_apart : (k part rest : ℕ) → rest ≤ k → bit_and part rest ≡ part → bit_and part (rest - part) ≡ 0
part_apart zero part rest h is_part =
    let e : part ≡ 0 = omega (arith, and_le_r part rest) in
    subst (λ (p : ℕ). bit_and p (rest - p) ≡ 0) (sym e) refl
part_apart (suc k) part rest h is_part = elim (cases_eq rest 0) [
  | inl e ↦ (let f : part ≡ 0 = omega (arith, and_le_r part rest) in subst (λ (p : ℕ). bit_and p (rest - p) ≡ 0) (sym f) refl)
  | inr n ↦
      (let halves = half_of_part part rest is_part in
      let low = low_of_part part rest is_part in
      let less : part / 2 ≤ rest / 2 = omega (arith, and_le_r (part / 2) (rest / 2)) in
      let half : (rest - part) / 2 ≡ rest / 2 - part / 2 = omega arith in
      let odd : (rest - part) % 2 ≡ rest % 2 - part % 2 = omega arith in
      let deeper = part_apart k (part / 2) (rest / 2) (omega arith) halves in
      let same : bit_and (part / 2) ((rest - part) / 2) ≡ 0 = ap (bit_and (part / 2)) half ∙ deeper in
      omega (arith, and_step part (rest - part), same))
]

-- of two that are apart each is a part of their sum
pub part_of_sum : (k part left : ℕ) → part ≤ k → bit_and part left ≡ 0 → bit_and part (part + left) ≡ part
part_of_sum zero part left h apart =
    let e : part ≡ 0 = omega arith in subst (λ (p : ℕ). bit_and p (p + left) ≡ p) (sym e) refl
part_of_sum (suc k) part left h apart = elim (cases_eq part 0) [
  | inl e ↦ subst (λ (p : ℕ). bit_and p (p + left) ≡ p) (sym e) refl
  | inr n ↦
      (let step = and_step part left in
      let halves : bit_and (part / 2) (left / 2) ≡ 0 = omega arith in
      let half : (part + left) / 2 ≡ part / 2 + left / 2 = omega arith in
      let odd : (part + left) % 2 ≡ part % 2 + left % 2 = omega arith in
      let deeper = part_of_sum k (part / 2) (left / 2) (omega arith) halves in
      let same : bit_and (part / 2) ((part + left) / 2) ≡ part / 2 = ap (bit_and (part / 2)) half ∙ deeper in
      omega (arith, and_step part (part + left), same))
]

mod_small : (x m : ℕ) → x < m → x % m ≡ x
mod_small x m h = let e : 0 * m + x ≡ x = omega arith in subst (λ (w : ℕ). w % m ≡ x) e (mod-mul-add 0 m x h)

-- a higher bit shares nothing with a lower number
pub and_above : (i y x : ℕ) → y < 2 ^ i → x < 2 ^ i → bit_and (2 ^ i + y) x ≡ bit_and y x
and_above i y x low_y low_x =
    let one : 1 * 2 ^ i ≡ 2 ^ i = omega arith in
    let m : (2 ^ i + y) % 2 ^ i ≡ y = subst (λ (w : ℕ). (w + y) % 2 ^ i ≡ y) one (mod-mul-add 1 (2 ^ i) y low_y) in
    let x_mod : x % 2 ^ i ≡ x = mod_small x (2 ^ i) low_x in
    let less : bit_and (2 ^ i + y) x < 2 ^ i = omega (arith, and_le_r (2 ^ i + y) x) in
    let same : bit_and (2 ^ i + y) x % 2 ^ i ≡ bit_and (2 ^ i + y) x = mod_small (bit_and (2 ^ i + y) x) (2 ^ i) less in
    sym same ∙ (and_mod (2 ^ i + y) x i ∙ (ap (λ (w : ℕ). bit_and w (x % 2 ^ i)) m ∙ ap (bit_and y) x_mod))

-- two that are apart and not below a power aren't both below it
pub one_above : (i a b : ℕ) → bit_and a b ≡ 0 → 2 ^ i ≤ a + b → (2 ^ i ≤ a) ⊎ (2 ^ i ≤ b)
one_above i a b apart above = elim (cases_lt a (2 ^ i)) [
  | inr ge ↦ inl ge
  | inl lt ↦ elim (cases_lt b (2 ^ i)) [
    | inr ge ↦ inr ge
    | inl lt_b ↦ absurd (omega (arith, or_lt i a b lt lt_b, or_add_and a b))
  ]
]
