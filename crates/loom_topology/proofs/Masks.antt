-- The cavities that a mask chooses.
use Rattle.std.proofs.Common.{ℕ, zero, suc, List, [], ◌∷◌, length, drop, slice_index, cond, ◌==◌, ◌≡◌, ◌+◌, ◌/◌, ◌%◌, ◌^◌, ◌<◌, bit_and, arith, refl, sym, ◌∙◌, ap, subst, inl, inr, length-drop, get_or-drop}
use Rattle.std.specs.List.{AllZip}
use Rattle.std.specs.Int.{bit_at}
use Rattle.std.proofs.lemmas.Bool.{cases_eq}
use Rattle.std.proofs.lemmas.Nat.{and_shr}
use Rattle.std.proofs.lemmas.Nat.Bits.{bit_at_and, bit_at_lowest, bit_at-zero}
use Rattle.std.proofs.lemmas.List.Sums.{sum_by-cons}
use Rattle.loom_topology.specs.Legal.{chosen, cavities_of_mask}
use Rattle.loom_topology.proofs.Hangs.{hung_at, zip_cons, chosen-one, chosen-none, pow_length}

chosen-zero : (cs : List ℕ) → chosen cs 0 ≡ []
chosen-zero [] = refl
chosen-zero (c ∷ cs) = chosen-none c cs 0 refl ∙ chosen-zero cs

chosen-pow : (cs : List ℕ) (i : ℕ) → i < length cs → chosen cs (2 ^ i) ≡ slice_index cs i ∷ []
chosen-pow [] i h = absurd (omega arith)
chosen-pow (c ∷ cs) zero h = chosen-one c cs 1 refl ∙ ap (λ rest. c ∷ rest) (chosen-zero cs)
chosen-pow (c ∷ cs) (suc i) h =
    let half : 2 ^ suc i / 2 ≡ 2 ^ i = omega arith in
    let even : 2 ^ suc i % 2 ≡ 0 = omega arith in
    chosen-none c cs (2 ^ suc i) even ∙ (ap (chosen cs) half ∙ chosen-pow cs i (omega arith))

-- the mask of one terminal has its cavity alone
pub power_is_one_cavity : (terminals : List ℕ) (i : ℕ) → i + 1 < length terminals
    → cavities_of_mask terminals (2 ^ i) ≡ slice_index terminals (i + 1) ∷ []
power_is_one_cavity terminals i h =
    let within : i < length (drop 1 terminals) = omega (arith, length-drop 1 terminals) in
    let at : 1 + i ≡ i + 1 = omega arith in
    chosen-pow (drop 1 terminals) i within
    ∙ ap (λ c. c ∷ []) (get_or-drop 1 terminals i 0 ∙ ap (slice_index terminals) at)

-- a mask that isn't empty has a cavity
pub chosen-some : (cs : List ℕ) (mask : ℕ) → 0 < mask → mask < 2 ^ length cs → 0 < length (chosen cs mask)
chosen-some [] mask some range = absurd (omega arith)
chosen-some (c ∷ cs) mask some range =
    elim (cases_eq (mask % 2) 1) [
      | inl odd ↦ rw (chosen-one c cs mask odd) (omega arith)
      | inr even ↦
          let none : mask % 2 ≡ 0 = omega arith in
          rw (chosen-none c cs mask none) (chosen-some cs (mask / 2) (omega arith) (omega (arith, pow_length c cs)))
    ]

lowest_apart : (a b : ℕ) → bit_and a b ≡ 0 → a % 2 ≡ 1 → b % 2 ≡ 1 → ⊥
lowest_apart a b apart odd_a odd_b =
    let none : bit_at (bit_and a b) 0 ≡ 0 = rw apart (bit_at-zero 0) in
    absurd (omega (arith, bit_at_and a b 0, bit_at_lowest a, bit_at_lowest b))

halves_apart : (a b : ℕ) → bit_and a b ≡ 0 → bit_and (a / 2) (b / 2) ≡ 0
halves_apart a b apart =
    let e : bit_and a b / 2 ≡ bit_and (a / 2) (b / 2) = and_shr a b 1 in
    sym e ∙ rw apart refl

-- the hangs of two disjoint masks, put together in the order of the terminals
pub record Interleaved (R : ℕ → ℕ → Type 0) (cavities ha hb : List ℕ) : Type 0 where
  pub both : List ℕ
  pub each : AllZip R cavities both
  pub counts : (p : ℕ) → hung_at both p ≡ hung_at ha p + hung_at hb p

hung_at-cons : (h : ℕ) (hs : List ℕ) (p : ℕ) → hung_at (h ∷ hs) p ≡ cond (h == p) 1 0 + hung_at hs p
hung_at-cons h hs p = sum_by-cons (λ x. cond (x == p) 1 0) h hs

pub with_first : (R : ℕ → ℕ → Type 0) (c h : ℕ) (cavities ha hb : List ℕ) → R c h → Interleaved R cavities ha hb
    → Interleaved R (c ∷ cavities) (h ∷ ha) hb
with_first R c h cavities ha hb r rest = record {
  both = h ∷ rest.both;
  each = (r, rest.each);
  counts = λ p. omega (arith, hung_at-cons h rest.both p, hung_at-cons h ha p, rest.counts p);
}

with_second : (R : ℕ → ℕ → Type 0) (c h : ℕ) (cavities ha hb : List ℕ) → R c h → Interleaved R cavities ha hb
    → Interleaved R (c ∷ cavities) ha (h ∷ hb)
with_second R c h cavities ha hb r rest = record {
  both = h ∷ rest.both;
  each = (r, rest.each);
  counts = λ p. omega (arith, hung_at-cons h rest.both p, hung_at-cons h hb p, rest.counts p);
}

sum-one : (c : ℕ) (cs : List ℕ) (a b : ℕ) → a % 2 + b % 2 ≡ 1 → chosen (c ∷ cs) (a + b) ≡ c ∷ chosen cs (a / 2 + b / 2)
sum-one c cs a b e =
    let half : (a + b) / 2 ≡ a / 2 + b / 2 = omega arith in
    let odd : (a + b) % 2 ≡ 1 = omega arith in
    chosen-one c cs (a + b) odd ∙ ap (λ m. c ∷ chosen cs m) half

sum-none : (c : ℕ) (cs : List ℕ) (a b : ℕ) → a % 2 ≡ 0 → b % 2 ≡ 0 → chosen (c ∷ cs) (a + b) ≡ chosen cs (a / 2 + b / 2)
sum-none c cs a b e f =
    let half : (a + b) / 2 ≡ a / 2 + b / 2 = omega arith in
    let even : (a + b) % 2 ≡ 0 = omega arith in
    chosen-none c cs (a + b) even ∙ ap (chosen cs) half

pub interleave : (R : ℕ → ℕ → Type 0) (cs : List ℕ) (a b : ℕ) (ha hb : List ℕ) → bit_and a b ≡ 0
    → AllZip R (chosen cs a) ha → AllZip R (chosen cs b) hb → Interleaved R (chosen cs (a + b)) ha hb
interleave R [] a b [] [] apart zip_a zip_b = record { both = []; each = tt; counts = λ p. refl }
interleave R [] a b [] (h ∷ hb) apart zip_a zip_b = absurd zip_b
interleave R [] a b (h ∷ ha) hb apart zip_a zip_b = absurd zip_a
interleave R (c ∷ cs) a b ha hb apart zip_a zip_b =
    let rest_apart : bit_and (a / 2) (b / 2) ≡ 0 = halves_apart a b apart in
    elim (cases_eq (a % 2) 1) [
      | inl odd_a ↦ elim (cases_eq (b % 2) 1) [
        | inl odd_b ↦ absurd (lowest_apart a b apart odd_a odd_b)
        | inr not_b ↦
            let even_b : b % 2 ≡ 0 = omega arith in
            let kept_a : AllZip R (c ∷ chosen cs (a / 2)) ha = subst (λ l. AllZip R l ha) (chosen-one c cs a odd_a) zip_a in
            let kept_b : AllZip R (chosen cs (b / 2)) hb = subst (λ l. AllZip R l hb) (chosen-none c cs b even_b) zip_b in
            let (h, rest, e, r, zip_rest) = zip_cons R c (chosen cs (a / 2)) ha kept_a in
            subst (λ l. Interleaved R l ha hb) (sym (sum-one c cs a b (omega arith)))
            (subst (λ l. Interleaved R (c ∷ chosen cs (a / 2 + b / 2)) l hb) (sym e)
            (with_first R c h (chosen cs (a / 2 + b / 2)) rest hb r (interleave R cs (a / 2) (b / 2) rest hb rest_apart zip_rest kept_b)))
      ]
      | inr not_a ↦
          let even_a : a % 2 ≡ 0 = omega arith in
          let kept_a : AllZip R (chosen cs (a / 2)) ha = subst (λ l. AllZip R l ha) (chosen-none c cs a even_a) zip_a in
          elim (cases_eq (b % 2) 1) [
            | inl odd_b ↦
                let kept_b : AllZip R (c ∷ chosen cs (b / 2)) hb = subst (λ l. AllZip R l hb) (chosen-one c cs b odd_b) zip_b in
                let (h, rest, e, r, zip_rest) = zip_cons R c (chosen cs (b / 2)) hb kept_b in
                subst (λ l. Interleaved R l ha hb) (sym (sum-one c cs a b (omega arith)))
                (subst (λ l. Interleaved R (c ∷ chosen cs (a / 2 + b / 2)) ha l) (sym e)
                (with_second R c h (chosen cs (a / 2 + b / 2)) ha rest r (interleave R cs (a / 2) (b / 2) ha rest rest_apart kept_a zip_rest)))
            | inr not_b ↦
                let even_b : b % 2 ≡ 0 = omega arith in
                let kept_b : AllZip R (chosen cs (b / 2)) hb = subst (λ l. AllZip R l hb) (chosen-none c cs b even_b) zip_b in
                subst (λ l. Interleaved R l ha hb) (sym (sum-none c cs a b even_a even_b))
                (interleave R cs (a / 2) (b / 2) ha hb rest_apart kept_a kept_b)
          ]
    ]
