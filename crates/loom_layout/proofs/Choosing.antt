-- A mask's choice from a list, one element after another.
use Rattle.std.proofs.Common.{ℕ, zero, suc, List, [], ◌∷◌, ◌++◌, length, drop, map, get_or, slice_index, true, false, nat_eq, ◌≡◌, ◌≢◌, ◌+◌, ◌/◌, ◌%◌, ◌<◌, ◌≤◌, arith, refl, sym, ◌∙◌, ap, subst, inl, inr, append_assoc, append-nil, drop-cons, drop_of_length-le, length-append}
use Rattle.std.specs.List.{All, Contains, list_any}
use Rattle.std.proofs.lemmas.Bool.{or_cases, or_parts, eqb-true, eqb-false}
use Rattle.std.proofs.lemmas.List.{get_or_append_left}
use Rattle.std.proofs.lemmas.List.Elements.{All-nil, All-push}
use Rattle.std.proofs.Math.Seq.{get_or-append_seam}
use Rattle.loom_base.specs.declared.positions.NodeNo.{NodeNo}
use Rattle.loom_topology.specs.Legal.{chosen}
use Rattle.loom_topology.proofs.Hangs.{chosen-one, chosen-none}
use Rattle.loom_layout.specs.Stop.{IsFirstWithout}

drop_next : (xs : List ℕ) (i : ℕ) → i < length xs → drop i xs ≡ get_or xs i 0 ∷ drop (i + 1) xs
drop_next xs i h =
    let e : suc i ≡ i + 1 = omega arith in
    drop-cons xs i 0 h ∙ ap (λ k. get_or xs i 0 ∷ drop k xs) e

module _ (xs : List ℕ) (i left : ℕ) (within : i < length xs) where
  taken : left % 2 ≡ 1 → chosen (drop i xs) left ≡ get_or xs i 0 ∷ chosen (drop (i + 1) xs) (left / 2)
  taken odd = ap (λ l. chosen l left) (drop_next xs i within) ∙ chosen-one (get_or xs i 0) (drop (i + 1) xs) left odd

  left_out : left % 2 ≢ 1 → chosen (drop i xs) left ≡ chosen (drop (i + 1) xs) (left / 2)
  left_out even =
      ap (λ l. chosen l left) (drop_next xs i within) ∙ chosen-none (get_or xs i 0) (drop (i + 1) xs) left (omega (arith, even))

  pub take_one : (mask : ℕ) (list new : List ℕ) → left % 2 ≡ 1 → new ≡ list ++ get_or xs i 0 ∷ []
      → list ++ chosen (drop i xs) left ≡ chosen xs mask → new ++ chosen (drop (i + 1) xs) (left / 2) ≡ chosen xs mask
  take_one mask list new odd pushed before =
      ap (λ l. l ++ chosen (drop (i + 1) xs) (left / 2)) pushed
      ∙ (append_assoc list (get_or xs i 0 ∷ []) (chosen (drop (i + 1) xs) (left / 2))
      ∙ (ap (λ l. list ++ l) (sym (taken odd)) ∙ before))

  pub leave_one : (mask : ℕ) (list new : List ℕ) → left % 2 ≢ 1 → new ≡ list
      → list ++ chosen (drop i xs) left ≡ chosen xs mask → new ++ chosen (drop (i + 1) xs) (left / 2) ≡ chosen xs mask
  leave_one mask list new even same before =
      ap (λ l. l ++ chosen (drop (i + 1) xs) (left / 2)) same ∙ (ap (λ l. list ++ l) (sym (left_out even)) ∙ before)

none_left : (xs : List ℕ) (i left : ℕ) → length xs ≤ i → chosen (drop i xs) left ≡ []
none_left xs i left past = ap (λ l. chosen l left) (drop_of_length-le xs past)

pub all_taken : (xs list : List ℕ) (i left mask : ℕ) → length xs ≤ i → list ++ chosen (drop i xs) left ≡ chosen xs mask → list ≡ chosen xs mask
all_taken xs list i left mask past before =
    sym (append-nil list) ∙ (ap (λ l. list ++ l) (sym (none_left xs i left past)) ∙ before)

-- P holds of the elements that were chosen of the first i
pub record HoldSoFar (P : ℕ → Type 0) (xs : List ℕ) (mask i left : ℕ) : Type 0 where
  pub front : List ℕ
  pub cut : front ++ chosen (drop i xs) left ≡ chosen xs mask
  pub each : All P front

module _ (P : ℕ → Type 0) (xs : List ℕ) (mask : ℕ) where
  pub hold_at_first : HoldSoFar P xs mask 0 mask
  hold_at_first = record { front = []; cut = refl; each = All-nil P }

  pub hold_past : (i left : ℕ) → i < length xs → left % 2 ≢ 1 → HoldSoFar P xs mask i left → HoldSoFar P xs mask (i + 1) (left / 2)
  hold_past i left within even before = record {
    front = before.front;
    cut = leave_one xs i left within mask before.front before.front even refl before.cut;
    each = before.each;
  }

  pub hold_one : (i left : ℕ) → i < length xs → left % 2 ≡ 1 → P (get_or xs i 0) → HoldSoFar P xs mask i left
      → HoldSoFar P xs mask (i + 1) (left / 2)
  hold_one i left within odd holds before = record {
    front = before.front ++ get_or xs i 0 ∷ [];
    cut = take_one xs i left within mask before.front (before.front ++ get_or xs i 0 ∷ []) odd refl before.cut;
    each = All-push P before.front (get_or xs i 0) before.each holds;
  }

  pub hold_all : (i left : ℕ) → length xs ≤ i → HoldSoFar P xs mask i left → All P (chosen xs mask)
  hold_all i left past before = subst (All P) (all_taken xs before.front i left mask past before.cut) before.each

  pub first_without : (i left : ℕ) → i < length xs → left % 2 ≡ 1 → (P (get_or xs i 0) → ⊥) → HoldSoFar P xs mask i left
      → IsFirstWithout P (chosen xs mask) (get_or xs i 0)
  first_without i left within odd fails before =
      let n : ℕ = length before.front in
      let rest : List ℕ = chosen (drop (i + 1) xs) (left / 2) in
      let whole : before.front ++ get_or xs i 0 ∷ rest ≡ chosen xs mask =
      ap (λ l. before.front ++ l) (sym (taken xs i left within odd)) ∙ before.cut in
      let long : length before.front < length (before.front ++ get_or xs i 0 ∷ rest) = omega (arith, length-append before.front (get_or xs i 0 ∷ rest)) in
      record {
        place = length before.front;
        within = subst (λ (l : List ℕ). length before.front < length l) whole long;
        at = ap (λ l. slice_index l (length before.front)) (sym whole) ∙ get_or-append_seam before.front (get_or xs i 0) rest 0;
        without = fails;
        earlier = λ k below.
            let e : slice_index before.front k ≡ slice_index (chosen xs mask) k =
            sym (get_or_append_left before.front (get_or xs i 0 ∷ rest) 0 k below) ∙ ap (λ l. slice_index l k) whole in
            subst P e (before.each k 0 below);
      }

-- whether a node is among those of a list
pub is_among : (n : ℕ) (nodes : List NodeNo) → list_any (λ y. nat_eq y.0 n) nodes ≡ true → Contains (map (λ v. v.0) nodes) n
is_among n [] found = absurd (cc)
is_among n (y ∷ ys) found = elim (or_cases (nat_eq y.0 n) (list_any (λ y. nat_eq y.0 n) ys) found) [
  | inl here ↦ (0, omega arith, eqb-true y.0 n here)
  | inr later ↦ let rest = is_among n ys later in (suc rest.0, omega (arith, rest.1), rest.2)
]

pub isnt_among : (n : ℕ) (nodes : List NodeNo) → list_any (λ y. nat_eq y.0 n) nodes ≡ false → Contains (map (λ v. v.0) nodes) n → ⊥
isnt_among n [] found (k, below, at) = absurd (omega (arith, below))
isnt_among n (y ∷ ys) found (zero, below, at) = eqb-false y.0 n (or_parts (nat_eq y.0 n) (list_any (λ y. nat_eq y.0 n) ys) found).0 at
isnt_among n (y ∷ ys) found (suc k, below, at) =
    isnt_among n ys (or_parts (nat_eq y.0 n) (list_any (λ y. nat_eq y.0 n) ys) found).1 (k, omega (arith, below), at)
