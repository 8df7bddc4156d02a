-- The first rule that is false.
use Rattle.std.proofs.Common.{◌≡◌, ℕ, suc, ◌+◌, Bool, true, false, not, ◌&&◌, List, [], ◌∷◌, length, nat_lt, IsNone, IsTrue, ◌↔◌, Some, None, cond, refl, ◌∙◌, arith}
use Rattle.std.specs.List.{list_all, position, prefix_len}
use Rattle.std.specs.Option.{is_some}
use Rattle.std.proofs.lemmas.Bool.Decides.{nat_tests}

is_some-cond : (b : Bool) (n : ℕ) → is_some (cond b (Some n) None) ≡ b
is_some-cond b n = elim b as (λ v. is_some (cond v (Some n) None) ≡ v) [ true ↦ refl | false ↦ refl ]

lt-suc_both : (n m : ℕ) → nat_lt (1 + n) (suc m) ≡ nat_lt n m
lt-suc_both n m = grind (arith, nat_tests)

zero-lt_suc : (m : ℕ) → nat_lt 0 (suc m) ≡ true
zero-lt_suc m = grind (arith, nat_tests)

both_ways : (some all : Bool) → some ≡ not all → (some ≡ false → IsTrue all) × (IsTrue all → some ≡ false)
both_ways some all e = grind arith

-- those that pass from the front on are fewer than all exactly where one fails
prefix_len-all : {X : Type 0} (p : X → Bool) (xs : List X) → nat_lt (prefix_len (λ x. not (not (p x))) xs) (length xs) ≡ not (list_all p xs)
prefix_len-all p [] = refl
prefix_len-all p (x ∷ xs) =
    let rest = prefix_len-all p xs in
    let Here : Bool → Type 0 = λ b. nat_lt (cond (not (not b)) (1 + prefix_len (λ x. not (not (p x))) xs) 0) (length (x ∷ xs)) ≡ not (b && list_all p xs) in
    elim (p x) as Here [ true ↦ lt-suc_both _ _ ∙ rest | false ↦ zero-lt_suc _ ]

-- no element fails a test exactly where all pass it
pub position-none : {X : Type 0} (p : X → Bool) (xs : List X) → IsNone (position (λ x. not (p x)) xs) ↔ IsTrue (list_all p xs)
position-none p xs =
    let none : is_some (position (λ x. not (p x)) xs) ≡ not (list_all p xs) =
    is_some-cond _ (prefix_len (λ x. not (not (p x))) xs) ∙ prefix_len-all p xs in
    both_ways _ (list_all p xs) none
