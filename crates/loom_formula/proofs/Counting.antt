-- Whether exactly one of some tests holds, with one test more.
use Rattle.std.proofs.Common.{◌≡◌, ℕ, ◌+◌, Bool, not, ◌&&◌, ◌||◌, ◌==◌, List, [], ◌∷◌, ◌++◌, ap, ◌∙◌, zero-add, arith, if◌then◌else◌}
use Rattle.std.specs.List.{count_by}
use Rattle.std.proofs.lemmas.Bool.Decides.{nat_tests}
use Rattle.std.proofs.lemmas.List.Sums.{sum_by-append}

none-more : (b : Bool) (n : ℕ) → (n + (if b then 1 else 0) == 0) ≡ ((n == 0) && not b)
none-more b n = grind (arith, nat_tests)

one-more : (b : Bool) (n : ℕ) → (n + (if b then 1 else 0) == 1) ≡ (((n == 1) && not b) || ((n == 0) && b))
one-more b n = grind (arith, nat_tests)

module _ {X : Type 0} (p : X → Bool) (xs : List X) (x : X) where
  pub count_by-push : count_by p (xs ++ x ∷ []) ≡ count_by p xs + (if p x then 1 else 0)
  count_by-push = sum_by-append (λ y. if p y then 1 else 0) xs (x ∷ []) ∙ ap (λ n. count_by p xs + n) (zero-add (if p x then 1 else 0))

  -- none holds: none held before and this one doesn't
  pub none-push : (count_by p (xs ++ x ∷ []) == 0) ≡ ((count_by p xs == 0) && not (p x))
  none-push = ap (λ n. n == 0) count_by-push ∙ none-more (p x) (count_by p xs)

  -- exactly one holds: one held before and this one doesn't, or none held and this one does
  pub one-push : (count_by p (xs ++ x ∷ []) == 1) ≡ (((count_by p xs == 1) && not (p x)) || ((count_by p xs == 0) && p x))
  one-push = ap (λ n. n == 1) count_by-push ∙ one-more (p x) (count_by p xs)
