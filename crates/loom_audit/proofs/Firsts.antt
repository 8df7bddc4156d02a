-- What holds of the lines of a list, one after another.
use Rattle.std.proofs.Common.{◌≡◌, ℕ, ◌+◌, ◌<◌, ◌≤◌, List, Some, length, get_or, inl, inr, sym, ap, subst, ◌∙◌, arith}
use Rattle.std.specs.List.{slice_get}
use Rattle.std.proofs.lemmas.Bool.{cases_eq}
use Rattle.std.proofs.lemmas.Option.{same_Some, slice_get-get_or, slice_get_within}
use Rattle.loom_audit.specs.FirstFailure.{Each, EachBefore, IsFirstWithout}

module _ {A : Type 0} (P : ℕ → A → Type 0) (xs : List A) where
  pub before_none : EachBefore P xs 0
  before_none i x lt at = absurd (omega arith)

  pub before_more : (n : ℕ) (d : A) → n < length xs → EachBefore P xs n → P n (get_or xs n d) → EachBefore P xs (n + 1)
  before_more n d within before here i x lt at = elim (cases_eq i n) [
    | inl same ↦
        let stands : slice_get xs i ≡ Some (get_or xs n d) = ap (λ (k : ℕ). slice_get xs k) same ∙ slice_get-get_or xs n d within in
        let is : get_or xs n d ≡ x = same_Some (get_or xs n d) x (sym stands ∙ at) in
        subst (P i) is (subst (λ (k : ℕ). P k (get_or xs n d)) (sym same) here)
    | inr other ↦ before i x (omega (arith, lt, other)) at
  ]

  pub each_from_before : (n : ℕ) → length xs ≤ n → EachBefore P xs n → Each P xs
  each_from_before n past before i x at = before i x (omega (arith, past, slice_get_within xs i x at)) at

  pub first_without : (n : ℕ) (d : A) → n < length xs → EachBefore P xs n → (P n (get_or xs n d) → ⊥) → IsFirstWithout P xs n
  first_without n d within before fails = record {
    element = get_or xs n d;
    stands = slice_get-get_or xs n d within;
    fails = fails;
    before = before;
  }
