-- Numbers that refer to conditions of a list, by the list's length.
use Rattle.std.proofs.Common.{◌≡◌, ℕ, ◌+◌, ◌<◌, List, subst}
use Rattle.loom_audit.specs.FirstFailure.{Each, IsFirstWithout}

module _ {A : Type 0} (row_of : A → ℕ) (counted rows : ℕ) (seen lines : List A) where
  pub each-moved : counted ≡ rows → seen ≡ lines → Each (λ i x. row_of x < counted + 2) seen → Each (λ i x. row_of x < rows + 2) lines
  each-moved e f each =
      subst (λ (n : ℕ). Each (λ i x. row_of x < n + 2) lines) e (subst (λ (l : List A). Each (λ i x. row_of x < counted + 2) l) f each)

  pub first-moved : (at : ℕ) → counted ≡ rows → seen ≡ lines → IsFirstWithout (λ i x. row_of x < counted + 2) seen at → IsFirstWithout (λ i x. row_of x < rows + 2) lines at
  first-moved at e f first =
      subst (λ (n : ℕ). IsFirstWithout (λ i x. row_of x < n + 2) lines at) e (subst (λ (l : List A). IsFirstWithout (λ i x. row_of x < counted + 2) l at) f first)
