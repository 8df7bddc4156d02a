-- The printed rows of one condition.
use Rattle.std.proofs.Common.{◌≡◌, ℕ, List, [], ◌∷◌, map, length, refl, subst, arith, slice_index_or}
use Rattle.loom_formula.specs.declared.row_list.Row.{Row}
use Rattle.loom_rows.specs.declared.cond.Cond.{Cond}
use Rattle.loom_rows.specs.Condition.{Meaning, value}
use Rattle.loom_rows.specs.Leftovers.{AreSame}
use Rattle.loom_rows.specs.RowLists.{meaning_at}
use Rattle.loom_rows.specs.Printed.{IsPrinted}
use Rattle.loom_rows.proofs.Conditions.{same}

-- a list of one number is its first
alone : (numbers : List ℕ) → length numbers ≡ 1 → numbers ≡ slice_index_or numbers 0 0 ∷ []
alone [] e = absurd (omega arith)
alone (n ∷ []) e = refl
alone (n ∷ m ∷ numbers) e = absurd (omega arith)

module _ (f : Meaning) (x : Cond) (is : AreSame (value x) f) (rows : List Row) (numbers : List ℕ) (printed : IsPrinted (map value (x ∷ [])) rows numbers) where
  pub one-printed : IsPrinted (f ∷ []) rows (slice_index_or numbers 0 0 ∷ [])
  one-printed =
      subst (λ (ns : List ℕ). IsPrinted (f ∷ []) rows ns) (alone numbers printed.counted)
      (subst (λ (g : Meaning). IsPrinted (g ∷ []) rows numbers) (same is) printed)

  pub one-value : AreSame (meaning_at rows (slice_index_or numbers 0 0)) f
  one-value = one-printed.valued 0 (slice_index_or numbers 0 0) f refl refl
