use Rattle.std.proofs.Common.{◌≡◌, ◌∷◌, [], ℕ, Bool, List, slice_index_or, sym, subst}
use Rattle.loom_formula.specs.RowList.{value_of}
use Rattle.loom_rows.specs.Printed.{IsPrinted}
use Rattle.loom_active.specs.Needs.{is_valid_for}
use Rattle.loom_active.proofs.OnePrinted.{one-printed, one-value}
use Rattle.loom_active.proofs.printed.valid_printed.Goals as goal

pub returns-clause-value : goal.returns-clause-value
returns-clause-value c =
    subst (λ (numbers : List ℕ). (choice : ℕ → Bool) → value_of c.in_ok-printed.printed choice (slice_index_or numbers 0 0) ≡ is_valid_for c.args.project.now choice) (sym c.as_slice.ensures)
    (one-value (is_valid_for c.args.project.now) c.in_ok-condition.condition c.in_ok-condition.ensures.value.1 c.in_ok-printed.printed c.in_ok-printed.numbers c.in_ok-printed.ensures.printed)

pub returns-clause-printed : goal.returns-clause-printed
returns-clause-printed c =
    subst (λ (numbers : List ℕ). IsPrinted (is_valid_for c.args.project.now ∷ []) c.in_ok-printed.printed (slice_index_or numbers 0 0 ∷ [])) (sym c.as_slice.ensures)
    (one-printed (is_valid_for c.args.project.now) c.in_ok-condition.condition c.in_ok-condition.ensures.value.1 c.in_ok-printed.printed c.in_ok-printed.numbers c.in_ok-printed.ensures.printed)
