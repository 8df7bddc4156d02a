-- Edits that set a number alone: a run's length, a coupler's price, a node's branch cost.
use Rattle.std.specs.Prelude.{◌≡◌, Bool, true, false, Option, Some, None, Result, Ok, Err}
use Rattle.loom_project.specs.declared.draft.Draft.{Draft}
use Rattle.loom_project.specs.declared.numbers.NumberChange.{NumberChange}
use Rattle.loom_project.specs.Numbers.{with_number, IsThere}
use Rattle.loom_edits.specs.declared.edit.Edit.{Edit}
use Rattle.loom_edits.specs.declared.edit.Edit.TheVariants as edits
use Rattle.loom_edits.specs.declared.fault.EditFault.{EditFault}
use Rattle.loom_edits.specs.Edits.{changed, edited}

abbrev pub sets_number : Edit → Bool
sets_number (edits.SetLength name length) = true
sets_number (edits.SetPrice name price) = true
sets_number (edits.SetBranch name branch) = true
sets_number edit = false

-- all that the edit makes of the draft is another number, which leaves it sound
pub record SetsNumber (draft : Draft) (edit : Edit) (change : NumberChange) : Type 0 where
  pub there : IsThere draft change
  pub made : edited draft edit ≡ Ok (with_number draft change)

-- the number that an edit sets alone, none for an edit of another kind; or why it can't be set
abbrev pub IsNumberOf : Draft → Edit → Result (Option NumberChange) EditFault → Type 0
IsNumberOf draft edit (Ok (Some change)) = SetsNumber draft edit change
IsNumberOf draft edit (Ok None) = sets_number edit ≡ false
IsNumberOf draft edit (Err fault) = changed draft edit ≡ Err fault
