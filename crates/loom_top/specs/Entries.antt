-- What the entries of a document's edits make of its project, and what becomes of each.
use Rattle.std.specs.Prelude.{◌≡◌, ℕ, List, [], ◌∷◌, None, Some, Ok, Err, length, sum_by, unwrap_or}
use Rattle.std.specs.Result.{result_unwrap_or}
use Rattle.loom_project.specs.declared.draft.Draft.{Draft}
use Rattle.loom_types.specs.declared.plan.Plan.{Plan}
use Rattle.loom_types.specs.declared.stop.PlanStop.{PlanStop}
use Rattle.loom_edits.specs.declared.edit.Edit.{Edit}
use Rattle.loom_edits.specs.declared.fault.EditFault.{EditFault}
use Rattle.loom_undo.specs.Changes.{Changes, after_edit, after_undo, after_redo}
use Rattle.loom_answer.specs.declared.outcome.Outcome.{Outcome}
use Rattle.loom_answer.specs.declared.outcome.Outcome.TheVariants.{Applied, Priced, Fault, Stop, NothingToUndo, NothingToRedo}
use Rattle.loom_answer.specs.Stops.{IsNameable, named_of}
use Rattle.loom_plan.specs.FirstStop.{FirstStop}
use Rattle.loom_plan.specs.PlanOf.{IsPlanOf}
use Rattle.loom_reader.specs.declared.document.Document.{Document}
use Rattle.loom_reader.specs.declared.entry.Entry.{Entry}
use Rattle.loom_reader.specs.declared.entry.Entry.TheVariants.{Change, Price, Undo, Redo}

-- a draft that has no past
abbrev pub fresh : Draft → Changes
fresh draft = record { draft = draft; past = []; undone = [] }

-- the changes after an entry; one that is refused, or has nothing to take back or to make again, leaves them as they are, and so does the
-- question for a price
abbrev pub after_entry : Changes → Entry → Changes
after_entry before (Change edit) = result_unwrap_or (after_edit before edit) before
after_entry before Price = before
after_entry before Undo = unwrap_or (after_undo before) before
after_entry before Redo = unwrap_or (after_redo before) before

-- the changes after some entries, in order
abbrev pub after_entries : Changes → List Entry → Changes
after_entries before [] = before
after_entries before (entry ∷ entries) = after_entries (after_entry before entry) entries

-- the document's project after its entries
abbrev pub project_after : Document → Draft
project_after document = (after_entries (fresh document.project) document.entries).draft

-- the sum of what a plan's sets cost
abbrev pub cost_of : Plan → ℕ
cost_of plan = sum_by (λ set. set.cost) plan.sets

-- what becomes of an entry, by the changes before it: an edit is applied or refused; a price is that of the plan of the draft at that
-- moment, or the plan's first stop in the draft's names; an edit is taken back or made again, or there is none
pub data IsOutcome (before : Changes) : Entry → Outcome → Type 0 where
  applied : (edit : Edit) (after : Changes) → after_edit before edit ≡ Ok after → IsOutcome before (Change edit) Applied
  refused : (edit : Edit) (fault : EditFault) → after_edit before edit ≡ Err fault → IsOutcome before (Change edit) (Fault fault)
  priced : (plan : Plan) → IsPlanOf before.draft plan → IsOutcome before Price (Priced (cost_of plan) (length plan.wires))
  stopped : (stop : PlanStop) → FirstStop before.draft stop → IsNameable before.draft stop
      → IsOutcome before Price (Stop (named_of before.draft stop))
  undone : (after : Changes) → after_undo before ≡ Some after → IsOutcome before Undo Applied
  nothing_to_undo : after_undo before ≡ None → IsOutcome before Undo NothingToUndo
  redone : (after : Changes) → after_redo before ≡ Some after → IsOutcome before Redo Applied
  nothing_to_redo : after_redo before ≡ None → IsOutcome before Redo NothingToRedo

-- the outcomes are those of the entries, one each, by the changes of its moment
abbrev pub AreOutcomes : Changes → List Entry → List Outcome → Type 0
AreOutcomes before [] [] = Unit {0}
AreOutcomes before [] (outcome ∷ outcomes) = ⊥
AreOutcomes before (entry ∷ entries) [] = ⊥
AreOutcomes before (entry ∷ entries) (outcome ∷ outcomes) =
    IsOutcome before entry outcome × AreOutcomes (after_entry before entry) entries outcomes
