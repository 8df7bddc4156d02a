-- Nothing that is printed of an outcome has a float.
use Rattle.std.proofs.Common.{◌≡◌, false, refl, ap, ◌∙◌}
use Rattle.serde_json.specs.Data.{Data}
use Rattle.serde_json.specs.Written.{has_float}
use Rattle.loom_edits.specs.declared.fault.EditFault.{EditFault}
use Rattle.loom_edits.specs.declared.fault.EditFault.TheVariants as faults
use Rattle.loom_answer.specs.declared.outcome.Outcome.{Outcome}
use Rattle.loom_answer.specs.declared.outcome.Outcome.TheVariants as outcomes
use Rattle.loom_answer.specs.Outcomes.{edit_fault_shown, outcome_shown}
use Rattle.loom_answer.proofs.FaultsWithoutFloats.{fault_plain}
use Rattle.loom_answer.proofs.StopsWithoutFloats.{stop_plain}

edit_fault_plain : (fault : EditFault) → has_float (edit_fault_shown fault) ≡ false
edit_fault_plain (faults.UnknownName of name) = refl
edit_fault_plain (faults.UnknownRule number) = refl
edit_fault_plain (faults.WrongKind segment) = refl
edit_fault_plain (faults.InUse of name) = refl
edit_fault_plain (faults.Project fault) = fault_plain fault
edit_fault_plain faults.NoMemory = refl

pub outcome_plain : (outcome : Outcome) → has_float (outcome_shown outcome) ≡ false
outcome_plain outcomes.Applied = refl
outcome_plain (outcomes.Priced cost wires) = refl
outcome_plain (outcomes.Fault fault) = edit_fault_plain fault
outcome_plain (outcomes.Stop stop) = stop_plain stop
outcome_plain outcomes.NothingToUndo = refl
outcome_plain outcomes.NothingToRedo = refl

-- a value that tells of an edit's fault has no float
pub plain_edit_fault : (d : Data) (fault : EditFault) → d ≡ edit_fault_shown fault → has_float d ≡ false
plain_edit_fault d fault is = ap has_float is ∙ edit_fault_plain fault

-- a value that tells of an outcome has no float
pub plain_outcome : (d : Data) (outcome : Outcome) → d ≡ outcome_shown outcome → has_float d ≡ false
plain_outcome d outcome is = ap has_float is ∙ outcome_plain outcome
