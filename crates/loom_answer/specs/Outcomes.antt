-- How it is printed what became of an edit.
use Rattle.std.specs.Prelude.{ℕ, List, codes}
use Rattle.serde_json.specs.Data.{Data, null, object, put, no_members}
use Rattle.loom_edits.specs.declared.fault.EditFault.{EditFault}
use Rattle.loom_edits.specs.declared.fault.EditFault.TheVariants as faults
use Rattle.loom_answer.specs.declared.outcome.Outcome.{Outcome}
use Rattle.loom_answer.specs.declared.outcome.Outcome.TheVariants as outcomes
use Rattle.loom_answer.specs.Faults.{of_kind, name_fault_shown, segment_fault_shown, fault_shown}
use Rattle.loom_answer.specs.Stops.{stop_shown}
use Rattle.loom_answer.specs.Values.{whole}

-- a position past the last rule
abbrev pub unknown_rule_shown : ℕ → Data
unknown_rule_shown number = object
    (put (codes "number") (whole number)
    (of_kind (codes "UnknownRule")))

-- how it is printed why an edit is refused; want of memory is none
abbrev pub edit_fault_shown : EditFault → Data
edit_fault_shown (faults.UnknownName of name) = name_fault_shown (codes "UnknownName") of name
edit_fault_shown (faults.UnknownRule number) = unknown_rule_shown number
edit_fault_shown (faults.WrongKind segment) = segment_fault_shown (codes "WrongKind") segment
edit_fault_shown (faults.InUse of name) = name_fault_shown (codes "InUse") of name
edit_fault_shown (faults.Project fault) = fault_shown fault
edit_fault_shown faults.NoMemory = null

-- what a plan costs, and how many wires it has
abbrev pub priced_shown : ℕ → ℕ → Data
priced_shown cost wires = object
    (put (codes "wires") (whole wires)
    (put (codes "cost") (whole cost)
    no_members))

-- an object that tells its kind and nothing more
abbrev pub kind_alone_shown : List ℕ → Data
kind_alone_shown kind = object (of_kind kind)

-- how an outcome is printed
abbrev pub outcome_shown : Outcome → Data
outcome_shown outcomes.Applied = null
outcome_shown (outcomes.Priced cost wires) = priced_shown cost wires
outcome_shown (outcomes.Fault fault) = edit_fault_shown fault
outcome_shown (outcomes.Stop stop) = stop_shown stop
outcome_shown outcomes.NothingToUndo = kind_alone_shown (codes "NothingToUndo")
outcome_shown outcomes.NothingToRedo = kind_alone_shown (codes "NothingToRedo")
