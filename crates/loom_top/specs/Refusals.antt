use Rattle.std.specs.Prelude.{◌≢◌, codes}
use Rattle.serde_json.specs.Data.{Data, null, object, put, no_members, string}
use Rattle.loom_answer.specs.Values.{whole}
use Rattle.loom_answer.specs.Faults.{of_kind, fault_shown, name_fault_shown, limit_shown}
use Rattle.loom_answer.specs.Stops.{stop_shown}
use Rattle.loom_formula.specs.declared.choice.ChoiceFault.{ChoiceFault}
use Rattle.loom_formula.specs.declared.choice.ChoiceFault.TheVariants as choices
use Rattle.loom_project.specs.declared.fault.Of.TheVariants as of
use Rattle.loom_project.specs.declared.fault.ProjectFault.TheVariants as faults
use Rattle.loom_top.specs.declared.refusal.Refusal.{Refusal}
use Rattle.loom_top.specs.declared.refusal.Refusal.TheVariants.{TooLong, NotJson, WrongShape, Project, Limit, Plan, Choice, BrokenRule}

-- want of memory is no cause of a refusal
abbrev pub IsCause : Refusal → Type 0
IsCause TooLong = Unit {0}
IsCause NotJson = Unit {0}
IsCause (WrongShape path) = Unit {0}
IsCause (Project fault) = fault ≢ faults.NoMemory
IsCause (Limit which count) = Unit {0}
IsCause (Plan stop) = Unit {0}
IsCause (Choice fault) = fault ≢ choices.NoMemory
IsCause (BrokenRule rule) = Unit {0}

-- the object of a name that makes no choice; want of memory is none
abbrev pub choice_fault_shown : ChoiceFault → Data
choice_fault_shown (choices.Unknown name) = name_fault_shown (codes "UnknownName") of.OptionName name
choice_fault_shown (choices.Repeated name) = name_fault_shown (codes "RepeatedName") of.OptionName name
choice_fault_shown choices.NoMemory = null

-- the object of a refusal: its kind, and what shows its cause
abbrev pub refusal_object : Refusal → Data
refusal_object TooLong = object (of_kind (codes "TooLong"))
refusal_object NotJson = object (of_kind (codes "NotJson"))
refusal_object (WrongShape path) =
    object (put (codes "path") (string path) (of_kind (codes "WrongShape")))
refusal_object (Project fault) = fault_shown fault
refusal_object (Limit which count) = limit_shown which count
refusal_object (Plan stop) = stop_shown stop
refusal_object (Choice fault) = choice_fault_shown fault
refusal_object (BrokenRule rule) =
    object (put (codes "rule") (whole rule) (of_kind (codes "BrokenRule")))

-- what is printed of a refusal
abbrev pub refusal_shown : Refusal → Data
refusal_shown refusal = object
    (put (codes "version") (whole 1)
    (put (codes "refused") (refusal_object refusal)
    no_members))
