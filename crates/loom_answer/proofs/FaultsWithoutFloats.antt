-- Nothing that is printed of a fault has a float.
use Rattle.std.proofs.Common.{◌≡◌, ℕ, false, refl, ap, ◌∙◌}
use Rattle.serde_json.specs.Data.{Data}
use Rattle.serde_json.specs.Written.{has_float}
use Rattle.loom_base.specs.declared.limits.Which.{Which}
use Rattle.loom_project.specs.declared.fault.ProjectFault.{ProjectFault}
use Rattle.loom_project.specs.declared.fault.ProjectFault.TheVariants as faults
use Rattle.loom_answer.specs.Faults.{limit_shown, fault_shown}

pub fault_plain : (fault : ProjectFault) → has_float (fault_shown fault) ≡ false
fault_plain (faults.UnknownName of name) = refl
fault_plain (faults.RepeatedName of name) = refl
fault_plain (faults.TerminalRepeated net cavity) = refl
fault_plain (faults.TooFewTerminals net count) = refl
fault_plain (faults.EndsEqual segment) = refl
fault_plain (faults.BorderCrossed segment) = refl
fault_plain (faults.NoBorder segment) = refl
fault_plain (faults.ReservedPin segment pin) = refl
fault_plain (faults.Limit which count) = refl
fault_plain faults.NoMemory = refl

-- a value that tells of a passed limit has no float
pub plain_limit : (d : Data) (which : Which) (count : ℕ) → d ≡ limit_shown which count → has_float d ≡ false
plain_limit d which count is = ap has_float is

-- a value that tells of a project's fault has no float
pub plain_fault : (d : Data) (fault : ProjectFault) → d ≡ fault_shown fault → has_float d ≡ false
plain_fault d fault is = ap has_float is ∙ fault_plain fault
