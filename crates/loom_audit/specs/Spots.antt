-- Places in a plan.
use Rattle.std.specs.Prelude.{ℕ}
use Rattle.loom_audit.specs.declared.spot.PlanPart.{PlanPart}
use Rattle.loom_audit.specs.declared.spot.Spot.{Spot}

-- a line of a part, by position, or by number where the part is the rows
abbrev pub line_at : PlanPart → ℕ → Spot
line_at part a = record { part = part; a = a; b = 0; c = 0 }
