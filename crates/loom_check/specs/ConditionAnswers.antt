-- What comes of working out the wires' conditions.
use Rattle.std.specs.Prelude.{ℕ, ◌+◌}
use Rattle.loom_rows.specs.declared.stop.RowsStop.{RowsStop}
use Rattle.loom_rows.specs.declared.stop.RowsStop.TheVariants.{TooManyRows, NoMemory}
use Rattle.loom_project.specs.declared.draft.Draft.{Draft}
use Rattle.loom_types.specs.declared.plan.Plan.{Plan}
use Rattle.loom_audit.specs.declared.spot.PlanPart.TheVariants.{Wires}
use Rattle.loom_audit.specs.declared.spot.Spot.{Spot}
use Rattle.loom_audit.specs.Spots.{line_at}
use Rattle.loom_check.specs.Stages.{HasConditions, WorksTooMuch}
use Rattle.loom_check.specs.Verdict.{ConditionFails}

-- the first wire whose condition isn't that under which its sets are live stands there
pub data ConditionsFailAt (draft : Draft) (plan : Plan) : Spot → Type 0 where
  wire : (at : ℕ) → ConditionFails draft plan at → ConditionsFailAt draft plan (line_at Wires at)

-- up to some wire too many rows are needed, where all wires before it have their conditions
pub record StopsAtWire (draft : Draft) (plan : Plan) : Type 0 where
  pub at : ℕ
  pub before : HasConditions draft plan at
  pub many : WorksTooMuch draft plan (at + 1)

-- the working out stops so; memory may run out at any time
abbrev pub StopsConditions : Draft → Plan → RowsStop → Type 0
StopsConditions draft plan TooManyRows = StopsAtWire draft plan
StopsConditions draft plan NoMemory = Unit {0}
