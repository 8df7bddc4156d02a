-- The verdict on a plan: yes where all nine rules hold of it, else no with the first one that fails and its first place.
use Rattle.std.specs.Prelude.{ℕ, ◌≡◌, ◌+◌, Some, length, slice_get}
use Rattle.loom_base.specs.declared.limits.Which.TheVariants.{Rows}
use Rattle.loom_project.specs.declared.draft.Draft.{Draft}
use Rattle.loom_types.specs.declared.plan.Plan.{Plan}
use Rattle.loom_types.specs.declared.wire.Wire.{Wire}
use Rattle.loom_active.specs.declared.stop.ActiveStop.{ActiveStop}
use Rattle.loom_active.specs.declared.stop.ActiveStop.TheVariants.{Limit}
use Rattle.loom_active.specs.Valid.{NeedTooManyRows}
use Rattle.loom_active.specs.LiveStops.{IsLiveStop}
use Rattle.loom_audit.specs.declared.spot.PlanPart.TheVariants.{Wires}
use Rattle.loom_audit.specs.declared.spot.Spot.{Spot}
use Rattle.loom_audit.specs.Spots.{line_at}
use Rattle.loom_audit.specs.Rows.{AreRowsSound, RowsFailAt}
use Rattle.loom_audit.specs.LiveLines.{SetsFailAt}
use Rattle.loom_audit.specs.Conditions.{IsWhereSetsAre}
use Rattle.loom_audit.specs.Trees.{AreTrees, TreesFailAt}
use Rattle.loom_audit.specs.RouteRule.{AreRouted, RoutesFailAt}
use Rattle.loom_audit.specs.PinRule.{ArePinsApart, PinsFailAt}
use Rattle.loom_audit.specs.TableRule.{AreTablesLegal, TablesFailAt}
use Rattle.loom_audit.specs.CostRule.{AreCostsEqual, CostsFailAt}
use Rattle.loom_audit.specs.LayoutRule.{AreLayoutsTrue, LayoutsFailAt}
use Rattle.loom_check.specs.declared.verdict.Verdict.{Verdict}
use Rattle.loom_check.specs.declared.verdict.Verdict.TheVariants.{Yes, No}
use Rattle.loom_check.specs.Stages.{FindsLiveSets, TakesRows, HasConditions, WorksWires, WorksTooMuch, rows_worked}

-- all nine rules hold: rows, sets, conditions, trees, routes, pins, tables, costs and layouts
pub record PassesAll (draft : Draft) (plan : Plan) : Type 0 where
  pub conditions : HasConditions draft plan (length plan.wires)
  pub trees : AreTrees draft plan
  pub routes : AreRouted draft plan
  pub pins : ArePinsApart draft plan
  pub tables : AreTablesLegal draft plan
  pub costs : AreCostsEqual draft plan
  pub layouts : AreLayoutsTrue draft plan

-- the first wire whose condition isn't that under which its sets are live
pub record ConditionFails (draft : Draft) (plan : Plan) (at : ℕ) : Type 0 where
  pub before : HasConditions draft plan at
  pub works : WorksWires draft plan (at + 1)
  pub wire : Wire
  pub stands : slice_get plan.wires at ≡ Some wire
  pub fails : IsWhereSetsAre draft plan wire → ⊥

-- the first rule that fails, by number, and its first place
pub data FailsFirst (draft : Draft) (plan : Plan) : ℕ → Spot → Type 0 where
  rows : (place : Spot) → FindsLiveSets draft → RowsFailAt draft plan place → FailsFirst draft plan 1 place
  sets : (place : Spot) → TakesRows draft plan → SetsFailAt draft plan place → FailsFirst draft plan 2 place
  condition : (at : ℕ) → ConditionFails draft plan at → FailsFirst draft plan 3 (line_at Wires at)
  trees : (place : Spot) → HasConditions draft plan (length plan.wires) → TreesFailAt draft plan place → FailsFirst draft plan 4 place
  routes : (place : Spot) → HasConditions draft plan (length plan.wires) → AreTrees draft plan
      → RoutesFailAt draft plan place → FailsFirst draft plan 5 place
  pins : (place : Spot) → HasConditions draft plan (length plan.wires) → AreTrees draft plan → AreRouted draft plan
      → PinsFailAt draft plan place → FailsFirst draft plan 6 place
  tables : (place : Spot) → HasConditions draft plan (length plan.wires) → AreTrees draft plan → AreRouted draft plan
      → ArePinsApart draft plan → TablesFailAt draft plan place → FailsFirst draft plan 7 place
  costs : (place : Spot) → HasConditions draft plan (length plan.wires) → AreTrees draft plan → AreRouted draft plan
      → ArePinsApart draft plan → AreTablesLegal draft plan → CostsFailAt draft plan place → FailsFirst draft plan 8 place
  layouts : (place : Spot) → HasConditions draft plan (length plan.wires) → AreTrees draft plan → AreRouted draft plan
      → ArePinsApart draft plan → AreTablesLegal draft plan → AreCostsEqual draft plan
      → LayoutsFailAt draft plan place → FailsFirst draft plan 9 place

abbrev pub IsVerdict : Draft → Plan → Verdict → Type 0
IsVerdict draft plan Yes = PassesAll draft plan
IsVerdict draft plan (No rule place) = FailsFirst draft plan rule place

-- the judging stops so: as the search for live sets does; or the printed rows need too many rows; or the disjunctions up to some wire do,
-- where all wires before it have their conditions. Memory may run out at any time
pub data StopsCheck (draft : Draft) (plan : Plan) : ActiveStop → Type 0 where
  seeking : (stop : ActiveStop) → IsLiveStop draft stop → StopsCheck draft plan stop
  rows : FindsLiveSets draft → AreRowsSound draft plan → NeedTooManyRows (rows_worked draft plan)
      → StopsCheck draft plan (Limit Rows 262145)
  wires : (at : ℕ) → HasConditions draft plan at → WorksTooMuch draft plan (at + 1) → StopsCheck draft plan (Limit Rows 262145)
