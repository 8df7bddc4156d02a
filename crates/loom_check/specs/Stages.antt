-- How far the judging of a plan has come, and what was worked out on the way.
use Rattle.std.specs.Prelude.{ℕ, List, [], ◌++◌, Bool, Some, ◌≡◌, ◌+◌, ◌↔◌, IsTrue, Contains, filter, length, map, slice_get}
use Rattle.loom_rows.specs.Condition.{Meaning}
use Rattle.loom_rows.specs.Disjunction.{any_worked}
use Rattle.loom_rows.specs.RowLists.{meaning_at, meanings_of}
use Rattle.loom_project.specs.declared.draft.Draft.{Draft}
use Rattle.loom_types.specs.declared.plan.Plan.{Plan}
use Rattle.loom_types.specs.declared.plan.SetLine.{SetLine}
use Rattle.loom_types.specs.declared.wire.Wire.{Wire}
use Rattle.loom_active.specs.Valid.{SomeIsValid, NeedTooManyRows}
use Rattle.loom_active.specs.Clash.{HasNoClash}
use Rattle.loom_active.specs.LiveWork.{live_worked}
use Rattle.loom_active.specs.LiveStops.{HaveMoreSets}
use Rattle.loom_active.specs.SetWires.{IsWireOf}
use Rattle.loom_audit.specs.FirstFailure.{EachBefore}
use Rattle.loom_audit.specs.Rows.{AreRowsSound}
use Rattle.loom_audit.specs.LiveLines.{AreSetsLive}
use Rattle.loom_audit.specs.Conditions.{IsWhereSetsAre}

-- the live sets are found: some choice is valid, there is no clash, and neither sets nor rows are too many
pub record FindsLiveSets (draft : Draft) : Type 0 where
  pub some_choice : SomeIsValid draft
  pub clear : HasNoClash draft
  pub few_sets : HaveMoreSets draft (length draft.nets) 16384 → ⊥
  pub few_rows : NeedTooManyRows (live_worked draft) → ⊥

-- what is worked out up to the printed rows
abbrev pub rows_worked : Draft → Plan → List Meaning
rows_worked draft plan = live_worked draft ++ meanings_of plan.rows

-- the printed rows are decision rows, and they are worked out
pub record TakesRows (draft : Draft) (plan : Plan) : Type 0 where
  pub found : FindsLiveSets draft
  pub rows : AreRowsSound draft plan
  pub few_rows : NeedTooManyRows (rows_worked draft plan) → ⊥

-- and the printed sets are the live ones
pub record HasLiveSets (draft : Draft) (plan : Plan) : Type 0 where
  pub takes : TakesRows draft plan
  pub sets : AreSetsLive draft plan

-- the sets, in order, of which a wire is one
pub record AreSetsOf (plan : Plan) (w : Wire) (sets : List SetLine) : Type 0 where
  pub has_it : SetLine → Bool
  pub have : (set : SetLine) → Contains plan.sets set → IsTrue (has_it set) ↔ IsWireOf plan set w
  pub picked : sets ≡ filter has_it plan.sets

-- the conditions of printed sets
abbrev pub conditions_of : Plan → List SetLine → List Meaning
conditions_of plan sets = map (λ set. meaning_at plan.rows set.row) sets

-- what is worked out for the first n wires, in order: for each the disjunctions of its sets' conditions, set by set
pub data AreWorked (plan : Plan) : ℕ → List Meaning → Type 0 where
  none : AreWorked plan 0 []
  next : (n : ℕ) (worked : List Meaning) (w : Wire) (sets : List SetLine) → AreWorked plan n worked
      → slice_get plan.wires n ≡ Some w → AreSetsOf plan w sets
      → AreWorked plan (n + 1) (worked ++ any_worked (conditions_of plan sets))

-- the disjunctions of the first n wires are worked out, and need few rows
pub record WorksWires (draft : Draft) (plan : Plan) (n : ℕ) : Type 0 where
  pub worked : List Meaning
  pub are_worked : AreWorked plan n worked
  pub few_rows : NeedTooManyRows (rows_worked draft plan ++ worked) → ⊥

-- those of the first n wires need too many
pub record WorksTooMuch (draft : Draft) (plan : Plan) (n : ℕ) : Type 0 where
  pub worked : List Meaning
  pub are_worked : AreWorked plan n worked
  pub many : NeedTooManyRows (rows_worked draft plan ++ worked)

-- the first n wires have the conditions under which their sets are live
pub record HasConditions (draft : Draft) (plan : Plan) (n : ℕ) : Type 0 where
  pub sets : HasLiveSets draft plan
  pub works : WorksWires draft plan n
  pub conditions : EachBefore (λ i w. IsWhereSetsAre draft plan w) plan.wires n
