-- The condition that a wire has to have, out of those of its sets.
use Rattle.std.specs.Prelude.{ℕ, List, Bool, ◌<◌, ◌↔◌, IsTrue, length, slice_get}
use Rattle.std.specs.List.{filter_map}
use Rattle.loom_formula.specs.RowList.{value_of}
use Rattle.loom_rows.specs.Disjunction.{some_hold}
use Rattle.loom_types.specs.declared.plan.Plan.{Plan}
use Rattle.loom_types.specs.declared.plan.SetLine.{SetLine}
use Rattle.loom_types.specs.declared.wire.Wire.{Wire}
use Rattle.loom_check.specs.Stages.{conditions_of}

-- the printed sets at positions
abbrev pub sets_at : Plan → List ℕ → List SetLine
sets_at plan positions = filter_map (slice_get plan.sets) positions

-- there is one of these sets, and the wire's condition holds exactly where that of one of them does
pub record HoldsWithSets (plan : Plan) (w : Wire) (sets : List SetLine) : Type 0 where
  pub some : 0 < length sets
  pub condition : (choice : ℕ → Bool) → IsTrue (value_of plan.rows choice w.row) ↔ IsTrue (some_hold (conditions_of plan sets) choice)
