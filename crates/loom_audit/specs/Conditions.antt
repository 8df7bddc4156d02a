-- A wire has the condition under which one of the sets is live whose wire it is.
use Rattle.std.specs.Prelude.{ℕ, Bool, ◌<◌, ◌↔◌, IsTrue, Contains, length}
use Rattle.loom_formula.specs.RowList.{value_of}
use Rattle.loom_project.specs.declared.draft.Draft.{Draft}
use Rattle.loom_types.specs.declared.plan.Plan.{Plan}
use Rattle.loom_types.specs.declared.plan.SetLine.{SetLine}
use Rattle.loom_types.specs.declared.wire.Wire.{Wire}
use Rattle.loom_active.specs.SetWires.{IsWireOf, IsOfLiveSet}

-- the wire's net is a net; its condition holds together with that of some set of its net; and it holds exactly where that of such a set does
pub record IsWhereSetsAre (draft : Draft) (plan : Plan) (w : Wire) : Type 0 where
  pub net : w.net.0 < length draft.nets
  pub some : (set : SetLine) × Contains plan.sets set × IsWireOf plan set w
  pub condition : (choice : ℕ → Bool) → IsTrue (value_of plan.rows choice w.row) ↔ IsOfLiveSet plan choice w
