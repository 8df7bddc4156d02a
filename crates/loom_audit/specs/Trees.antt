-- The wires of each set form one tree whose leaves are the set's cavities.
use Rattle.std.specs.Prelude.{ℕ}
use Rattle.loom_project.specs.declared.draft.Draft.{Draft}
use Rattle.loom_types.specs.declared.plan.Plan.{Plan}
use Rattle.loom_active.specs.SetWires.{SetFormsTree}
use Rattle.loom_audit.specs.declared.spot.PlanPart.TheVariants.{Sets}
use Rattle.loom_audit.specs.declared.spot.Spot.{Spot}
use Rattle.loom_audit.specs.FirstFailure.{Each, IsFirstWithout}
use Rattle.loom_audit.specs.Spots.{line_at}

abbrev pub AreTrees : Draft → Plan → Type 0
AreTrees draft plan = Each (λ i set. SetFormsTree draft plan set) plan.sets

-- the first set whose wires don't
pub data TreesFailAt (draft : Draft) (plan : Plan) : Spot → Type 0 where
  set : (at : ℕ) → IsFirstWithout (λ i set. SetFormsTree draft plan set) plan.sets at → TreesFailAt draft plan (line_at Sets at)
