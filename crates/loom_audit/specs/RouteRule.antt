-- Each wire leads over runs that are open to its net, from end to end, and is as long as they are.
use Rattle.std.specs.Prelude.{ℕ}
use Rattle.loom_project.specs.declared.draft.Draft.{Draft}
use Rattle.loom_project.specs.Project.{net_topology}
use Rattle.loom_types.specs.declared.plan.Plan.{Plan}
use Rattle.loom_types.specs.Routes.{IsRouted}
use Rattle.loom_audit.specs.declared.spot.PlanPart.TheVariants.{Wires}
use Rattle.loom_audit.specs.declared.spot.Spot.{Spot}
use Rattle.loom_audit.specs.FirstFailure.{Each, IsFirstWithout}
use Rattle.loom_audit.specs.Spots.{line_at}

abbrev pub AreRouted : Draft → Plan → Type 0
AreRouted draft plan = Each (λ i w. IsRouted (net_topology draft w.net.0) w) plan.wires

-- the first wire that doesn't
pub data RoutesFailAt (draft : Draft) (plan : Plan) : Spot → Type 0 where
  wire : (at : ℕ) → IsFirstWithout (λ i w. IsRouted (net_topology draft w.net.0) w) plan.wires at
      → RoutesFailAt draft plan (line_at Wires at)
