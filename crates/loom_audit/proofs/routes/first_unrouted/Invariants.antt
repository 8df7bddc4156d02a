use Rattle.loom_types.specs.declared.wire.Wire.{Wire}
use Rattle.loom_types.specs.Routes.{IsRouted}
use Rattle.loom_project.specs.Project.{net_topology}
use Rattle.loom_audit.specs.FirstFailure.{EachBefore}
use Rattle.loom_audit.proofs.routes.first_unrouted.Given as goal

abbrev pub invariant-loop-at : goal.invariant-loop-at
invariant-loop-at l = EachBefore (λ i (w : Wire). IsRouted (net_topology l.project w.net.0) w) l.wire-items l.at
