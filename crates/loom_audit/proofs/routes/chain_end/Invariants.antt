use Rattle.loom_project.specs.Project.{net_topology}
use Rattle.loom_audit.proofs.Walks.{IsWalked}
use Rattle.loom_audit.proofs.routes.chain_end.Given as goal

abbrev pub invariant-loop-segment : goal.invariant-loop-segment
invariant-loop-segment l =
    IsWalked (net_topology l.project l.net.0) l.fn.start.0 l.total l.route l.node.0 l.left l.segment-index
