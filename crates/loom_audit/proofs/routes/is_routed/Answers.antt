use Rattle.std.proofs.Common.{refl, sym, ◌∙◌}
use Rattle.std.proofs.lemmas.Bool.{eqb-true}
use Rattle.loom_topology.specs.Topology.{TopologyView}
use Rattle.loom_project.specs.Project.{net_topology}
use Rattle.loom_audit.proofs.EndSteps.{routed_told, unrouted_told, stuck_told}
use Rattle.loom_audit.proofs.routes.is_routed.Goals as goal

pub returns-then-eq : goal.returns-then-eq
returns-then-eq c =
    let t : TopologyView = net_topology c.args.project.now c.args.wire.now.net.0 in
    routed_told t c.args.wire.now c.node_of_end-start.result.0 c.node_of_end-end.result.0 c.as_slice.result.now (c.if-not-is_in_range.ensures.0 refl)
    (c.if-not-is_in_range-2.ensures.0 refl) c.node_of_end-start.ensures c.node_of_end-end.ensures c.as_slice.ensures
    c.in-Some.node.0 c.in-Some.left c.in-Some.ensures.some.0 c.in-Some.ensures.some.1
    (eqb-true c.in-Some.node.0 c.node_of_end-end.result.0 (sym c.eq.ensures ∙ c.if-eq.true))

pub returns-else-eq : goal.returns-else-eq
returns-else-eq c =
    let t : TopologyView = net_topology c.args.project.now c.args.wire.now.net.0 in
    unrouted_told t c.args.wire.now c.node_of_end-start.result.0 c.node_of_end-end.result.0 c.as_slice.result.now (c.if-not-is_in_range.ensures.0 refl)
    (c.if-not-is_in_range-2.ensures.0 refl) c.node_of_end-start.ensures c.node_of_end-end.ensures c.as_slice.ensures
    c.in-Some.node.0 c.in-Some.left c.in-Some.ensures.some.0 c.in-Some.ensures.some.1 c.eq.result c.if-eq.false c.eq.ensures

pub returns-in-None : goal.returns-in-None
returns-in-None c =
    let t : TopologyView = net_topology c.args.project.now c.args.wire.now.net.0 in
    stuck_told t c.args.wire.now c.node_of_end-start.result.0 c.node_of_end-end.result.0 c.as_slice.result.now (c.if-not-is_in_range.ensures.0 refl)
    (c.if-not-is_in_range-2.ensures.0 refl) c.node_of_end-start.ensures c.node_of_end-end.ensures c.as_slice.ensures
    c.in-None.ensures.none
