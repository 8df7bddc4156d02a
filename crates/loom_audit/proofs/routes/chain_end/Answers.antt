use Rattle.std.proofs.Common.{◌≡◌, length, sym, ap, subst, ◌∙◌, arith}
use Rattle.std.proofs.lemmas.List.{drop_more}
use Rattle.loom_topology.specs.Topology.{TopologyView, price_of}
use Rattle.loom_project.specs.Project.{net_topology}
use Rattle.loom_active.proofs.Openings.{DifferInOpen, net_differs}
use Rattle.loom_audit.proofs.Walks.{walked_none, walked_all, walked_on, walked_stuck, walked_past}
use Rattle.loom_audit.proofs.routes.chain_end.Goals as goal

pub loop-segment-init : goal.loop-segment-init
loop-segment-init c = walked_none (net_topology c.args.project.now c.args.net.0) c.args.start.0 c.args.total c.args.route.now

pub returns-in_err-node-clause-none : goal.returns-in_err-node-clause-none
returns-in_err-node-clause-none c =
    let t : TopologyView = net_topology c.args.project.now c.args.net.0 in
    rw c.from_residual.ensures
    (λ end chain sum.
    walked_stuck t c.args.start.0 c.args.total c.args.route.now c.loop-segment.node.0 c.loop-segment.left c.loop-segment.segment-index _ c.loop-segment.invariant
    (drop_more c.args.route.now c.loop-segment.segment-index _ c.loop-segment-test.true) c.in_err-node.ensures.none end chain)

pub returns-in_err-left-clause-none : goal.returns-in_err-left-clause-none
returns-in_err-left-clause-none c =
    let t : TopologyView = net_topology c.args.project.now c.args.net.0 in
    let differ : DifferInOpen c.topology-topology.result.now t =
    subst (λ (w : TopologyView). DifferInOpen w t) (sym c.topology-topology.ensures.topology) (net_differs c.args.project.now c.args.net.0) in
    rw c.from_residual-in_err-left.ensures
    (λ end chain sum.
    walked_past t c.args.start.0 c.args.total c.args.route.now c.loop-segment.node.0 c.loop-segment.left c.loop-segment.segment-index _ c.loop-segment.invariant
    (drop_more c.args.route.now c.loop-segment.segment-index _ c.loop-segment-test.true) c.price.result
    (c.price.ensures.value ∙ ap price_of (differ.kind _)) (omega (arith, c.in_err-left.ensures)) sum)

pub loop-segment-preserved : goal.loop-segment-preserved
loop-segment-preserved c =
    let t : TopologyView = net_topology c.args.project.now c.args.net.0 in
    let differ : DifferInOpen c.topology-topology.result.now t =
    subst (λ (w : TopologyView). DifferInOpen w t) (sym c.topology-topology.ensures.topology) (net_differs c.args.project.now c.args.net.0) in
    walked_on t c.args.start.0 c.args.total c.args.route.now c.loop-segment.node.0 c.loop-segment.left c.loop-segment.segment-index _ c.loop-segment.invariant
    (drop_more c.args.route.now c.loop-segment.segment-index _ c.loop-segment-test.true) c.in_ok-node.node.0 c.in_ok-left.left c.price.result
    c.in_ok-node.ensures.some (c.price.ensures.value ∙ ap price_of (differ.kind _)) (omega (arith, c.in_ok-left.ensures))

pub returns-clause-some : goal.returns-clause-some
returns-clause-some c =
    let t : TopologyView = net_topology c.args.project.now c.args.net.0 in
    let e : c.loop-segment.segment-index ≡ length c.args.route.now = omega (arith, c.loop-segment-test.false, c.loop-segment.auto.segment-index-end) in
    walked_all t c.args.start.0 c.args.total c.args.route.now c.loop-segment.node.0 c.loop-segment.left (rw e at c.loop-segment.invariant)
