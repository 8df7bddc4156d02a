use Rattle.std.proofs.Common.{ℕ, List, length, sym, ap, subst, ◌∙◌, arith}
use Rattle.loom_topology.specs.Topology.{TopologyView}
use Rattle.loom_project.specs.Project.{net_topology}
use Rattle.loom_active.proofs.Openings.{DifferInOpen, net_differs}
use Rattle.loom_project.proofs.PartsLemmas.{count_net_nodes}
use Rattle.loom_audit.proofs.EndSteps.{cavity_told, splice_told, splice_past_told}
use Rattle.loom_audit.proofs.routes.is_in_range.Goals as goal

pub returns-in-Cavity : goal.returns-in-Cavity
returns-in-Cavity c =
    let t : TopologyView = net_topology c.args.project.now c.args.net.0 in
    let differ : DifferInOpen c.topology-topology.result.now t =
    subst (λ (w : TopologyView). DifferInOpen w t) (sym c.topology-topology.ensures.topology) (net_differs c.args.project.now c.args.net.0) in
    cavity_told t c.args.end.now c.in-Cavity.cavity c.cavity_count.result c.in-Cavity.is
    (c.cavity_count.ensures.count ∙ ap (λ (cs : List ℕ). length cs) differ.cavities)

pub returns-then-node-node_count : goal.returns-then-node-node_count
returns-then-node-node_count c =
    let t : TopologyView = net_topology c.args.project.now c.args.net.0 in
    splice_told t c.args.end.now c.in-Splice.node c.in-Splice.ordinal c.in-Splice.is
    (omega (arith, c.if-node-node_count.true, c.node_count.ensures.count, c.topology-topology.ensures.nodes, count_net_nodes c.args.project.now c.args.net.0))

pub returns-else-node-node_count : goal.returns-else-node-node_count
returns-else-node-node_count c =
    let t : TopologyView = net_topology c.args.project.now c.args.net.0 in
    splice_past_told t c.args.end.now c.in-Splice.node c.in-Splice.ordinal c.node_count.result c.in-Splice.is
    (omega (arith, c.node_count.ensures.count, c.topology-topology.ensures.nodes, count_net_nodes c.args.project.now c.args.net.0))
    c.if-node-node_count.false
