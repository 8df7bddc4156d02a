use Rattle.std.proofs.Common.{ℕ, ◌<◌, ◌==◌, List, length, slice_index, sym, ap, subst, ◌∙◌, arith}
use Rattle.std.proofs.lemmas.Bool.{cond-true, cond-false, eq-eqb, ne_eqb}
use Rattle.loom_topology.specs.Topology.{TopologyView, segment_at}
use Rattle.loom_topology.proofs.Places.{open_below}
use Rattle.loom_project.specs.Project.{net_topology}
use Rattle.loom_project.proofs.PartsLemmas.{count_net_segments}
use Rattle.loom_active.proofs.Openings.{DifferInOpen, net_differs}
use Rattle.loom_types.specs.declared.wire.End.{End}
use Rattle.loom_types.specs.declared.wire.End.TheVariants.{Cavity, Pin}
use Rattle.loom_types.specs.Routes.{IsEndInRange, node_of_end}
use Rattle.loom_audit.proofs.routes.node_of_end.Goals as goal

pub cavity_node-requires : goal.cavity_node-requires
cavity_node-requires c =
    let t : TopologyView = net_topology c.args.project.now c.args.net.0 in
    let differ : DifferInOpen c.topology-topology.result.now t =
    subst (λ (w : TopologyView). DifferInOpen w t) (sym c.topology-topology.ensures.topology) (net_differs c.args.project.now c.args.net.0) in
    let in_range : IsEndInRange t (Cavity c.in-Cavity.cavity) = subst (λ (e : End). IsEndInRange t e) c.in-Cavity.is c.requires.in_range in
    subst (λ (cs : List ℕ). c.in-Cavity.cavity.0 < length cs) (sym differ.cavities) in_range

pub ends-requires : goal.ends-requires
ends-requires c =
    let t : TopologyView = net_topology c.args.project.now c.args.net.0 in
    let in_range : IsEndInRange t (Pin c.in-Pin.coupler c.in-Pin.pin c.in-Pin.side) = subst (λ (e : End). IsEndInRange t e) c.in-Pin.is c.requires.in_range in
    omega (arith, open_below t c.in-Pin.coupler.0 in_range.0, count_net_segments c.args.project.now c.args.net.0, c.topology-topology.ensures.segments)

pub returns-in-Cavity : goal.returns-in-Cavity
returns-in-Cavity c =
    let t : TopologyView = net_topology c.args.project.now c.args.net.0 in
    let differ : DifferInOpen c.topology-topology.result.now t =
    subst (λ (w : TopologyView). DifferInOpen w t) (sym c.topology-topology.ensures.topology) (net_differs c.args.project.now c.args.net.0) in
    c.cavity_node.ensures.node ∙ ap (λ (cs : List ℕ). slice_index cs c.in-Cavity.cavity.0) differ.cavities ∙ ap (node_of_end t) (sym c.in-Cavity.is)

pub returns-then-side-eq1 : goal.returns-then-side-eq1
returns-then-side-eq1 c =
    let t : TopologyView = net_topology c.args.project.now c.args.net.0 in
    let differ : DifferInOpen c.topology-topology.result.now t =
    subst (λ (w : TopologyView). DifferInOpen w t) (sym c.topology-topology.ensures.topology) (net_differs c.args.project.now c.args.net.0) in
    let s : ℕ = c.in-Pin.coupler.0 in
    c.ends.ensures.from ∙ differ.start s
    ∙ sym (cond-true (c.in-Pin.side == 1) (segment_at t s).from (segment_at t s).to (eq-eqb c.in-Pin.side 1 c.if-side-eq1.true))
    ∙ ap (node_of_end t) (sym c.in-Pin.is)

pub returns-else-side-eq1 : goal.returns-else-side-eq1
returns-else-side-eq1 c =
    let t : TopologyView = net_topology c.args.project.now c.args.net.0 in
    let differ : DifferInOpen c.topology-topology.result.now t =
    subst (λ (w : TopologyView). DifferInOpen w t) (sym c.topology-topology.ensures.topology) (net_differs c.args.project.now c.args.net.0) in
    let s : ℕ = c.in-Pin.coupler.0 in
    c.ends.ensures.to ∙ differ.finish s
    ∙ sym (cond-false (c.in-Pin.side == 1) (segment_at t s).from (segment_at t s).to (ne_eqb c.in-Pin.side 1 c.if-side-eq1.false))
    ∙ ap (node_of_end t) (sym c.in-Pin.is)
