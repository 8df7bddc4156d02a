use Rattle.std.proofs.Common.{◌≡◌, ◌<◌, List, length, ap, ◌∙◌, arith}
use Rattle.std.proofs.lemmas.List.{length-map}
use Rattle.loom_topology.specs.Topology.{TopologyView, Node, with_branch}
use Rattle.loom_topology.specs.TopologyInside.{view_of, node_of_data}
use Rattle.loom_topology.proofs.Numbers.{branch_written, IsKept-with_branch}
use Rattle.loom_topology.proofs.topology.Topology.set_branch.Goals as goal

pub invariant_of-self : goal.invariant_of-self
invariant_of-self c =
    let old = view_of c.self.inside in
    let nodes = c.self.inside.nodes.items in
    let count : length old.nodes ≡ length c.args.self.now.nodes = ap (λ (t : TopologyView). length t.nodes) c.self.view_is in
    let within : c.args.node.0 < length old.nodes = omega (arith, c.requires) in
    let with : List Node → TopologyView = λ kept. record { nodes = kept; segments = old.segments; cavities = old.cavities } in
    IsKept-with_branch old _ c.self.inside.incidence c.args.node.0 c.args.branch c.self.invariant
    (ap with (branch_written nodes c.args.node.0 c.args.branch c.get.result c.index_mut.result.now (omega (arith, within, length-map nodes node_of_data)) c.index_mut.ensures.value c.get.ensures.value))
    within (omega (arith, c.get.ensures.value, c.get.ensures.range))

pub returns : goal.returns
returns c =
    let old = view_of c.self.inside in
    let nodes = c.self.inside.nodes.items in
    let count : length old.nodes ≡ length c.args.self.now.nodes = ap (λ (t : TopologyView). length t.nodes) c.self.view_is in
    let within : c.args.node.0 < length nodes = omega (arith, c.requires, length-map nodes node_of_data) in
    let with : List Node → TopologyView = λ kept. record { nodes = kept; segments = old.segments; cavities = old.cavities } in
    ap with (branch_written nodes c.args.node.0 c.args.branch c.get.result c.index_mut.result.now within c.index_mut.ensures.value c.get.ensures.value)
    ∙ ap (λ (t : TopologyView). with_branch t c.args.node.0 c.args.branch) c.self.view_is
