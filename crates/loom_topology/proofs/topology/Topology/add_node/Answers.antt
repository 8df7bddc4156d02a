use Rattle.std.proofs.Common.{ap, ◌∙◌, ◌++◌, ◌∷◌, [], map, List, length, arith}
use Rattle.std.proofs.lemmas.List.{map-append}
use Rattle.loom_topology.specs.Topology.{TopologyView, Node}
use Rattle.loom_topology.specs.TopologyInside.{view_of, node_of_data}
use Rattle.loom_topology.proofs.Kept.{IsKept-with_node}
use Rattle.loom_topology.proofs.topology.Topology.add_node.Goals as goal

pub invariant_of-self-2 : goal.invariant_of-self-2
invariant_of-self-2 c =
    let old = view_of c.self.inside in
    let with : List Node → TopologyView = λ nodes. record { nodes = nodes; segments = old.segments; cavities = old.cavities } in
    IsKept-with_node old _ c.self.inside.incidence c.add_node.new.self c.args.harness c.args.branch c.self.invariant
    (ap with
    (ap (map node_of_data) c.in_ok-push.ensures.items
    ∙ map-append node_of_data c.reserve.new.self.items _
    ∙ ap (λ l. map node_of_data l ++ (record { harness = c.args.harness; branch = c.get.result }) ∷ []) c.in_ok-reserve.ensures.items
    ∙ ap (λ b. old.nodes ++ (record { harness = c.args.harness; branch = b }) ∷ []) c.get.ensures.value))
    c.in_ok-add_node.ensures.ok
    (omega (arith, c.get.ensures.value, c.get.ensures.range))
    (omega (arith, ap (λ (t : TopologyView). length t.nodes) c.self.view_is))
