use Rattle.std.proofs.Common.{ap, ◌∙◌, map, List, ℕ, length, arith}
use Rattle.std.proofs.lemmas.List.{map-append}
use Rattle.loom_topology.specs.Topology.{TopologyView}
use Rattle.loom_topology.specs.TopologyInside.{view_of}
use Rattle.loom_topology.proofs.Kept.{IsKept-with_cavity}
use Rattle.loom_topology.proofs.topology.Topology.add_cavity.Goals as goal

pub invariant_of-self-2 : goal.invariant_of-self-2
invariant_of-self-2 c =
    let old = view_of c.self.inside in
    let with : List ℕ → TopologyView = λ cavities. record { nodes = old.nodes; segments = old.segments; cavities = cavities } in
    IsKept-with_cavity old _ c.self.inside.incidence c.args.node.0 c.self.invariant
    (ap with (ap (map (λ v. v.0)) c.in_ok-push.ensures.items ∙ map-append (λ v. v.0) c.self.inside.cavities.items _))
    (omega (arith, ap (λ (t : TopologyView). length t.nodes) c.self.view_is))
    (omega (arith, ap (λ (t : TopologyView). length t.cavities) c.self.view_is))
