use Rattle.std.proofs.Common.{◌≡◌, ◌<◌, List, length, ap, ◌∙◌, arith}
use Rattle.std.proofs.lemmas.List.{length-map}
use Rattle.loom_topology.specs.Topology.{TopologyView, Segment, with_price}
use Rattle.loom_topology.specs.TopologyInside.{view_of, segment_of_link}
use Rattle.loom_topology.proofs.Numbers.{price_written, IsKept-with_price}
use Rattle.loom_topology.proofs.topology.Topology.set_price.Goals as goal

pub invariant_of-self : goal.invariant_of-self
invariant_of-self c =
    let old = view_of c.self.inside in
    let links = c.self.inside.links.items in
    let count : length old.segments ≡ length c.args.self.now.segments = ap (λ (t : TopologyView). length t.segments) c.self.view_is in
    let within : c.args.segment.0 < length old.segments = omega (arith, c.requires) in
    let with : List Segment → TopologyView = λ segments. record { nodes = old.nodes; segments = segments; cavities = old.cavities } in
    IsKept-with_price old _ c.self.inside.incidence c.args.segment.0 c.args.price c.self.invariant
    (ap with (price_written links c.args.segment.0 c.args.price c.index.result.now c.index_mut.result.now c.priced.result (omega (arith, within, length-map links segment_of_link)) c.index.ensures c.index_mut.ensures.value c.priced.ensures.value))
    within (omega (arith, c.priced.ensures.range)) (omega (arith, c.priced.ensures.range))

pub returns : goal.returns
returns c =
    let old = view_of c.self.inside in
    let links = c.self.inside.links.items in
    let count : length old.segments ≡ length c.args.self.now.segments = ap (λ (t : TopologyView). length t.segments) c.self.view_is in
    let within : c.args.segment.0 < length links = omega (arith, c.requires, length-map links segment_of_link) in
    let with : List Segment → TopologyView = λ segments. record { nodes = old.nodes; segments = segments; cavities = old.cavities } in
    ap with (price_written links c.args.segment.0 c.args.price c.index.result.now c.index_mut.result.now c.priced.result within c.index.ensures c.index_mut.ensures.value c.priced.ensures.value)
    ∙ ap (λ (t : TopologyView). with_price t c.args.segment.0 c.args.price) c.self.view_is
