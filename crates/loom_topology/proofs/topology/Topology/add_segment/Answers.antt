use Rattle.std.proofs.Common.{ap, sym, subst, ◌∙◌, ◌≡◌, ◌++◌, ◌∷◌, [], map, List, length, arith}
use Rattle.std.proofs.lemmas.List.{map-append, length-map}
use Rattle.loom_topology.specs.Topology.{TopologyView, Segment, KeepsBorder, open_segment}
use Rattle.loom_topology.specs.TopologyInside.{view_of, segment_of_link}
use Rattle.loom_topology.proofs.Kept.{IsKept-with_segment}
use Rattle.loom_topology.proofs.topology.Topology.add_segment.Goals as goal

pub invariant_of-self-2 : goal.invariant_of-self-2
invariant_of-self-2 c =
    let old = view_of c.self.inside in
    let nodes : length old.nodes ≡ length c.args.self.now.nodes = ap (λ (t : TopologyView). length t.nodes) c.self.view_is in
    let segments : length old.segments ≡ length c.args.self.now.segments = ap (λ (t : TopologyView). length t.segments) c.self.view_is in
    let with : List Segment → TopologyView = λ links. record { nodes = old.nodes; segments = links; cavities = old.cavities } in
    let number : c.len.result ≡ length old.segments =
    omega (arith, c.len.ensures, c.self.inside.links.ok.0, length-map c.self.inside.links.items segment_of_link) in
    let Keeps : TopologyView → Type 0 = λ t. KeepsBorder t (open_segment c.args.from.0 c.args.to.0 c.args.kind) in
    IsKept-with_segment old _ c.self.inside.incidence c.add_segment.new.self c.args.from.0 c.args.to.0 c.args.kind c.len.result
    c.self.invariant
    (ap with
    (ap (map segment_of_link) c.in_ok-push.ensures.items
    ∙ map-append segment_of_link c.reserve.new.self.items _
    ∙ ap (λ l. map segment_of_link l ++ (segment_of_link c.new.result) ∷ []) c.in_ok-reserve.ensures.items
    ∙ ap (λ g. old.segments ++ g ∷ []) c.new.ensures))
    c.in_ok-add_segment.ensures.ok
    number
    (record {
      from_below = omega (arith, nodes, c.requires.from_in_range);
      to_below = omega (arith, nodes, c.requires.to_in_range);
      apart = c.in_ok-test.ensures.apart;
      price_from = omega (arith, c.price-price.ensures.value, c.price-price.ensures.range);
      price_to = omega (arith, c.price-price.ensures.value, c.price-price.ensures.range);
    })
    (subst Keeps (sym c.self.view_is) c.in_ok-test.ensures.border)
    (omega (arith, segments, c.requires.room))
