use Rattle.std.proofs.Common.{ap, ◌∙◌, ◌≡◌, map, sym, subst, List, ℕ, length, arith}
use Rattle.std.specs.List.{All}
use Rattle.std.proofs.lemmas.List.{length-map}
use Rattle.loom_topology.specs.Topology.{TopologyView, Segment, Node, IsSoundSegment, shut_among}
use Rattle.loom_topology.specs.TopologyInside.{view_of, node_of_data, segment_of_link, IsIndexed}
use Rattle.loom_topology.proofs.ShutSegments.{IsSound-shut_in, length-shut_among}
use Rattle.loom_topology.proofs.Kept.{IsKept-shut_in}
use Rattle.loom_topology.proofs.topology.Topology.shut.Goals as goal

pub incidence_of-requires-clause-few : goal.incidence_of-requires-clause-few
incidence_of-requires-clause-few c =
    let old = view_of c.self.inside in
    let list = map (λ s. s.0) c.args.segments.now in
    let segments : map segment_of_link c.deref-3.result.now ≡ shut_among old.segments list =
    ap (map segment_of_link) c.deref-3.ensures.value
    ∙ c.in_ok-links.ensures
    ∙ ap (λ l. shut_among (map segment_of_link l) list) c.deref.ensures.value in
    omega (
      arith,
      ap length segments,
      length-shut_among old.segments list,
      length-map c.deref-3.result.now segment_of_link,
      c.self.invariant.sound.few_segments,
    )

pub incidence_of-requires-clause-sound : goal.incidence_of-requires-clause-sound
incidence_of-requires-clause-sound c =
    let old = view_of c.self.inside in
    let list = map (λ s. s.0) c.args.segments.now in
    let nodes : c.len.result ≡ length old.nodes =
    omega (arith, c.len.ensures, c.self.inside.nodes.ok.0, length-map c.self.inside.nodes.items node_of_data) in
    let segments : map segment_of_link c.deref-3.result.now ≡ shut_among old.segments list =
    ap (map segment_of_link) c.deref-3.ensures.value
    ∙ c.in_ok-links.ensures
    ∙ ap (λ l. shut_among (map segment_of_link l) list) c.deref.ensures.value in
    let P : List Segment → Type 0 = λ l. All (IsSoundSegment c.len.result) l in
    let Q : ℕ → Type 0 = λ n. All (IsSoundSegment n) (shut_among old.segments list) in
    subst P (sym segments) (subst Q (sym nodes) (IsSound-shut_in old list c.self.invariant.sound).segments)

pub invariant_of-result : goal.invariant_of-result
invariant_of-result c =
    let old = view_of c.self.inside in
    let list = map (λ s. s.0) c.args.segments.now in
    let nodes : c.len.result ≡ length old.nodes =
    omega (arith, c.len.ensures, c.self.inside.nodes.ok.0, length-map c.self.inside.nodes.items node_of_data) in
    let shut : map segment_of_link c.in_ok-links.links.items ≡ shut_among old.segments list =
    c.in_ok-links.ensures ∙ ap (λ l. shut_among (map segment_of_link l) list) c.deref.ensures.value in
    let segments : map segment_of_link c.deref-3.result.now ≡ shut_among old.segments list =
    ap (map segment_of_link) c.deref-3.ensures.value ∙ shut in
    let made : List Node → List Segment → List ℕ → TopologyView = λ n s k. record { nodes = n; segments = s; cavities = k } in
    let after = c.in_ok-incidence_of.field-0 in
    let P : List Segment → Type 0 = λ l. IsIndexed after (length old.nodes) l in
    let Q : ℕ → Type 0 = λ n. IsIndexed after n (map segment_of_link c.deref-3.result.now) in
    let links = map segment_of_link c.in_ok-links.links.items in
    let cavities = map (λ v. v.0) c.in_ok-from_slice-2.field-0.items in
    IsKept-shut_in old _ c.self.inside.incidence after list c.self.invariant
    (ap (λ n. made n links cavities) (ap (map node_of_data) (c.in_ok-from_slice.ensures.items ∙ c.deref-2.ensures.value))
    ∙ ap (λ s. made old.nodes s cavities) shut
    ∙ ap (made old.nodes (shut_among old.segments list)) (ap (map (λ v. v.0)) (c.in_ok-from_slice-2.ensures.items ∙ c.deref-4.ensures.value)))
    (subst P segments (subst Q nodes c.in_ok-incidence_of.ensures))

pub returns-clause-count : goal.returns-clause-count
returns-clause-count c =
    let list = map (λ s. s.0) c.args.segments.now in
    ap length c.in_ok-links.ensures
    ∙ length-shut_among (map segment_of_link c.deref.result.now) list
    ∙ ap (λ l. length (map segment_of_link l)) c.deref.ensures.value
    ∙ ap (λ (t : TopologyView). length t.segments) c.self.view_is
