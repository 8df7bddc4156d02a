use Rattle.std.proofs.Common.{◌≡◌, ◌<◌, ◌+◌, ◌∷◌, ◌++◌, [], List, ℕ, length, map, take, get_or, ap, ◌∙◌, sym, subst, arith, true, false}
use Rattle.std.proofs.Math.ListN.{set}
use Rattle.std.proofs.lemmas.List.{length-map, get_or-map, map-set, map-append, take_more, take_all}
use Rattle.loom_base.specs.declared.positions.SegmentNo.{SegmentNo}
use Rattle.loom_topology.specs.Topology.{no_segment, shut_if, shut_among}
use Rattle.loom_topology.specs.declared.topology.Link.{Link}
use Rattle.loom_topology.specs.TopologyInside.{segment_of_link}
use Rattle.loom_topology.proofs.ShutSegments.{IsShut, IsShut-none, IsShut-push, same_from_IsShut}
use Rattle.loom_topology.proofs.topology.shut_links.Goals as goal

pub loop-segment-init : goal.loop-segment-init
loop-segment-init c = IsShut-none (map segment_of_link c.args.links.now) c.requires.are_open

pub loop-segment-preserved : goal.loop-segment-preserved
loop-segment-preserved c =
    let i = c.loop-segment.segment-index in
    let zero : SegmentNo = record { 0 = 0 } in
    let s = (get_or c.args.segments.now i zero).0 in
    let links = c.loop-segment.links in
    let link = get_or links s c.index-links-segment.result in
    let closed : Link = record { from = link.from; to = link.to; kind = link.kind; is_open = false } in
    let list = map (λ s. s.0) (take i c.args.segments.now) in
    let old = map segment_of_link c.args.links.now in
    let within : s < length links = omega (arith, c.requires.in_range i zero c.loop-segment-test.true, c.loop-segment.auto.links) in
    let named : s < length old =
    omega (arith, c.requires.in_range i zero c.loop-segment-test.true, length-map c.args.links.now segment_of_link) in
    let more : map (λ s. s.0) (take (i + 1) c.args.segments.now) ≡ list ++ s ∷ [] =
    ap (map (λ s. s.0)) (take_more c.args.segments.now i zero c.loop-segment-test.true) ∙ map-append (λ s. s.0) _ _ in
    let shut : segment_of_link closed ≡ shut_if true (get_or (map segment_of_link links) s no_segment) =
    ap (shut_if true) (sym (get_or-map segment_of_link links s c.index-links-segment.result no_segment within)) in
    let P : List ℕ → Type 0 = λ l. IsShut (map segment_of_link (set links s closed)) old l in
    subst P (sym more)
    (IsShut-push (map segment_of_link links) (map segment_of_link (set links s closed)) old list s (segment_of_link closed)
    c.loop-segment.invariant named shut (map-set segment_of_link links s closed))

pub returns : goal.returns
returns c =
    same_from_IsShut (map segment_of_link c.loop-segment.links) (map segment_of_link c.args.links.now) _ c.loop-segment.invariant
    ∙ ap (λ l. shut_among (map segment_of_link c.args.links.now) (map (λ s. s.0) l))
    (take_all c.loop-segment.segment-index c.args.segments.now c.loop-segment-test.false)
