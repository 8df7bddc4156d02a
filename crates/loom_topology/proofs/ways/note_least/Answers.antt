use Rattle.std.proofs.Common.{ℕ, ◌≡◌, length, ap, subst, arith, ◌∙◌}
use Rattle.loom_topology.specs.Topology.{open_at, segment_at, price_at}
use Rattle.loom_topology.specs.WiringTree.{other_end}
use Rattle.loom_topology.specs.WaysInside.{NotesLeast}
use Rattle.loom_topology.proofs.OpenAt.{seen_at, seen_below, seen_len}
use Rattle.loom_topology.proofs.CheapestSegments.{notes_none, notes_more}
use Rattle.loom_topology.proofs.ways.note_least.Goals as goal

pub way_from-way-requires : goal.way_from-way-requires
way_from-way-requires c =
    seen_below c.args.topology.now c.args.node.0 (λ s. s.0) c.segments_at-segment-items.result.now c.loop-segment.segment-index _
    c.segments_at-segment-items.ensures c.loop-segment-test.true

pub loop-segment-init : goal.loop-segment-init
loop-segment-init c = notes_none c.args.topology.now c.args.node.0 c.args.prices.now c.requires.clear

pub loop-segment-preserved : goal.loop-segment-preserved
loop-segment-preserved c =
    let topology = c.args.topology.now in
    let way = c.way_from-way.result in
    let at = seen_at topology c.args.node.0 (λ s. s.0) c.segments_at-segment-items.result.now c.loop-segment.segment-index (record { 0 = 0 })
    c.segments_at-segment-items.ensures c.loop-segment-test.true in
    rw c.min.ensures
    (notes_more topology c.args.node.0 c.loop-segment.segment-index way.to.0 way.price c.loop-segment.prices
    (ap (λ w. w.to.0) c.way_from-way.ensures.way ∙ ap (λ s. other_end (segment_at topology s) c.args.node.0) at)
    (ap (λ w. w.price) c.way_from-way.ensures.way ∙ ap (price_at topology) at)
    (omega (arith, c.loop-segment.auto.prices, c.requires.places, c.way_from-way.ensures.to_in_range)) c.loop-segment.invariant)

pub returns : goal.returns
returns c =
    let topology = c.args.topology.now in
    let all : c.loop-segment.segment-index ≡ length (open_at topology c.args.node.0) =
    omega (arith, seen_len topology c.args.node.0 (λ s. s.0) c.segments_at-segment-items.result.now c.segments_at-segment-items.ensures) in
    subst (λ (k : ℕ). NotesLeast topology c.args.node.0 k c.loop-segment.prices) all c.loop-segment.invariant
