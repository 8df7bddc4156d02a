use Rattle.std.proofs.Common.{◌≡◌, ◌<◌, length, get_or, ap, arith, ◌∙◌}
use Rattle.loom_topology.specs.Topology.{segment_at, price_at}
use Rattle.loom_topology.specs.WiringTree.{other_end}
use Rattle.loom_topology.specs.WaysInside.{nth_at, nth_end, nth_price}
use Rattle.loom_topology.proofs.OpenAt.{seen_at, seen_below, below_all, seen_all}
use Rattle.loom_topology.proofs.CheapestSegments.{nth-below, marks_skip, marks_more, marks_clear, marks_at}
use Rattle.loom_topology.proofs.ways.mark_at.Goals.{then-prices-to, else-prices-to}
use Rattle.loom_topology.proofs.ways.mark_at.Goals as goal

pub way_from-way-requires : goal.way_from-way-requires
way_from-way-requires c =
    seen_below c.args.topology.now c.args.node.0 (λ s. s.0) c.segments_at-segment-items.result.now c.loop-segment.segment-index _
    c.segments_at-segment-items.ensures c.loop-segment-test.true

pub bounds-marks-segment : goal.bounds-marks-segment
bounds-marks-segment c =
    omega (
      arith,
      c.requires.room,
      c.loop-segment.auto.marks,
      seen_below c.args.topology.now c.args.node.0 (λ s. s.0) c.segments_at-segment-items.result.now c.loop-segment.segment-index
          (record { 0 = 0 }) c.segments_at-segment-items.ensures c.loop-segment-test.true,
    )

pub loop-segment-preserved : goal.loop-segment-preserved
loop-segment-preserved c =
    let topology = c.args.topology.now in
    let v = c.args.node.0 in
    let items = c.segments_at-segment-items.result.now in
    let k = c.loop-segment.segment-index in
    let best = c.note_least.new.prices in
    let prices = c.loop-segment.prices in
    let old = c.args.marks.now in
    let marks = c.loop-segment.marks in
    let way = c.way_from-way.result in
    let at : (get_or items k (record { 0 = 0 })).0 ≡ nth_at topology v k =
    seen_at topology v (λ s. s.0) items k (record { 0 = 0 }) c.segments_at-segment-items.ensures c.loop-segment-test.true in
    let inside = below_all topology v (λ s. s.0) items k (record { 0 = 0 }) c.segments_at-segment-items.ensures c.loop-segment-test.true in
    let to_is : way.to.0 ≡ nth_end topology v k = ap (λ w. w.to.0) c.way_from-way.ensures.way ∙ ap (λ s. other_end (segment_at topology s) v) at in
    let price_is : way.price ≡ nth_price topology v k = ap (λ w. w.price) c.way_from-way.ensures.way ∙ ap (price_at topology) at in
    let room : way.to.0 < length prices =
    omega (
      arith,
      c.requires.places,
      c.loop-segment.auto.prices,
      c.note_least.auto.prices,
      c.way_from-way.ensures.to_in_range,
    ) in
    let listed : nth_at topology v k < length marks =
    omega (arith, c.requires.room, c.loop-segment.auto.marks, nth-below topology v k inside) in
    elim c.if-prices-to.branch [
      | then-prices-to w ↦
          rw (w.prices-is, w.marks-is, at)
          (marks_more topology v k way.to.0 way.price best prices old marks c.requires.sound c.note_least.ensures inside to_is price_is
          c.loop-segment.invariant room listed w.if-prices-to.true)
      | else-prices-to w ↦
          rw (w.prices-is, w.marks-is)
          (marks_skip topology v k way.to.0 way.price best prices old marks c.requires.sound c.note_least.ensures inside to_is price_is
          c.loop-segment.invariant w.if-prices-to.false)
    ]

pub returns-clause-clear : goal.returns-clause-clear
returns-clause-clear c =
    marks_clear c.args.topology.now c.args.node.0 c.loop-segment.segment-index c.note_least.new.prices c.loop-segment.prices c.args.marks.now
    c.loop-segment.marks
    (seen_all c.args.topology.now c.args.node.0 (λ s. s.0) c.segments_at-segment-items.result.now c.loop-segment.segment-index
    c.segments_at-segment-items.ensures c.loop-segment-test.false) c.note_least.ensures c.loop-segment.invariant

pub returns-clause-marks : goal.returns-clause-marks
returns-clause-marks c =
    marks_at c.args.topology.now c.args.node.0 c.loop-segment.segment-index c.note_least.new.prices c.loop-segment.prices c.args.marks.now
    c.loop-segment.marks
    (seen_all c.args.topology.now c.args.node.0 (λ s. s.0) c.segments_at-segment-items.result.now c.loop-segment.segment-index
    c.segments_at-segment-items.ensures c.loop-segment-test.false) c.note_least.ensures c.loop-segment.invariant
