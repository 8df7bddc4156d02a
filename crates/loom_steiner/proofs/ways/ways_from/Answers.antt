use Rattle.std.proofs.Common.{◌≡◌, List, false, get_or, ap, sym, subst, arith, ◌∙◌}
use Rattle.loom_topology.specs.declared.ways.Way.{Way}
use Rattle.loom_topology.specs.Ways.{way_from}
use Rattle.loom_topology.proofs.OpenAt.{seen_at, seen_below, seen_all, below_all}
use Rattle.loom_steiner.specs.Ways.{AreWaysFrom}
use Rattle.loom_steiner.proofs.OpenWays.{nth, takes_skip, takes_more, takes_ways}
use Rattle.loom_steiner.proofs.ways.ways_from.Goals.{then-marks-segment+in_ok-push, else-marks-segment}
use Rattle.loom_steiner.proofs.ways.ways_from.Goals as goal

pub bounds-marks-segment : goal.bounds-marks-segment
bounds-marks-segment c =
    omega (
      arith,
      c.requires.room,
      seen_below c.args.topology.now c.args.node.0 (λ s. s.0) c.segments_at-segments.result.now c.loop-segment.segment-index
          (record { 0 = 0 }) c.segments_at-segments.ensures c.loop-segment-test.true,
    )

pub way_from-requires : goal.way_from-requires
way_from-requires c =
    seen_below c.args.topology.now c.args.node.0 (λ s. s.0) c.segments_at-segments.result.now c.loop-segment.segment-index _
    c.segments_at-segments.ensures c.loop-segment-test.true

pub loop-segment-preserved : goal.loop-segment-preserved
loop-segment-preserved c =
    let topology = c.args.topology.now in
    let v = c.args.node.0 in
    let k = c.loop-segment.segment-index in
    let items = c.segments_at-segments.result.now in
    let marks = c.args.marks.now in
    let ways = c.loop-segment.ways.items in
    let at : (get_or items k (record { 0 = 0 })).0 ≡ nth topology v k =
    seen_at topology v (λ s. s.0) items k (record { 0 = 0 }) c.segments_at-segments.ensures c.loop-segment-test.true in
    let inside = below_all topology v (λ s. s.0) items k (record { 0 = 0 }) c.segments_at-segments.ensures c.loop-segment-test.true in
    elim c.if-marks-segment.branch [
      | then-marks-segment+in_ok-push w ↦
          rw (w.ways-is, w.in_ok-push.ensures.items)
          (takes_more topology v k marks ways w.way_from.result inside (w.way_from.ensures.way ∙ ap (way_from topology v) at)
          c.requires.node w.way_from.ensures.to_in_range w.way_from.ensures.range c.loop-segment.invariant)
      | else-marks-segment w ↦
          rw w.ways-is
          (takes_skip topology v k marks ways (ap (λ s. get_or marks s false) (sym at) ∙ w.if-marks-segment.false) c.loop-segment.invariant)
    ]

pub returns-clause-ways : goal.returns-clause-ways
returns-clause-ways c =
    let topology = c.args.topology.now in
    let v = c.args.node.0 in
    subst (λ (ways : List Way). AreWaysFrom topology v ways) (sym c.into_bump_slice.ensures)
    (takes_ways topology v c.loop-segment.segment-index c.args.marks.now c.loop-segment.ways.items c.requires.marks
    (seen_all topology v (λ s. s.0) c.segments_at-segments.result.now c.loop-segment.segment-index c.segments_at-segments.ensures
    c.loop-segment-test.false) c.loop-segment.invariant)
