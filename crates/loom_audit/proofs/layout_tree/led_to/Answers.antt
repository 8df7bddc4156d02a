use Rattle.std.proofs.Common.{ap, sym, ◌∙◌, arith}
use Rattle.loom_topology.specs.Topology.{TopologyView, other_end_at}
use Rattle.loom_audit.proofs.PassableSteps.{led, past_segments, shut}
use Rattle.loom_audit.proofs.layout_tree.led_to.Goals as goal
use Rattle.loom_audit.proofs.layout_tree.led_to.Goals.{then-segment-segment_count-via-then-segment-segment_count, then-segment-segment_count-via-else-segment-segment_count+then-not-is_open_to}

pub returns-then-segment-segment_count-clause-not : goal.returns-then-segment-segment_count-clause-not
returns-then-segment-segment_count-clause-not c = elim c.then-segment-segment_count.branch [
  | then-segment-segment_count-via-then-segment-segment_count w ↦
      past_segments c.args.project.now c.args.net.0 c.args.start.0 c.args.segment.0
      (omega (arith, w.if-segment-segment_count.true, c.segment_count.ensures.count, c.topology-topology.ensures.segments))
  | then-segment-segment_count-via-else-segment-segment_count+then-not-is_open_to w ↦
      shut c.args.project.now c.args.net.0 c.args.start.0 c.args.segment.0 (sym w.if-not-is_open_to.ensures.topology)
]

pub returns-clause-passable : goal.returns-clause-passable
returns-clause-passable c =
    (led c.args.project.now c.args.net.0 c.args.start.0 c.args.segment.0 c.other_end.result (sym c.if-not-is_open_to.ensures.topology)
    (c.other_end.ensures ∙ ap (λ (t : TopologyView). other_end_at t c.args.segment.0 c.args.start.0) c.topology-topology.ensures.topology)).passable

pub returns-clause-to : goal.returns-clause-to
returns-clause-to c =
    (led c.args.project.now c.args.net.0 c.args.start.0 c.args.segment.0 c.other_end.result (sym c.if-not-is_open_to.ensures.topology)
    (c.other_end.ensures ∙ ap (λ (t : TopologyView). other_end_at t c.args.segment.0 c.args.start.0) c.topology-topology.ensures.topology)).to

pub returns-clause-not : goal.returns-clause-not
returns-clause-not c =
    (led c.args.project.now c.args.net.0 c.args.start.0 c.args.segment.0 c.other_end.result (sym c.if-not-is_open_to.ensures.topology)
    (c.other_end.ensures ∙ ap (λ (t : TopologyView). other_end_at t c.args.segment.0 c.args.start.0) c.topology-topology.ensures.topology)).not
