use Rattle.std.proofs.Common.{sym, subst, below_more}
use Rattle.loom_base.specs.declared.positions.SegmentNo.{SegmentNo}
use Rattle.loom_topology.specs.Table.{cell_at}
use Rattle.loom_layout.specs.Rule.{IsLowestStep}
use Rattle.loom_layout.proofs.Steps.{item_below, item_opens, no_step, lowest_step}
use Rattle.loom_layout.proofs.rule.lowest_step.Goals as goal

pub step_over-requires-clause-below : goal.step_over-requires-clause-below
step_over-requires-clause-below c =
    item_below c.args.topology.now c.args.node.0 c.segments_at-segment-items.result.now c.loop-segment.invariant.listed
    c.loop-segment.segment-index (record { 0 = 0 }) c.loop-segment-test.true

pub step_over-requires-clause-opens : goal.step_over-requires-clause-opens
step_over-requires-clause-opens c =
    item_opens c.args.topology.now c.args.node.0 c.segments_at-segment-items.result.now c.loop-segment.invariant.listed
    c.loop-segment.segment-index (record { 0 = 0 }) c.loop-segment-test.true

pub returns-in-Some : goal.returns-in-Some
returns-in-Some c =
    subst (λ (s : SegmentNo). IsLowestStep c.args.topology.now (cell_at c.args.table.now) c.args.mask c.args.node.0 s.0 c.in-Some.step.node.0)
    (sym c.in-Some.ensures.0)
    (lowest_step c.args.topology.now c.args.node.0 c.segments_at-segment-items.result.now c.loop-segment.invariant.listed
    (cell_at c.args.table.now) c.args.mask c.loop-segment.segment-index (record { 0 = 0 }) c.loop-segment.invariant.none
    c.in-Some.step.node.0 c.loop-segment-test.true c.in-Some.ensures.1)

pub loop-segment-preserved : goal.loop-segment-preserved
loop-segment-preserved c = record {
  listed = c.loop-segment.invariant.listed;
  none = below_more _ _ c.loop-segment.invariant.none c.in_default.ensures;
}

pub returns : goal.returns
returns c =
    no_step c.args.topology.now c.args.node.0 c.segments_at-segment-items.result.now c.loop-segment.invariant.listed
    (cell_at c.args.table.now) c.args.mask c.loop-segment.segment-index (record { 0 = 0 }) c.loop-segment.invariant.none
    c.loop-segment-test.false
