use Rattle.std.proofs.Common.{Ok, sym, ◌∙◌}
use Rattle.std.proofs.lemmas.List.{take_all, get_or_default}
use Rattle.std.proofs.lemmas.Result.{err_from_is_err_and}
use Rattle.loom_topology.specs.Topology.{open_at}
use Rattle.loom_topology.specs.Table.{cell_at}
use Rattle.loom_potential.specs.FirstBreak.{over_check, over_checks}
use Rattle.loom_base.proofs.EachLemmas.{every_next, every_stops}
use Rattle.loom_topology.proofs.OpenAt.{seen_at, below_all, seen_all, seen_below, found_some, found_end, found_below}
use Rattle.loom_potential.proofs.Sides.{over_is}
use Rattle.loom_potential.proofs.inequalities.test_segments.Goals as goal

pub other_end-requires : goal.other_end-requires
other_end-requires c =
    seen_below c.args.topology.now c.args.node.0 (λ s. s.0) c.segments_at-segment-items.result.now c.loop-segment.segment-index _
    c.segments_at-segment-items.ensures c.loop-segment-test.true

pub price-requires : goal.price-requires
price-requires c =
    seen_below c.args.topology.now c.args.node.0 (λ s. s.0) c.segments_at-segment-items.result.now c.loop-segment.segment-index _
    c.segments_at-segment-items.ensures c.loop-segment-test.true

pub unwrap-end-requires : goal.unwrap-end-requires
unwrap-end-requires c =
    found_some c.args.topology.now c.args.node.0 (λ s. s.0) c.segments_at-segment-items.result.now c.loop-segment.segment-index _
    c.segments_at-segment-items.ensures c.loop-segment-test.true (λ end. end.0) c.other_end.result c.other_end.ensures

pub cell-requires-clause-node_in_range : goal.cell-requires-clause-node_in_range
cell-requires-clause-node_in_range c =
    found_below c.args.topology.now c.args.node.0 (λ s. s.0) c.segments_at-segment-items.result.now c.loop-segment.segment-index _
    c.segments_at-segment-items.ensures c.loop-segment-test.true (λ end. end.0) c.other_end.result c.other_end.ensures
    c.unwrap-end.result c.args.table.now.nodes c.requires.sound c.requires.nodes c.unwrap-end.ensures

pub loop-segment-preserved : goal.loop-segment-preserved
loop-segment-preserved c =
    let end = found_end c.args.topology.now c.args.node.0 (λ s. s.0) c.segments_at-segment-items.result.now c.loop-segment.segment-index _
    c.segments_at-segment-items.ensures c.loop-segment-test.true (λ end. end.0) c.other_end.result c.other_end.ensures
    c.unwrap-end.result c.unwrap-end.ensures in
    let inside = below_all c.args.topology.now c.args.node.0 (λ s. s.0) c.segments_at-segment-items.result.now c.loop-segment.segment-index
    (record { 0 = 0 }) c.segments_at-segment-items.ensures c.loop-segment-test.true in
    let at =
    seen_at c.args.topology.now c.args.node.0 (λ s. s.0) c.segments_at-segment-items.result.now c.loop-segment.segment-index
    (record { 0 = 0 }) c.segments_at-segment-items.ensures c.loop-segment-test.true
    ∙ get_or_default (open_at c.args.topology.now c.args.node.0) c.loop-segment.segment-index 0 _ inside in
    every_next (over_check c.args.topology.now (cell_at c.args.table.now) c.args.mask c.args.node.0)
    (open_at c.args.topology.now c.args.node.0) c.loop-segment.segment-index _ at inside c.loop-segment.invariant
    (sym (over_is c.args.topology.now (cell_at c.args.table.now) c.args.mask c.args.node.0 _ c.cell-left.result c.plus-right.result
    c.cell.result c.unwrap-end.result.0 c.price.result (Ok c.in_ok-at_most.field-0) c.cell-left.ensures.value end
    c.cell.ensures.value c.price.ensures.value c.plus-right.ensures c.in_ok-at_most.ensures))

pub returns-in_err-at_most : goal.returns-in_err-at_most
unfolding over_checks
returns-in_err-at_most c =
    let p = err_from_is_err_and c.from_residual.result c.from_residual.ensures.1 in
    let end = found_end c.args.topology.now c.args.node.0 (λ s. s.0) c.segments_at-segment-items.result.now c.loop-segment.segment-index _
    c.segments_at-segment-items.ensures c.loop-segment-test.true (λ end. end.0) c.other_end.result c.other_end.ensures
    c.unwrap-end.result c.unwrap-end.ensures in
    let inside = below_all c.args.topology.now c.args.node.0 (λ s. s.0) c.segments_at-segment-items.result.now c.loop-segment.segment-index
    (record { 0 = 0 }) c.segments_at-segment-items.ensures c.loop-segment-test.true in
    let at =
    seen_at c.args.topology.now c.args.node.0 (λ s. s.0) c.segments_at-segment-items.result.now c.loop-segment.segment-index
    (record { 0 = 0 }) c.segments_at-segment-items.ensures c.loop-segment-test.true
    ∙ get_or_default (open_at c.args.topology.now c.args.node.0) c.loop-segment.segment-index 0 _ inside in
    rw (p.1, p.2)
    (sym (every_stops (over_check c.args.topology.now (cell_at c.args.table.now) c.args.mask c.args.node.0)
    (open_at c.args.topology.now c.args.node.0) c.loop-segment.segment-index _ _ at inside c.loop-segment.invariant
    (sym (over_is c.args.topology.now (cell_at c.args.table.now) c.args.mask c.args.node.0 _ c.cell-left.result c.plus-right.result
    c.cell.result c.unwrap-end.result.0 c.price.result _ c.cell-left.ensures.value end
    c.cell.ensures.value c.price.ensures.value c.plus-right.ensures c.in_err-at_most.ensures))))

pub returns : goal.returns
unfolding over_checks
returns c =
    sym (rw (take_all c.loop-segment.segment-index (open_at c.args.topology.now c.args.node.0)
    (seen_all c.args.topology.now c.args.node.0 (λ s. s.0) c.segments_at-segment-items.result.now c.loop-segment.segment-index
    c.segments_at-segment-items.ensures c.loop-segment-test.false)) at c.loop-segment.invariant)
