use Rattle.std.proofs.Common.{length, ap, ◌∙◌}
use Rattle.loom_topology.specs.Found.{FoundView, view_of_found}
use Rattle.loom_topology.proofs.Found.{with_found-count}
use Rattle.loom_topology.proofs.OpenAt.{seen_at, seen_below, seen_all, found_some, end_is, end_leads}
use Rattle.loom_topology.proofs.Spread.{IsSpreading-none, IsSpreading-more, IsSpread-from_all}
use Rattle.loom_topology.proofs.spreading.Found.add_ends.Goals as goal

pub loop-segment-init : goal.loop-segment-init
loop-segment-init c = record {
  count = c.requires.count;
  spreading = IsSpreading-none c.args.topology.now c.args.node.0 (view_of_found c.args.self.now);
}

pub other_end-requires : goal.other_end-requires
other_end-requires c =
    seen_below c.args.topology.now c.args.node.0 (λ s. s.0) c.segments_at-segment-items.result.now c.loop-segment.segment-index _
    c.segments_at-segment-items.ensures c.loop-segment-test.true

pub unwrap-end-requires : goal.unwrap-end-requires
unwrap-end-requires c =
    found_some c.args.topology.now c.args.node.0 (λ s. s.0) c.segments_at-segment-items.result.now c.loop-segment.segment-index _
    c.segments_at-segment-items.ensures c.loop-segment-test.true (λ end. end.0) c.other_end.result c.other_end.ensures

pub loop-segment-preserved : goal.loop-segment-preserved
loop-segment-preserved c = record {
  count =
      ap (λ (f : FoundView). length f.marks) c.in_ok-add.ensures
      ∙ (with_found-count (view_of_found c.loop-segment.self) c.unwrap-end.result.0 ∙ c.loop-segment.invariant.count);
  spreading =
      IsSpreading-more c.args.topology.now c.args.node.0 c.loop-segment.segment-index _ c.unwrap-end.result.0
      (view_of_found c.args.self.now) (view_of_found c.loop-segment.self) (view_of_found c.add.new.self) c.requires.sound
      c.loop-segment.invariant.spreading
      (seen_at c.args.topology.now c.args.node.0 (λ s. s.0) c.segments_at-segment-items.result.now c.loop-segment.segment-index (record { 0 = 0 })
      c.segments_at-segment-items.ensures c.loop-segment-test.true)
      (end_leads c.args.topology.now c.args.node.0 (λ s. s.0) c.segments_at-segment-items.result.now c.loop-segment.segment-index _
      c.segments_at-segment-items.ensures c.loop-segment-test.true (λ end. end.0) c.other_end.result c.other_end.ensures
      c.unwrap-end.result c.unwrap-end.ensures)
      (end_is c.args.topology.now c.args.node.0 (λ s. s.0) c.segments_at-segment-items.result.now c.loop-segment.segment-index _
      c.segments_at-segment-items.ensures c.loop-segment-test.true (λ end. end.0) c.other_end.result c.other_end.ensures
      c.unwrap-end.result c.unwrap-end.ensures)
      c.in_ok-add.ensures;
}

pub returns : goal.returns
returns c =
    IsSpread-from_all c.args.topology.now c.args.node.0 c.loop-segment.segment-index (view_of_found c.args.self.now)
    (view_of_found c.loop-segment.self) c.requires.sound
    (seen_all c.args.topology.now c.args.node.0 (λ s. s.0) c.segments_at-segment-items.result.now c.loop-segment.segment-index
    c.segments_at-segment-items.ensures c.loop-segment-test.false)
    c.loop-segment.invariant.spreading
