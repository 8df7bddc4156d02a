use Rattle.std.proofs.Common.{◌≡◌, take, map, Ok}
use Rattle.loom_base.specs.First.{each}
use Rattle.loom_project.specs.Draft.{node_names, segment_names}
use Rattle.loom_project.specs.Project.{placed_segment}
use Rattle.loom_project.specs.Sound.{segment_check}
use Rattle.loom_project.proofs.segments.add_segments.Given as goal

abbrev pub invariant-loop-segment : goal.invariant-loop-segment
invariant-loop-segment l = record {
  taken : l.taken ≡ segment_names (take l.segment-index l.segments);
  topology : l.topology ≡ record l.fn.topology { segments = map (placed_segment (node_names l.nodes)) (take l.segment-index l.segments) };
  passed : each (λ before segment. segment_check l.nodes (segment_names before) segment) (take l.segment-index l.segments) ≡ Ok tt;
}
