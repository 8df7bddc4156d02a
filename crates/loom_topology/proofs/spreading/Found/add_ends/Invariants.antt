use Rattle.std.proofs.Common.{◌≡◌, length}
use Rattle.loom_topology.specs.Found.{view_of_found}
use Rattle.loom_topology.proofs.Spread.{IsSpreading}
use Rattle.loom_topology.proofs.spreading.Found.add_ends.Given as goal

abbrev pub invariant-loop-segment : goal.invariant-loop-segment
invariant-loop-segment l = record {
  count : length l.self.marks.items ≡ length l.topology.nodes;
  spreading : IsSpreading l.topology l.node.0 l.segment-index (view_of_found l.initial.self) (view_of_found l.self);
}
