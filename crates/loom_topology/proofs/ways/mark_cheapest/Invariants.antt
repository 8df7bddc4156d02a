use Rattle.std.proofs.Common.{length}
use Rattle.loom_topology.specs.WaysInside.{IsClear}
use Rattle.loom_topology.proofs.CheapestSegments.{MarksBelow}
use Rattle.loom_topology.proofs.ways.mark_cheapest.Given as goal

abbrev pub invariant-loop-node : goal.invariant-loop-node
invariant-loop-node l = record {
  clear : IsClear (length l.topology.nodes) l.prices;
  marks : MarksBelow l.topology l.node l.marks;
}
