use Rattle.loom_topology.proofs.CheapestSegments.{Marks}
use Rattle.loom_topology.proofs.ways.mark_at.Given as goal

abbrev pub invariant-loop-segment : goal.invariant-loop-segment
invariant-loop-segment l = Marks l.topology l.node.0 l.segment-index l.initial.prices l.prices l.initial.marks l.marks
