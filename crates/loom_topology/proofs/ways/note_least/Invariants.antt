use Rattle.loom_topology.specs.WaysInside.{NotesLeast}
use Rattle.loom_topology.proofs.ways.note_least.Given as goal

abbrev pub invariant-loop-segment : goal.invariant-loop-segment
invariant-loop-segment l = NotesLeast l.topology l.node.0 l.segment-index l.prices
