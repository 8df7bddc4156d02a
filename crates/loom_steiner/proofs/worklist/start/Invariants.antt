use Rattle.std.specs.BinaryHeap.{heap_items}
use Rattle.loom_steiner.proofs.Starting.{Starts}
use Rattle.loom_steiner.proofs.worklist.start.Given as goal

abbrev pub invariant-loop-node : goal.invariant-loop-node
invariant-loop-node l = Starts l.ways l.row l.node (heap_items l.worklist)
