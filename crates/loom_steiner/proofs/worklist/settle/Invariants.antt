use Rattle.std.proofs.Common.{◌+◌, ◌*◌, sum}
use Rattle.std.specs.BinaryHeap.{heap_items, heap_len}
use Rattle.loom_steiner.proofs.Settling.{Settles}
use Rattle.loom_steiner.proofs.worklist.settle.Given as goal

abbrev pub invariant-loop-offer : goal.invariant-loop-offer
invariant-loop-offer l = Settles l.ways l.initial.row l.row (heap_items l.worklist)

abbrev pub decreases-loop-offer : goal.decreases-loop-offer
decreases-loop-offer l = 2 * sum l.row + heap_len l.worklist
