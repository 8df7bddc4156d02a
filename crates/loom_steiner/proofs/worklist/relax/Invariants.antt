use Rattle.std.proofs.Common.{◌+◌, ◌*◌, ◌≤◌, sum}
use Rattle.std.specs.BinaryHeap.{heap_items, heap_len}
use Rattle.loom_steiner.proofs.Relaxing.{Relaxes}
use Rattle.loom_steiner.proofs.worklist.relax.Given as goal

abbrev pub invariant-loop-way : goal.invariant-loop-way
invariant-loop-way l =
    Relaxes l.from l.node l.cost l.way-index l.initial.row l.row (heap_items l.initial.worklist) (heap_items l.worklist)
    × (2 * sum l.row + heap_len l.worklist ≤ 2 * sum l.initial.row + heap_len l.initial.worklist)
