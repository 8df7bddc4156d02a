use Rattle.std.proofs.Common.{[], ◌≡◌, length, map}
use Rattle.std.specs.BinaryHeap.{heap_items}
use Rattle.loom_steiner.specs.Filled.{IsFilled}
use Rattle.loom_steiner.proofs.filling.fill.Given as goal

abbrev pub invariant-loop-mask : goal.invariant-loop-mask
invariant-loop-mask l =
    IsFilled l.topology (map (λ cavity. cavity.0) l.terminals) l.mask l.cells.items
    × (length l.row ≡ length l.topology.nodes) × (heap_items l.worklist ≡ [])
