use Rattle.std.proofs.Common.{map}
use Rattle.loom_topology.specs.Table.{cell_at}
use Rattle.loom_layout.specs.Walk.{laying_of, left_of}
use Rattle.loom_layout.proofs.Laying.{GoesOn}
use Rattle.loom_layout.proofs.walk.Walk.+lay.Given as goal

abbrev pub decreases-lay : goal.decreases-lay
decreases-lay l = left_of l.topology.now (cell_at l.table.now) l.bundle.mask l.bundle.node.0

abbrev pub invariant-loop-bit : goal.invariant-loop-bit
invariant-loop-bit l =
    GoesOn l.topology (map (λ c. c.0) l.terminals) (cell_at l.table)
    l.fn.bundle.mask l.fn.bundle.node.0 l.fn.bundle.point (laying_of l.fn.self)
    l.bundle.mask l.bundle.node.0 l.bundle.point (laying_of l.self)

abbrev pub decreases-loop-bit : goal.decreases-loop-bit
decreases-loop-bit l = left_of l.topology (cell_at l.table) l.bundle.mask l.bundle.node.0
