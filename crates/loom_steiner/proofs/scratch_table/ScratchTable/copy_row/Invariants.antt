use Rattle.loom_steiner.specs.Scratch.{CopiesRow}
use Rattle.loom_steiner.proofs.scratch_table.ScratchTable.copy_row.Given as goal

abbrev pub invariant-loop-node : goal.invariant-loop-node
invariant-loop-node l = CopiesRow l.self l.mask l.node l.initial.table l.table
