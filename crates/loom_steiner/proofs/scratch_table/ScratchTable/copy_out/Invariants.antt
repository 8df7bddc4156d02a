use Rattle.loom_steiner.proofs.Copying.{Copies}
use Rattle.loom_steiner.proofs.scratch_table.ScratchTable.copy_out.Given as goal

abbrev pub invariant-loop-before : goal.invariant-loop-before
invariant-loop-before l = Copies l.self l.before l.table
