use Rattle.loom_formula.specs.RowList.{AreBelow}
use Rattle.loom_rows.specs.RowLists.{IsReduced}
use Rattle.loom_rows.proofs.TakeIn.{TakenIn}
use Rattle.loom_rows.proofs.rows.Rows.take_in.Given as goal

abbrev pub invariant-loop-at : goal.invariant-loop-at
invariant-loop-at l = (below : AreBelow l.list) (reduced : IsReduced l.list) → TakenIn l.list below reduced l.at l.fn.self l.self l.conds
