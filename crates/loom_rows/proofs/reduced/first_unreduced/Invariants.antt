use Rattle.loom_rows.proofs.ReducedRows.{AreSeen}
use Rattle.loom_rows.proofs.reduced.first_unreduced.Given as goal

abbrev pub invariant-loop-at : goal.invariant-loop-at
invariant-loop-at l = AreSeen l.options l.list l.at l.seen
