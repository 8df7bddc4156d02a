use Rattle.loom_rows.proofs.Disjunctions.{AnyJoined}
use Rattle.loom_rows.proofs.rows.Rows.any_of.Given as goal

abbrev pub invariant-loop-cond : goal.invariant-loop-cond
invariant-loop-cond l = AnyJoined l.conds l.cond-index l.fn.self l.self l.any
