use Rattle.std.proofs.Common.{◌≡◌, length}
use Rattle.loom_rows.specs.Printing.{known_by}
use Rattle.loom_rows.proofs.PrintSteps.{Listed}
use Rattle.loom_rows.proofs.rows.Rows.list.Given as goal

abbrev pub invariant-loop-cond : goal.invariant-loop-cond
invariant-loop-cond l = (length l.numbers ≡ l.cond-index) × Listed l.self l.conds l.rows (known_by l.known) l.numbers
