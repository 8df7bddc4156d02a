use Rattle.std.proofs.Common.{arith}
use Rattle.loom_rows.proofs.Ends.{differ-never}
use Rattle.loom_rows.proofs.op.differ_at_end.Goals as goal

pub returns-then-first-second-clause-some : goal.returns-then-first-second-clause-some
returns-then-first-second-clause-some c = λ t has_a has_b. differ-never t c.args.a c.args.b has_a has_b (grind arith)
