use Rattle.std.proofs.Common.{arith}
use Rattle.loom_rows.proofs.Ends.{and-left, and-right}
use Rattle.loom_rows.proofs.op.and_at_end.Goals as goal

pub returns-then-second-eq1-clause-some : goal.returns-then-second-eq1-clause-some
returns-then-second-eq1-clause-some c = λ t has_a has_b. and-left t c.args.a c.args.b has_a has_b (grind arith)

pub returns-then-second-eq0-clause-some : goal.returns-then-second-eq0-clause-some
returns-then-second-eq0-clause-some c = λ t has_a has_b. and-right t c.args.a c.args.b has_a has_b (grind arith)
