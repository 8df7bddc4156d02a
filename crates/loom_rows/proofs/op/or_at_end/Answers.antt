use Rattle.std.proofs.Common.{arith}
use Rattle.loom_rows.proofs.Ends.{or-left, or-right}
use Rattle.loom_rows.proofs.op.or_at_end.Goals as goal

pub returns-then-second-eq0-clause-some : goal.returns-then-second-eq0-clause-some
returns-then-second-eq0-clause-some c = λ t has_a has_b. or-left t c.args.a c.args.b has_a has_b (grind arith)

pub returns-then-second-eq1-clause-some : goal.returns-then-second-eq1-clause-some
returns-then-second-eq1-clause-some c = λ t has_a has_b. or-right t c.args.a c.args.b has_a has_b (grind arith)
