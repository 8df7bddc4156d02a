use Rattle.loom_rows.specs.Condition.{value}
use Rattle.loom_active.proofs.PatternLemmas.{JoinedSoFar}
use Rattle.loom_active.proofs.patterns.joined_with.Given as goal

abbrev pub invariant-loop-pattern : goal.invariant-loop-pattern
invariant-loop-pattern l = JoinedSoFar (value l.cond) l.bit l.patterns l.pattern-index l.fn.rows l.rows l.joined
