use Rattle.loom_rows.specs.Condition.{value}
use Rattle.loom_active.proofs.PatternSteps.{PatternsSoFar}
use Rattle.loom_active.proofs.patterns.patterns_of.Given as goal

abbrev pub invariant-loop-terminal : goal.invariant-loop-terminal
invariant-loop-terminal l = PatternsSoFar (value l.valid) l.terminals l.terminal-index l.fn.rows l.rows l.patterns l.bit
