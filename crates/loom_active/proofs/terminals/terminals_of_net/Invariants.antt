use Rattle.loom_rows.specs.Condition.{value}
use Rattle.loom_active.proofs.TerminalSteps.{TerminalsSoFar}
use Rattle.loom_active.proofs.terminals.terminals_of_net.Given as goal

abbrev pub invariant-loop-at : goal.invariant-loop-at
invariant-loop-at l = TerminalsSoFar l.project (value l.valid) l.net.0 l.at l.fn.rows l.rows l.terminals
