use Rattle.loom_rows.specs.Condition.{value}
use Rattle.loom_active.proofs.TerminalSteps.{NetsSoFar}
use Rattle.loom_active.proofs.terminals.terminals_of.Given as goal

abbrev pub invariant-loop-net : goal.invariant-loop-net
invariant-loop-net l = NetsSoFar l.project (value l.valid) l.net l.fn.rows l.rows l.nets
