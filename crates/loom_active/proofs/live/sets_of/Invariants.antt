use Rattle.loom_active.proofs.SetSteps.{SetsSoFar}
use Rattle.loom_active.proofs.live.sets_of.Given as goal

abbrev pub invariant-loop-net : goal.invariant-loop-net
invariant-loop-net l = SetsSoFar l.project l.net l.fn.rows l.rows l.sets
