use Rattle.loom_wires.proofs.JoinSteps.{JoinedSoFar}
use Rattle.loom_wires.proofs.joined.joined.Given as goal

abbrev pub invariant-loop-key : goal.invariant-loop-key
invariant-loop-key l = JoinedSoFar l.sets l.fn.found.entries l.fn.rows l.key-iterator l.rows l.cut
