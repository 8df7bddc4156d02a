use Rattle.std.proofs.Common.{vec_len}
use Rattle.loom_audit.specs.Threads.{legs_back, waiting}
use Rattle.loom_audit.proofs.WalkSteps.{Goes}
use Rattle.loom_audit.proofs.walk.walked.Given as goal

abbrev pub invariant-loop-leg : goal.invariant-loop-leg
invariant-loop-leg l =
    Goes l.net.0 l.stem l.splices (waiting l.fn.stacks.items) (legs_back l.fn.legs.items)
    (waiting l.stacks.items) (legs_back l.legs.items) l.wires

abbrev pub decreases-loop-leg : goal.decreases-loop-leg
decreases-loop-leg l = vec_len l.legs
