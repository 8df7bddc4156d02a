use Rattle.loom_plan.proofs.SetUserSteps.{StepsSoFar}
use Rattle.loom_plan.proofs.slot_users.add_set.Given as goal

abbrev pub invariant-loop-step : goal.invariant-loop-step
invariant-loop-step l = StepsSoFar l.topology l.set.net.0 l.set.cond l.step-items l.step-index l.counts l.fn.users l.users
