use Rattle.loom_plan.proofs.UsageSteps.{UsagesSoFar}
use Rattle.loom_plan.proofs.slots.with_usages.Given as goal

abbrev pub invariant-loop-key : goal.invariant-loop-key
invariant-loop-key l = UsagesSoFar l.users.entries l.key-iterator l.fn.rows l.rows l.slots
