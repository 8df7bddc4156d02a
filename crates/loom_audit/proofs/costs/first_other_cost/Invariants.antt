use Rattle.loom_audit.specs.CostRule.{DoCostsAgree}
use Rattle.loom_audit.specs.FirstFailure.{EachBefore}
use Rattle.loom_audit.proofs.costs.first_other_cost.Given as goal

abbrev pub invariant-loop-at : goal.invariant-loop-at
invariant-loop-at l = EachBefore (λ i set. DoCostsAgree l.project l.plan set) l.plan.sets l.at
