use Rattle.loom_audit.specs.FirstFailure.{EachBefore}
use Rattle.loom_audit.specs.LayoutRule.{IsLaidAtCost}
use Rattle.loom_audit.proofs.laid.first_not_laid.Given as goal

abbrev pub invariant-loop-at : goal.invariant-loop-at
invariant-loop-at l = EachBefore (λ i set. IsLaidAtCost l.project set) l.plan.sets l.at
