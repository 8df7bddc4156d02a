use Rattle.loom_active.specs.SetWires.{SetFormsTree}
use Rattle.loom_audit.specs.FirstFailure.{EachBefore}
use Rattle.loom_audit.proofs.trees.trees_failure.Given as goal

abbrev pub invariant-loop-at : goal.invariant-loop-at
invariant-loop-at l = EachBefore (λ i set. SetFormsTree l.project l.plan set) l.plan.sets l.at
