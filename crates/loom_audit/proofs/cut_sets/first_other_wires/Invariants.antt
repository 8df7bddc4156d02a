use Rattle.loom_audit.specs.FirstFailure.{EachBefore}
use Rattle.loom_audit.specs.LayoutRule.{AreOfLayout}
use Rattle.loom_audit.proofs.cut_sets.first_other_wires.Given as goal

abbrev pub invariant-loop-at : goal.invariant-loop-at
invariant-loop-at l = EachBefore (λ i set. AreOfLayout l.project l.plan set) l.plan.sets l.at
