use Rattle.loom_audit.specs.FirstFailure.{EachBefore}
use Rattle.loom_audit.specs.LayoutRule.{IsAfterLast}
use Rattle.loom_audit.proofs.rising.first_out_of_order.Given as goal

abbrev pub invariant-loop-at : goal.invariant-loop-at
invariant-loop-at l = EachBefore (IsAfterLast l.plan) l.plan.wires l.at
