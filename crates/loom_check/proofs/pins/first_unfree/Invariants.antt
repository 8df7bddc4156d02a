use Rattle.loom_audit.specs.FirstFailure.{EachBefore}
use Rattle.loom_audit.specs.PinRule.{EndsAtFreePins}
use Rattle.loom_check.proofs.pins.first_unfree.Given as goal

abbrev pub invariant-loop-at : goal.invariant-loop-at
invariant-loop-at l = EachBefore (λ i w. EndsAtFreePins l.project w) l.wires l.at
