use Rattle.std.proofs.Common.{subst, refl, arith}
use Rattle.loom_audit.specs.PinRule.{EndsAtFreePins}
use Rattle.loom_audit.proofs.Firsts.{before_more, each_from_before}
use Rattle.loom_check.proofs.pins.first_unfree.Goals as goal

pub loop-at-preserved : goal.loop-at-preserved
loop-at-preserved c =
    before_more (λ i w. EndsAtFreePins c.args.project.now w) c.args.wires.now c.loop-at.at c.index-wires-at.result c.loop-at-test.true c.loop-at.invariant
    (subst (EndsAtFreePins c.args.project.now) c.index-wires-at.is (c.if-not-ends_at_free_pins.ensures.0 refl))

pub returns-clause-holds : goal.returns-clause-holds
returns-clause-holds c =
    each_from_before (λ i w. EndsAtFreePins c.args.project.now w) c.args.wires.now c.loop-at.at (omega (arith, c.loop-at-test.false)) c.loop-at.invariant
