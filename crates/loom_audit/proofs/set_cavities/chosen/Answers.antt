use Rattle.std.proofs.Common.{map, ◌∙◌}
use Rattle.loom_base.specs.declared.positions.CavityNo.{CavityNo}
use Rattle.loom_topology.specs.Legal.{chosen}
use Rattle.loom_audit.proofs.ChosenCavities.{taken-more, left-more}
use Rattle.loom_audit.proofs.set_cavities.chosen.Goals as goal
use Rattle.loom_audit.proofs.set_cavities.chosen.Goals.{then-rest-eq1+in_ok-push, else-rest-eq1}

pub loop-cavity-preserved : goal.loop-cavity-preserved
loop-cavity-preserved c = elim c.if-rest-eq1.branch [
  | then-rest-eq1+in_ok-push w ↦
      taken-more c.args.cavities.now c.loop-cavity.some c.if-rest-eq1.some (chosen (map (λ (x : CavityNo). x.0) c.args.cavities.now) c.args.mask)
      c.loop-cavity.cavity-index c.loop-cavity.rest _ c.loop-cavity-test.true c.loop-cavity.invariant w.if-rest-eq1.true (w.some-is ∙ w.in_ok-push.ensures.ok)
  | else-rest-eq1 w ↦
      left-more c.args.cavities.now c.loop-cavity.some c.if-rest-eq1.some (chosen (map (λ (x : CavityNo). x.0) c.args.cavities.now) c.args.mask)
      c.loop-cavity.cavity-index c.loop-cavity.rest (record { 0 = 0 }) c.loop-cavity-test.true c.loop-cavity.invariant w.if-rest-eq1.false w.some-is
]
