use Rattle.std.proofs.Common.{ℕ, List, map, ap, ◌∙◌, Vec, Global}
use Rattle.loom_base.specs.declared.positions.CavityNo.{CavityNo}
use Rattle.loom_topology.specs.Legal.{chosen}
use Rattle.loom_audit.proofs.TreeTests.{taken-more, left-more}
use Rattle.loom_audit.proofs.trees.cavities_in.Goals as goal
use Rattle.loom_audit.proofs.trees.cavities_in.Goals.{then-rest-eq1+in_ok-push, else-rest-eq1}

pub loop-cavity-preserved : goal.loop-cavity-preserved
loop-cavity-preserved c =
    let all : List ℕ = chosen (map (λ (x : CavityNo). x.0) c.args.cavities.now) c.args.mask in
    elim c.if-rest-eq1.branch [
      | then-rest-eq1+in_ok-push w ↦
          taken-more c.args.cavities.now all c.loop-cavity.some.items c.if-rest-eq1.some.items c.loop-cavity.cavity-index c.loop-cavity.rest
          (record { 0 = 0 }) c.loop-cavity-test.true c.loop-cavity.invariant w.if-rest-eq1.true (ap (λ (v : Vec ℕ Global). v.items) w.some-is ∙ w.in_ok-push.ensures.items)
      | else-rest-eq1 w ↦
          left-more c.args.cavities.now all c.loop-cavity.some.items c.if-rest-eq1.some.items c.loop-cavity.cavity-index c.loop-cavity.rest
          (record { 0 = 0 }) c.loop-cavity-test.true c.loop-cavity.invariant w.if-rest-eq1.false (ap (λ (v : Vec ℕ Global). v.items) w.some-is)
    ]
