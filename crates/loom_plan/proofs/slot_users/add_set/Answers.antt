-- Each step is looked at in turn.
use Rattle.std.proofs.Common.{ℕ, ◌+◌, length, sym, ap, subst, ◌∙◌, arith}
use Rattle.std.specs.HashMap.{HashMap}
use Rattle.loom_topology.specs.Topology.{is_coupler}
use Rattle.loom_plan.specs.SlotUsers.{Users}
use Rattle.loom_plan.proofs.SetUserSteps.{StepsSoFar, steps-init, steps-run, steps-few, steps-coupler, set-done}
use Rattle.loom_plan.proofs.slot_users.add_set.Goals as goal
use Rattle.loom_plan.proofs.slot_users.add_set.Goals.{then-is_coupler+in_ok-ordinal+in_ok-add_user, else-is_coupler}

pub loop-step-init : goal.loop-step-init
loop-step-init c = steps-init c.args.topology.now c.args.set.now.net.0 c.args.set.now.cond c.as_slice-step-items.result.now c.new-counts.result c.args.users.now c.new-counts.ensures.empty

pub count_crossing-requires : goal.count_crossing-requires
count_crossing-requires c =
    let long = ap length c.as_slice-step-items.ensures in
    steps-few c.args.topology.now c.args.set.now.net.0 c.args.set.now.cond c.as_slice-step-items.result.now c.loop-step.step-index c.loop-step-test.true c.loop-step.counts c.args.users.now c.loop-step.users c.loop-step.invariant
    (ap is_coupler (sym c.kind.ensures) ∙ sym c.is_coupler.ensures ∙ c.if-is_coupler.true)
    (omega (arith, c.requires.few))

pub loop-step-preserved : goal.loop-step-preserved
loop-step-preserved c = elim c.if-is_coupler.branch [
  | then-is_coupler+in_ok-ordinal+in_ok-add_user w ↦
      subst (λ (m : HashMap ℕ ℕ _). StepsSoFar c.args.topology.now c.args.set.now.net.0 c.args.set.now.cond c.as_slice-step-items.result.now (c.loop-step.step-index + 1) m c.args.users.now c.if-is_coupler.users) (sym w.counts-is)
      (subst (λ (u : Users). StepsSoFar c.args.topology.now c.args.set.now.net.0 c.args.set.now.cond c.as_slice-step-items.result.now (c.loop-step.step-index + 1) w.count_crossing.new.counts c.args.users.now u) (sym w.users-is)
      (steps-coupler c.args.topology.now c.args.set.now.net.0 c.args.set.now.cond c.as_slice-step-items.result.now c.loop-step.step-index c.loop-step-test.true c.loop-step.counts c.args.users.now c.loop-step.users c.loop-step.invariant
      (ap is_coupler (sym c.kind.ensures) ∙ sym c.is_coupler.ensures ∙ w.if-is_coupler.true)
      w.count_crossing.new.counts w.in_ok-ordinal.ordinal w.add_user.new.users w.in_ok-ordinal.ensures.ordinal w.in_ok-ordinal.ensures.counted w.in_ok-add_user.ensures))
  | else-is_coupler w ↦
      subst (λ (m : HashMap ℕ ℕ _). StepsSoFar c.args.topology.now c.args.set.now.net.0 c.args.set.now.cond c.as_slice-step-items.result.now (c.loop-step.step-index + 1) m c.args.users.now c.if-is_coupler.users) (sym w.counts-is)
      (subst (λ (u : Users). StepsSoFar c.args.topology.now c.args.set.now.net.0 c.args.set.now.cond c.as_slice-step-items.result.now (c.loop-step.step-index + 1) c.loop-step.counts c.args.users.now u) (sym w.users-is)
      (steps-run c.args.topology.now c.args.set.now.net.0 c.args.set.now.cond c.as_slice-step-items.result.now c.loop-step.step-index c.loop-step-test.true c.loop-step.counts c.args.users.now c.loop-step.users c.loop-step.invariant
      (ap is_coupler (sym c.kind.ensures) ∙ sym c.is_coupler.ensures ∙ w.if-is_coupler.false)))
]

pub returns : goal.returns
returns c =
    set-done c.args.topology.now c.args.set.now c.as_slice-step-items.result.now c.as_slice-step-items.ensures c.loop-step.step-index c.loop-step.counts c.args.users.now c.loop-step.users
    (omega (arith, c.loop-step.auto.step-index-end, c.loop-step-test.false)) c.loop-step.invariant
