use Rattle.std.proofs.Common.{ℕ, ◌+◌, sym, ap, subst, ◌∙◌}
use Rattle.std.specs.BTreeSet.{BTreeSet}
use Rattle.std.specs.HashMap.{HashMap}
use Rattle.loom_topology.specs.Topology.{is_coupler}
use Rattle.loom_audit.specs.SlotSets.{Key}
use Rattle.loom_audit.proofs.SlotSteps.{StepsSoFar, steps-run, steps-coupler}
use Rattle.loom_audit.proofs.pin_lines.add_slots.Goals as goal
use Rattle.loom_audit.proofs.pin_lines.add_slots.Goals.{then-is_coupler+in_ok-ordinal+in_ok-insert, else-is_coupler}

pub loop-step-preserved : goal.loop-step-preserved
loop-step-preserved c =
    let topology = c.args.topology.now in
    let net = c.args.set.now.net.0 in
    let steps = c.as_slice-step-items.result.now in
    let k = c.loop-step.step-index in
    elim c.if-is_coupler.branch [
      | then-is_coupler+in_ok-ordinal+in_ok-insert w ↦
          subst (λ (m : HashMap ℕ ℕ _). StepsSoFar topology net steps (k + 1) m c.args.slots.now c.if-is_coupler.slots) (sym w.counts-is)
          (subst (λ (u : BTreeSet Key). StepsSoFar topology net steps (k + 1) w.count_crossing.new.counts c.args.slots.now u) (sym w.slots-is)
          (steps-coupler topology net steps k c.loop-step-test.true c.loop-step.counts c.args.slots.now c.loop-step.slots c.loop-step.invariant
          (ap is_coupler (sym c.kind.ensures) ∙ sym c.is_coupler.ensures ∙ w.if-is_coupler.true)
          w.count_crossing.new.counts w.in_ok-ordinal.ordinal w.insert.new.self w.in_ok-ordinal.ensures.ordinal w.in_ok-ordinal.ensures.counted w.in_ok-insert.ensures.updates.0))
      | else-is_coupler w ↦
          subst (λ (m : HashMap ℕ ℕ _). StepsSoFar topology net steps (k + 1) m c.args.slots.now c.if-is_coupler.slots) (sym w.counts-is)
          (subst (λ (u : BTreeSet Key). StepsSoFar topology net steps (k + 1) c.loop-step.counts c.args.slots.now u) (sym w.slots-is)
          (steps-run topology net steps k c.loop-step-test.true c.loop-step.counts c.args.slots.now c.loop-step.slots c.loop-step.invariant
          (ap is_coupler (sym c.kind.ensures) ∙ sym c.is_coupler.ensures ∙ w.if-is_coupler.false)))
    ]
