use Rattle.loom_audit.proofs.SlotSteps.{StepsSoFar}
use Rattle.loom_audit.proofs.pin_lines.add_slots.Given as goal

abbrev pub invariant-loop-step : goal.invariant-loop-step
invariant-loop-step l = StepsSoFar l.topology l.set.net.0 l.step-items l.step-index l.counts l.fn.slots l.slots
