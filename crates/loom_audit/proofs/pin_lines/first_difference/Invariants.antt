use Rattle.std.proofs.Common.{map}
use Rattle.loom_audit.specs.FirstFailure.{AgreeBefore}
use Rattle.loom_audit.specs.LayoutRule.{IsLineOfSlot}
use Rattle.loom_audit.specs.SlotSets.{slot_of_key}
use Rattle.loom_audit.proofs.pin_lines.first_difference.Given as goal

abbrev pub invariant-loop-at : goal.invariant-loop-at
invariant-loop-at l = AgreeBefore IsLineOfSlot (map slot_of_key l.slots) l.lines l.at
