use Rattle.std.proofs.Common.{take}
use Rattle.loom_audit.specs.SlotSets.{AreSlotKeys}
use Rattle.loom_audit.proofs.pin_lines.slots.Given as goal

abbrev pub invariant-loop-set : goal.invariant-loop-set
invariant-loop-set l = AreSlotKeys l.topology (take l.set-index l.sets) l.slots
