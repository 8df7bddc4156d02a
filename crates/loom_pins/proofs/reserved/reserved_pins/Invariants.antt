use Rattle.loom_pins.proofs.ReservedPins.{AreAdded}
use Rattle.loom_pins.proofs.reserved.reserved_pins.Given as goal

abbrev pub invariant-loop-number : goal.invariant-loop-number
invariant-loop-number l = AreAdded l.couplers l.reserved l.number
