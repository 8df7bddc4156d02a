use Rattle.std.proofs.Common.{arith}
use Rattle.loom_pins.proofs.ReservedPins.{added-all}
use Rattle.loom_pins.proofs.reserved.reserved_pins.Goals as goal

pub returns : goal.returns
returns c = added-all c.args.couplers.now c.loop-number.reserved c.loop-number.number (omega arith) c.loop-number.invariant
