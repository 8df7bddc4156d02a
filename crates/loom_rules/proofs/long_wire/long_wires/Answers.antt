use Rattle.std.proofs.Common.{arith}
use Rattle.loom_rules.proofs.FoundBy.{long-done}
use Rattle.loom_rules.proofs.long_wire.long_wires.Goals as goal

pub returns : goal.returns
returns c = long-done c.args.limit c.args.wires.now c.loop-i.i c.loop-i.found (omega arith) c.loop-i.invariant
