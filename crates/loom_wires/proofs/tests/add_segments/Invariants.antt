use Rattle.std.proofs.Common.{◌≡◌, drop}
use Rattle.loom_wires.specs.Built.{with_segments}
use Rattle.loom_wires.proofs.tests.add_segments.Given as goal

abbrev pub invariant-loop-from : goal.invariant-loop-from
invariant-loop-from l = with_segments l.fn.topology l.segments ≡ with_segments l.topology (drop l.from-index l.segments)
