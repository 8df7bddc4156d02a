use Rattle.std.proofs.Common.{take}
use Rattle.loom_audit.proofs.BareWires.{AreBareBefore}
use Rattle.loom_audit.proofs.cut_sets.are_bare.Given as goal

abbrev pub invariant-loop-position : goal.invariant-loop-position
invariant-loop-position l = AreBareBefore l.wires l.plan (take l.position-index l.positions) l.at
