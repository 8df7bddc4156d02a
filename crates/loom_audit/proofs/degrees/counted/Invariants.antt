use Rattle.std.proofs.Common.{take}
use Rattle.loom_audit.specs.Degrees.{AreCounted}
use Rattle.loom_audit.proofs.degrees.counted.Given as goal

abbrev pub invariant-loop-point : goal.invariant-loop-point
invariant-loop-point l = AreCounted l.initial.counts.items (take l.point-index l.points) l.counts.items
