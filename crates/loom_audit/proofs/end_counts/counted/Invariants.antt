use Rattle.std.proofs.Common.{take}
use Rattle.loom_audit.specs.EndKeys.{AreCounts}
use Rattle.loom_audit.proofs.end_counts.counted.Given as goal

abbrev pub invariant-loop-end : goal.invariant-loop-end
invariant-loop-end l = AreCounts (take l.end-index l.ends) l.counts
