use Rattle.std.proofs.Common.{take}
use Rattle.std.specs.List.{All}
use Rattle.loom_audit.specs.EndKeys.{count_in}
use Rattle.loom_audit.specs.EndRule.{IsEndRight}
use Rattle.loom_audit.proofs.trees.are_all_right.Given as goal

abbrev pub invariant-loop-end : goal.invariant-loop-end
invariant-loop-end l = All (IsEndRight (count_in l.counts) l.cavities) (take l.end-index l.ends)
