use Rattle.std.proofs.Common.{◌≡◌, min, take}
use Rattle.loom_formula.specs.Formula.{depth_of_all}
use Rattle.loom_formula.proofs.formula.+depth.Given as goal

abbrev pub invariant-Members::depth-loop-member : goal.invariant-Members::depth-loop-member
invariant-Members::depth-loop-member l = l.depth ≡ min (depth_of_all (take l.member-index l.member-items)) 18446744073709551615
