use Rattle.std.proofs.Common.{◌≡◌, min, take}
use Rattle.loom_formula.specs.Formula.{nodes_of_all}
use Rattle.loom_formula.proofs.formula.+nodes.Given as goal

abbrev pub invariant-Members::nodes-loop-member : goal.invariant-Members::nodes-loop-member
invariant-Members::nodes-loop-member l = l.nodes ≡ min (nodes_of_all (take l.member-index l.member-items)) 18446744073709551615
