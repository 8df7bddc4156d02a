use Rattle.std.proofs.Common.{◌≡◌, take}
use Rattle.loom_formula.proofs.formula.+copy.Given as goal

abbrev pub invariant-Members::copy-loop-member : goal.invariant-Members::copy-loop-member
invariant-Members::copy-loop-member l = l.list ≡ take l.member-index l.member-items
