use Rattle.std.proofs.Common.{false, inl, inr, arith}
use Rattle.std.proofs.lemmas.Bool.{cases_lt}
use Rattle.std.proofs.lemmas.List.{get_or_past}
use Rattle.loom_topology.proofs.ways.clear.Goals as goal

pub returns : goal.returns
returns c s = elim (cases_lt s c.loop-mark.mark-index) [
  | inl below ↦ c.loop-mark.invariant s below
  | inr past ↦ get_or_past c.loop-mark.marks s false (omega (arith, past, c.loop-mark-test.false))
]
