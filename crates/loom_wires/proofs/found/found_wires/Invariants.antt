use Rattle.loom_wires.proofs.FoundLemmas.{FoundSoFar}
use Rattle.loom_wires.proofs.found.found_wires.Given as goal

abbrev pub invariant-loop-at : goal.invariant-loop-at
invariant-loop-at l = FoundSoFar l.topology l.pins l.sets l.at l.found
