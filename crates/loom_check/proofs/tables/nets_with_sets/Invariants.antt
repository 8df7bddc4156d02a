use Rattle.loom_check.proofs.NetsOfSets.{AreNetsOf}
use Rattle.loom_check.proofs.tables.nets_with_sets.Given as goal

abbrev pub invariant-loop-set : goal.invariant-loop-set
invariant-loop-set l = AreNetsOf l.sets l.set-index l.nets.items l.seen
