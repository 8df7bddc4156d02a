use Rattle.std.proofs.Common.{take}
use Rattle.loom_check.specs.MetParts.{KnowsNets}
use Rattle.loom_check.proofs.met_sets.sets_by_net.Given as goal

abbrev pub invariant-loop-at : goal.invariant-loop-at
invariant-loop-at l = KnowsNets (take l.at l.sets) l.by_net
