use Rattle.loom_steiner.proofs.Grounds.{ListsAll}
use Rattle.loom_steiner.proofs.ground.all_ways.Given as goal

abbrev pub invariant-loop-node : goal.invariant-loop-node
invariant-loop-node l = ListsAll l.topology l.node l.ways.items
