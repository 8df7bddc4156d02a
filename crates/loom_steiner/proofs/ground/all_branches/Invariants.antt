use Rattle.loom_steiner.proofs.Grounds.{ListsBranches}
use Rattle.loom_steiner.proofs.ground.all_branches.Given as goal

abbrev pub invariant-loop-node : goal.invariant-loop-node
invariant-loop-node l = ListsBranches l.topology l.node l.branches.items
