use Rattle.std.proofs.Common.{◌≡◌, ◌++◌, drop}
use Rattle.loom_topology.specs.Legal.{chosen}
use Rattle.loom_layout.proofs.set_layout.chosen_points.Given as goal

abbrev pub invariant-loop-point : goal.invariant-loop-point
invariant-loop-point l = l.list ++ chosen (drop l.point-index l.points) l.left ≡ chosen l.points l.mask
