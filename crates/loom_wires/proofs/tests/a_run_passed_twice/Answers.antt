use Rattle.loom_topology.specs.WiringTree.{places_of}
use Rattle.loom_topology.specs.TreeCost.{degree_of}
use Rattle.loom_wires.specs.Built.{is_laid}
use Rattle.loom_wires.proofs.LaidByTest.{one_laid}
use Rattle.loom_wires.proofs.tests.a_run_passed_twice.Goals as goal

pub cut-requires-clause-laid : goal.cut-requires-clause-laid
unfolding places_of degree_of
cut-requires-clause-laid g c = one_laid c.in_ok-topology.topology c.in_ok-set.set (λ i. is_laid (c.in_ok-topology.ensures i) (c.in_ok-set.ensures i))
