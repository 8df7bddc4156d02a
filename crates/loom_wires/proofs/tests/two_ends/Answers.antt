use Rattle.std.proofs.Common.{ap}
use Rattle.loom_topology.specs.WiringTree.{places_of}
use Rattle.loom_topology.specs.TreeCost.{degree_of}
use Rattle.loom_wires.specs.Built.{fork, is_laid}
use Rattle.std.proofs.lemmas.Result.{IfOk-weaker}
use Rattle.loom_wires.proofs.tests.two_ends.Goals as goal

pub returns-clause-laid : goal.returns-clause-laid
unfolding places_of degree_of
returns-clause-laid c = IfOk-weaker c.laid_set.result _ _ (λ set e. ap (is_laid fork) e) c.laid_set.ensures
