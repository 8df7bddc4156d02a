use Rattle.loom_topology.proofs.Composition.{one_cavity_is_free, trees_join}
use Rattle.loom_topology.proofs.Over.{step_adds_price}
use Rattle.loom_topology.proofs.laws.trees_compose.Goals as goal

pub returns-clause-one : goal.returns-clause-one
returns-clause-one c = one_cavity_is_free

pub returns-clause-over : goal.returns-clause-over
returns-clause-over c = step_adds_price

pub returns-clause-both : goal.returns-clause-both
returns-clause-both c = trees_join
