use Rattle.std.proofs.lemmas.List.{get_or-replicate}
use Rattle.loom_topology.specs.declared.ways.TheConstants.{NO_PRICE}
use Rattle.loom_topology.proofs.ways.no_prices.Goals as goal

pub returns-clause-clear : goal.returns-clause-clear
returns-clause-clear c u below = get_or-replicate 1024 u NO_PRICE 0 below
