use Rattle.loom_topology.proofs.Reach.{reached_is_treed, treed_is_reached, number_where_reached}
use Rattle.loom_topology.proofs.laws.reached_is_treed.Goals as goal

pub returns-clause-reached : goal.returns-clause-reached
returns-clause-reached c = reached_is_treed

pub returns-clause-treed : goal.returns-clause-treed
returns-clause-treed c = treed_is_reached

pub returns-clause-number : goal.returns-clause-number
returns-clause-number c = number_where_reached
