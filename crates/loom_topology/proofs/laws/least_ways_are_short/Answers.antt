use Rattle.loom_topology.proofs.ShortWays.{least_ways_are_short}
use Rattle.loom_topology.proofs.laws.least_ways_are_short.Goals as goal

pub returns : goal.returns
returns c = least_ways_are_short
