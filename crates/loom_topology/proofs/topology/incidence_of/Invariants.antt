use Rattle.std.proofs.Common.{map, take}
use Rattle.loom_topology.specs.TopologyInside.{segment_of_link, IsIndexed}
use Rattle.loom_topology.proofs.topology.incidence_of.Given as goal

abbrev pub invariant-loop-number : goal.invariant-loop-number
invariant-loop-number l = IsIndexed l.incidence l.node_count (map segment_of_link (take l.number l.links))
