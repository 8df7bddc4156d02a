use Rattle.std.proofs.Common.{◌≡◌, false, map, take}
use Rattle.loom_topology.specs.Topology.{shut_if}
use Rattle.loom_topology.specs.TopologyInside.{segment_of_link}
use Rattle.loom_topology.proofs.topology.opened.Given as goal

abbrev pub invariant-loop-link : goal.invariant-loop-link
invariant-loop-link l =
    map segment_of_link l.copy.items ≡ map (shut_if false) (map segment_of_link (take l.link-index l.links))
