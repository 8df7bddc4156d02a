use Rattle.std.proofs.Common.{map, take}
use Rattle.loom_topology.specs.TopologyInside.{segment_of_link}
use Rattle.loom_topology.proofs.ShutSegments.{IsShut}
use Rattle.loom_topology.proofs.topology.shut_links.Given as goal

abbrev pub invariant-loop-segment : goal.invariant-loop-segment
invariant-loop-segment l =
    IsShut (map segment_of_link l.links) (map segment_of_link l.initial.links) (map (λ s. s.0) (take l.segment-index l.segments))
