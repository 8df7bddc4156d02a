use Rattle.std.proofs.Common.{◌≡◌, map, take}
use Rattle.loom_topology.specs.Topology.{node_of}
use Rattle.loom_laid.proofs.key.nodes_of.Given as goal

abbrev pub invariant-loop-cavity : goal.invariant-loop-cavity
invariant-loop-cavity l = l.nodes ≡ map (λ cavity. node_of l.topology cavity.0) (take l.cavity-index l.cavities)
