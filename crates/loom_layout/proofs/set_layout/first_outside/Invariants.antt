use Rattle.std.proofs.Common.{map}
use Rattle.std.specs.List.{Contains}
use Rattle.loom_topology.specs.Topology.{node_of}
use Rattle.loom_layout.proofs.Choosing.{HoldSoFar}
use Rattle.loom_layout.proofs.set_layout.first_outside.Given as goal

abbrev pub invariant-loop-cavity : goal.invariant-loop-cavity
invariant-loop-cavity l =
    HoldSoFar (λ c. Contains (map (λ v. v.0) l.nodes) (node_of l.topology c)) (map (λ c. c.0) l.terminals) l.mask l.cavity-index l.left
