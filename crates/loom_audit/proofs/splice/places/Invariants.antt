use Rattle.std.proofs.Common.{◌≡◌, map, take}
use Rattle.loom_topology.specs.Topology.{node_of}
use Rattle.loom_topology.specs.WiringTree.{places_of}
use Rattle.loom_types.specs.LayoutTree.{tree_of}
use Rattle.loom_audit.specs.CutSets.{first_of}
use Rattle.loom_audit.proofs.splice.places.Given as goal

abbrev pub invariant-loop-step : goal.invariant-loop-step
invariant-loop-step l =
    map (λ v. v.0) l.places.items
    ≡ places_of l.topology (node_of l.topology (first_of l.set)) (take l.step-index (tree_of l.set.layout).steps)
