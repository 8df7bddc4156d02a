use Rattle.loom_topology.specs.Topology.{node_of}
use Rattle.loom_types.specs.LayoutTree.{tree_of}
use Rattle.loom_types.specs.PinLines.{pin_in}
use Rattle.loom_audit.specs.CutSets.{first_of}
use Rattle.loom_audit.proofs.LegSteps.{AreLed}
use Rattle.loom_audit.proofs.leg.legs.Given as goal

abbrev pub invariant-loop-step : goal.invariant-loop-step
invariant-loop-step l =
    AreLed l.topology (node_of l.topology (first_of l.set)) (pin_in l.pins l.set.net.0) (tree_of l.set.layout)
    l.ordinals.items l.legs.items l.step-index
