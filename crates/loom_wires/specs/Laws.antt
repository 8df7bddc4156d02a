use Rattle.std.specs.Prelude.{List, ◌≡◌}
use Rattle.loom_topology.specs.Topology.{TopologyView}
use Rattle.loom_types.specs.declared.plan.PinLine.{PinLine}
use Rattle.loom_types.specs.declared.wire.Wire.{Wire}
use Rattle.loom_wires.specs.declared.laid_set.LaidSet.{LaidSet}
use Rattle.loom_wires.specs.Wires.{AreWires}

-- sets have one list of wires
abbrev pub WiresAreUnique : Type 0
WiresAreUnique =
    (topology : TopologyView) (pins : List PinLine) (sets : List LaidSet) (wires others : List Wire)
    → AreWires topology pins sets wires → AreWires topology pins sets others → wires ≡ others
