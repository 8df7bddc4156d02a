-- A set whose layout is cut into wires.
use Rattle.std.specs.Prelude.{ℕ, List, ◌<◌, ◌≤◌, map, drop, length, slice_index, All}
use Rattle.loom_topology.specs.Topology.{TopologyView, node_of}
use Rattle.loom_topology.specs.WiringTree.{IsWiringTree}
use Rattle.loom_topology.specs.TreeCost.{degree_of}
use Rattle.loom_types.specs.declared.plan.PinLine.{PinLine}
use Rattle.loom_types.specs.declared.wire.Wire.{Wire}
use Rattle.loom_types.specs.LayoutTree.{tree_of}
use Rattle.loom_types.specs.LayoutWires.{layout_wires}
use Rattle.loom_types.specs.PinLines.{pin_in}
use Rattle.loom_audit.specs.declared.laid_set.LaidSet.{LaidSet}

-- the cavities of a set by number: its first one, where the tree of its layout begins, and then the others
abbrev pub numbers_of : LaidSet → List ℕ
numbers_of set = map (λ c. c.0) set.cavities

abbrev pub first_of : LaidSet → ℕ
first_of set = slice_index (numbers_of set) 0

abbrev pub others_of : LaidSet → List ℕ
others_of set = drop 1 (numbers_of set)

-- the set's layout is a wiring tree for its other cavities from the node of its first one, and at no point a lone thing ends
pub record IsLaid (topology : TopologyView) (set : LaidSet) : Type 0 where
  pub some : 0 < length set.cavities
  pub in_range : All (λ c. c < length topology.cavities) (numbers_of set)
  pub tree : IsWiringTree topology (others_of set) (node_of topology (first_of set)) (tree_of set.layout)
  pub degrees : (point : ℕ) → point ≤ length set.layout.steps → 2 ≤ degree_of (tree_of set.layout) point

-- the wires of a set's layout, with the pins of these lines
abbrev pub wires_of_set : TopologyView → List PinLine → LaidSet → List Wire
wires_of_set topology pins set =
    layout_wires topology set.net.0 (pin_in pins set.net.0) (first_of set) (others_of set) set.layout
