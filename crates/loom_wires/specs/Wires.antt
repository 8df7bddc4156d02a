use Rattle.std.specs.Prelude.{ℕ, List, Bool, true, false, ◌<◌, ◌≤◌, map, filter, drop, length, slice_index, All, AllPairs, Contains}
use Rattle.std.specs.declared.cmp.Ordering.{Ordering}
use Rattle.std.specs.declared.cmp.Ordering.TheVariants.{Less, Equal, Greater}
use Rattle.std.specs.List.{list_any, flat_map}
use Rattle.loom_topology.specs.Topology.{TopologyView, node_of}
use Rattle.loom_topology.specs.WiringTree.{IsWiringTree}
use Rattle.loom_topology.specs.TreeCost.{degree_of}
use Rattle.loom_rows.specs.Condition.{Meaning, value}
use Rattle.loom_rows.specs.Table.{Table, Has}
use Rattle.loom_rows.specs.Leftovers.{AreSame}
use Rattle.loom_rows.specs.Disjunction.{some_hold, any_worked}
use Rattle.loom_types.specs.declared.plan.PinLine.{PinLine}
use Rattle.loom_types.specs.declared.wire.Wire.{Wire}
use Rattle.loom_types.specs.LayoutTree.{tree_of}
use Rattle.loom_types.specs.LayoutWires.{layout_wires}
use Rattle.loom_types.specs.PinLines.{pin_in}
use Rattle.loom_types.specs.WireOrder.{wire_cmp, IsWireBefore}
use Rattle.loom_wires.specs.declared.laid_set.LaidSet.{LaidSet}
use Rattle.loom_wires.specs.declared.cut_wire.CutWire.{CutWire}

-- the cavities of a set by number: its first one, where the tree of its layout begins, and then the others
abbrev pub numbers_of : LaidSet → List ℕ
numbers_of set = map (λ c. c.0) set.cavities

abbrev pub first_of : LaidSet → ℕ
first_of set = slice_index (numbers_of set) 0

abbrev pub others_of : LaidSet → List ℕ
others_of set = drop 1 (numbers_of set)

-- the set's layout is a wiring tree for its other cavities from the node of its first one, and at no point a lone thing ends
pub record IsLaid (topology : TopologyView) (set : LaidSet) : Type 0 where
  pub some : 0 < length set.cavities
  pub in_range : All (λ c. c < length topology.cavities) (numbers_of set)
  pub tree : IsWiringTree topology (others_of set) (node_of topology (first_of set)) (tree_of set.layout)
  pub degrees : (point : ℕ) → point ≤ length set.layout.steps → 2 ≤ degree_of (tree_of set.layout) point

-- the wires of a set's layout, with the pins of these lines
abbrev pub wires_of_set : TopologyView → List PinLine → LaidSet → List Wire
wires_of_set topology pins set =
    layout_wires topology set.net.0 (pin_in pins set.net.0) (first_of set) (others_of set) set.layout

-- wires of equal net, ends and route are one wire
abbrev pub is_equal : Ordering → Bool
is_equal Less = false
is_equal Equal = true
is_equal Greater = false

abbrev pub is_same_wire : Wire → Wire → Bool
is_same_wire w v = is_equal (wire_cmp w v)

-- whether the layout of a set has the wire
abbrev pub has_wire : TopologyView → List PinLine → Wire → LaidSet → Bool
has_wire topology pins w set = list_any (is_same_wire w) (wires_of_set topology pins set)

-- the wires over all sets: those that the layout of some set has, each once, by net, from, to and route
pub record AreWires (topology : TopologyView) (pins : List PinLine) (sets : List LaidSet) (wires : List Wire) : Type 0 where
  pub order : AllPairs IsWireBefore wires
  pub each : (w : Wire) → Contains wires w → (set : LaidSet) × Contains sets set × Contains (wires_of_set topology pins set) w
  pub all : (set : LaidSet) (w : Wire) → Contains sets set → Contains (wires_of_set topology pins set) w → Contains wires w

-- there are more wires than the limit
abbrev pub AreManyWires : ℕ → TopologyView → List PinLine → List LaidSet → Type 0
AreManyWires limit topology pins sets = (wires : List Wire) × AreWires topology pins sets wires × (limit < length wires)

-- the conditions of the sets whose layouts have the wire, in the order of the sets
abbrev pub users_of : TopologyView → List PinLine → List LaidSet → Wire → List Meaning
users_of topology pins sets w = map (λ set. value set.cond) (filter (has_wire topology pins w) sets)

-- a cut wire but for its condition
abbrev pub bare_of : CutWire → Wire
bare_of cut = record { net = cut.net; from = cut.from; to = cut.to; route = cut.route; length = cut.length; row = 0 }

-- its condition is one of the table, and holds exactly where that of a set holds whose layout has the wire
pub record IsCut (topology : TopologyView) (pins : List PinLine) (sets : List LaidSet) (table : Table) (cut : CutWire) : Type 0 where
  pub has : Has table cut.cond
  pub condition : AreSame (value cut.cond) (some_hold (users_of topology pins sets (bare_of cut)))

-- the wires over all sets, each with its condition
pub record AreCut (topology : TopologyView) (pins : List PinLine) (sets : List LaidSet) (table : Table) (cut : List CutWire) : Type 0 where
  pub wires : AreWires topology pins sets (map bare_of cut)
  pub conditions : All (IsCut topology pins sets table) cut

-- what is worked out for these wires, in order: for each wire the disjunctions of its sets' conditions, set by set
abbrev pub wires_worked : TopologyView → List PinLine → List LaidSet → List Wire → List Meaning
wires_worked topology pins sets wires = flat_map (λ w. any_worked (users_of topology pins sets w)) wires
