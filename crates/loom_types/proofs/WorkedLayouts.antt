-- The wires, their cost and their modules at worked layouts, by computation.
use Rattle.std.proofs.Common.{ℕ, List, [], ◌∷◌, ◌≡◌, refl}
use Rattle.loom_base.specs.declared.positions.SegmentNo.{SegmentNo}
use Rattle.loom_topology.specs.declared.kind.Kind.TheVariants.{Run, Coupler}
use Rattle.loom_topology.specs.Topology.{Node, TopologyView, open_segment}
use Rattle.loom_topology.specs.WiringTree.{places_of}
use Rattle.loom_topology.specs.TreeCost.{degree_of, cost_of}
use Rattle.loom_types.specs.declared.layout.Layout.{Layout}
use Rattle.loom_types.specs.declared.plan.Module.{Module}
use Rattle.loom_types.specs.declared.wire.End.{End}
use Rattle.loom_types.specs.declared.wire.End.TheVariants.{Cavity, Splice}
use Rattle.loom_types.specs.declared.wire.Wire.{Wire}
use Rattle.loom_types.specs.LayoutTree.{tree_of}
use Rattle.loom_types.specs.LayoutWires.{layout_wires, segment_no, pin_side}
use Rattle.loom_types.specs.Modules.{modules_of}
use Rattle.loom_types.specs.WireCost.{wires_cost}

abbrev node : ℕ → ℕ → Node
node harness branch = record { harness = harness; branch = branch }

abbrev step : ℕ → ℕ → ℕ × SegmentNo
step parent segment = (parent, segment_no segment)

abbrev laid : List (ℕ × SegmentNo) → List ℕ → Layout
laid steps hangs = record { steps = steps; hangs = hangs }

abbrev cavity : ℕ → End
cavity c = Cavity (record { 0 = c })

abbrev splice : ℕ → ℕ → End
splice v ordinal = Splice (record { 0 = v }) ordinal

abbrev wire : End → End → List SegmentNo → ℕ → ℕ → Wire
wire from to route length row = record { net = record { 0 = 0 }; from = from; to = to; route = route; length = length; row = row }

abbrev part : ℕ → ℕ → List ℕ → Module
part harness row wires = record { harness = harness; row = row; wires = wires }

-- pin by ordinal
abbrev in_order : ℕ → ℕ → ℕ
in_order coupler ordinal = ordinal

-- three cavities at one node
abbrev one_node : TopologyView
one_node = record { nodes = node 0 5 ∷ []; segments = []; cavities = 0 ∷ 0 ∷ 0 ∷ [] }

one_node_wires : layout_wires one_node 0 in_order 0 (1 ∷ 2 ∷ []) (laid [] (0 ∷ 0 ∷ []))
    ≡ wire (cavity 1) (splice 0 1) [] 0 0 ∷ wire (cavity 2) (splice 0 1) [] 0 0 ∷ wire (cavity 0) (splice 0 1) [] 0 0 ∷ []
unfolding degree_of places_of
one_node_wires = refl

-- two runs in a row, of which the first is passed twice: a splice at the far end would be dearer
abbrev two_runs : TopologyView
two_runs = record {
  nodes = node 0 10 ∷ node 0 120 ∷ node 0 200 ∷ [];
  segments = open_segment 0 1 (Run 100) ∷ open_segment 1 2 (Run 50) ∷ [];
  cavities = 0 ∷ 1 ∷ 2 ∷ [];
}

abbrev passed_twice : Layout
passed_twice = laid (step 0 0 ∷ step 0 0 ∷ step 2 1 ∷ []) (1 ∷ 3 ∷ [])

two_runs_wires : layout_wires two_runs 0 in_order 0 (1 ∷ 2 ∷ []) passed_twice
    ≡ wire (cavity 1) (splice 0 1) (segment_no 0 ∷ []) 100 0
    ∷ wire (cavity 2) (splice 0 1) (segment_no 1 ∷ segment_no 0 ∷ []) 150 0
    ∷ wire (cavity 0) (splice 0 1) [] 0 0 ∷ []
unfolding degree_of places_of
two_runs_wires = refl

-- a coupler in place of the first run, crossed by two pins
abbrev coupler_and_run : TopologyView
coupler_and_run = record {
  nodes = node 0 10 ∷ node 1 120 ∷ node 1 200 ∷ [];
  segments = open_segment 0 1 (Coupler 100 2) ∷ open_segment 1 2 (Run 50) ∷ [];
  cavities = 0 ∷ 1 ∷ 2 ∷ [];
}

coupler_and_run_wires : layout_wires coupler_and_run 0 in_order 0 (1 ∷ 2 ∷ []) passed_twice
    ≡ wire (cavity 2) (pin_side 0 2 2) (segment_no 1 ∷ []) 50 0
    ∷ wire (cavity 1) (pin_side 0 1 2) [] 0 0
    ∷ wire (splice 0 1) (pin_side 0 1 1) [] 0 0
    ∷ wire (splice 0 1) (pin_side 0 2 1) [] 0 0
    ∷ wire (cavity 0) (splice 0 1) [] 0 0 ∷ []
unfolding degree_of places_of
coupler_and_run_wires = refl

coupler_and_run_cost : wires_cost coupler_and_run (layout_wires coupler_and_run 0 in_order 0 (1 ∷ 2 ∷ []) passed_twice) ≡ 260
unfolding degree_of places_of
coupler_and_run_cost = refl

coupler_and_run_layout_cost : cost_of coupler_and_run 0 (tree_of passed_twice) ≡ 260
unfolding degree_of places_of cost_of
coupler_and_run_layout_cost = refl

coupler_and_run_modules : modules_of coupler_and_run
    (wire (cavity 0) (splice 0 1) [] 0 1
    ∷ wire (cavity 1) (pin_side 0 1 2) [] 0 1
    ∷ wire (cavity 2) (pin_side 0 2 2) (segment_no 1 ∷ []) 50 1
    ∷ wire (splice 0 1) (pin_side 0 1 1) [] 0 1
    ∷ wire (splice 0 1) (pin_side 0 2 1) [] 0 1 ∷ [])
    ≡ part 0 1 (0 ∷ 3 ∷ 4 ∷ []) ∷ part 1 1 (1 ∷ 2 ∷ []) ∷ []
coupler_and_run_modules = refl

-- a coupler and two runs behind it: the layouts of two sets have one wire in common
abbrev fork : TopologyView
fork = record {
  nodes = node 0 50 ∷ node 1 5 ∷ node 1 5 ∷ node 1 5 ∷ [];
  segments = open_segment 0 1 (Coupler 10 2) ∷ open_segment 1 2 (Run 100) ∷ open_segment 1 3 (Run 60) ∷ [];
  cavities = 0 ∷ 2 ∷ 3 ∷ [];
}

fork_two : layout_wires fork 0 in_order 0 (1 ∷ []) (laid (step 0 0 ∷ step 1 1 ∷ []) (2 ∷ []))
    ≡ wire (cavity 1) (pin_side 0 1 2) (segment_no 1 ∷ []) 100 0 ∷ wire (cavity 0) (pin_side 0 1 1) [] 0 0 ∷ []
unfolding degree_of places_of
fork_two = refl

abbrev fork_all : Layout
fork_all = laid (step 0 0 ∷ step 1 1 ∷ step 1 2 ∷ []) (2 ∷ 3 ∷ [])

fork_three : layout_wires fork 0 in_order 0 (1 ∷ 2 ∷ []) fork_all
    ≡ wire (cavity 1) (splice 1 1) (segment_no 1 ∷ []) 100 0
    ∷ wire (cavity 2) (splice 1 1) (segment_no 2 ∷ []) 60 0
    ∷ wire (splice 1 1) (pin_side 0 1 2) [] 0 0
    ∷ wire (cavity 0) (pin_side 0 1 1) [] 0 0 ∷ []
unfolding degree_of places_of
fork_three = refl

fork_cost : wires_cost fork (layout_wires fork 0 in_order 0 (1 ∷ 2 ∷ []) fork_all) ≡ 175
unfolding degree_of places_of
fork_cost = refl

fork_modules : modules_of fork
    (wire (cavity 0) (pin_side 0 1 1) [] 0 1
    ∷ wire (cavity 1) (splice 1 1) (segment_no 1 ∷ []) 100 3
    ∷ wire (cavity 1) (pin_side 0 1 2) (segment_no 1 ∷ []) 100 2
    ∷ wire (cavity 2) (splice 1 1) (segment_no 2 ∷ []) 60 3
    ∷ wire (splice 1 1) (pin_side 0 1 2) [] 0 3 ∷ [])
    ≡ part 0 1 (0 ∷ []) ∷ part 1 3 (1 ∷ 3 ∷ 4 ∷ []) ∷ part 1 2 (2 ∷ []) ∷ []
fork_modules = refl
