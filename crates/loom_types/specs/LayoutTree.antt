use Rattle.std.specs.Prelude.{ℕ, List, ◌≤◌, length, map}
use Rattle.loom_base.specs.declared.positions.SegmentNo.{SegmentNo}
use Rattle.loom_topology.specs.Topology.{TopologyView}
use Rattle.loom_topology.specs.WiringTree.{Step, Tree, IsWiringTree}
use Rattle.loom_topology.specs.TreeCost.{degree_of, cost_of}
use Rattle.loom_topology.specs.Legal.{cavities_of_mask}
use Rattle.loom_types.specs.declared.layout.Layout.{Layout}
use Rattle.loom_types.specs.SetMask.{rest_of, stem_node}

abbrev pub step_of : ℕ × SegmentNo → Step
step_of step = record { parent = step.0; segment = step.1.0 }

-- the wiring tree that a layout is
abbrev pub tree_of : Layout → Tree
tree_of layout = record { steps = map step_of layout.steps; hangs = layout.hangs }

-- what the layout of a set costs
abbrev pub layout_cost : TopologyView → List ℕ → ℕ → Layout → ℕ
layout_cost topology terminals mask layout = cost_of topology (stem_node topology terminals mask) (tree_of layout)

-- the layout is a wiring tree for the set's other cavities from the node of its first one, and at no point a lone thing ends
pub record IsLaidOut (topology : TopologyView) (terminals : List ℕ) (mask : ℕ) (layout : Layout) : Type 0 where
  pub tree : IsWiringTree topology (cavities_of_mask terminals (rest_of mask)) (stem_node topology terminals mask) (tree_of layout)
  pub degrees : (point : ℕ) → point ≤ length layout.steps → 2 ≤ degree_of (tree_of layout) point
