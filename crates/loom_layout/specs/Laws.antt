use Rattle.std.specs.Prelude.{ℕ, List, Option, Some, ◌≡◌, ◌<◌, ◌≤◌, length, map}
use Rattle.std.specs.List.{All}
use Rattle.loom_topology.specs.Topology.{TopologyView, IsSound, node_of, segment_at, branch_at, price_at}
use Rattle.loom_topology.specs.WiringTree.{Tree, IsWiringTree}
use Rattle.loom_topology.specs.TreeCost.{degree_of, cost_of}
use Rattle.loom_topology.specs.Legal.{IsMask, cavities_of_mask}
use Rattle.loom_topology.specs.Least.{HasLeastCosts}
use Rattle.loom_types.specs.declared.layout.Layout.{Layout}
use Rattle.loom_types.specs.SetMask.{stem_of}
use Rattle.loom_layout.specs.Layout.{IsLayout, IsLayoutOf}

-- least costs leave no choice: a set has one layout at most
abbrev pub LayoutIsUnique : Type 0
LayoutIsUnique =
    (topology : TopologyView) (terminals : List ℕ) (least : ℕ → ℕ → Option ℕ) (mask : ℕ) (one two : Layout)
    → IsLayoutOf topology terminals least mask one → IsLayoutOf topology terminals least mask two → one ≡ two

-- where the least cost of a mask at a node is a number, the mask has a layout from there
abbrev pub LayoutExists : Type 0
LayoutExists =
    (topology : TopologyView) (terminals : List ℕ) (least : ℕ → ℕ → Option ℕ) (mask v m : ℕ)
    → IsSound topology → All (λ c. c < length topology.cavities) terminals → HasLeastCosts topology terminals least
    → IsMask terminals mask → v < length topology.nodes → least mask v ≡ Some m
    → (tree : Tree) × IsLayout topology terminals least mask v tree

-- two topologies are alike where nodes have the same branch costs, segments the same ends and prices, and the same segments are open;
-- harnesses, kinds of segments and cavities may differ
pub record AreAlike (one other : TopologyView) : Type 0 where
  pub as_many : length one.nodes ≡ length other.nodes
  pub branch : (v : ℕ) → branch_at one v ≡ branch_at other v
  pub from : (s : ℕ) → (segment_at one s).from ≡ (segment_at other s).from
  pub to : (s : ℕ) → (segment_at one s).to ≡ (segment_at other s).to
  pub price : (s : ℕ) → price_at one s ≡ price_at other s
  pub is_open : (s : ℕ) → (segment_at one s).is_open ≡ (segment_at other s).is_open

-- a set's layout depends on the nodes of the terminals alone: over topologies that are alike, cavities at the same nodes have the same layouts
abbrev pub NodesFixLayouts : Type 0
NodesFixLayouts =
    (one other : TopologyView) (terminals others : List ℕ) (least : ℕ → ℕ → Option ℕ) (mask : ℕ) (layout : Layout)
    → AreAlike one other → map (node_of one) terminals ≡ map (node_of other) others → stem_of mask < length terminals
    → IsLayoutOf one terminals least mask layout → IsLayoutOf other others least mask layout

-- and so do least costs: a table of the one net's is a table of the other's
abbrev pub NodesFixLeastCosts : Type 0
NodesFixLeastCosts =
    (one other : TopologyView) (terminals others : List ℕ) (least : ℕ → ℕ → Option ℕ)
    → AreAlike one other → map (node_of one) terminals ≡ map (node_of other) others
    → HasLeastCosts one terminals least → HasLeastCosts other others least

-- a layout is a wiring tree for the mask's cavities, none of its points has degree 1, and it costs the least cost
abbrev pub LayoutsAreLeastTrees : Type 0
LayoutsAreLeastTrees =
    (topology : TopologyView) (terminals : List ℕ) (least : ℕ → ℕ → Option ℕ) (mask v m : ℕ) (tree : Tree)
    → IsSound topology → All (λ c. c < length topology.cavities) terminals → HasLeastCosts topology terminals least
    → least mask v ≡ Some m → IsLayout topology terminals least mask v tree
    → IsWiringTree topology (cavities_of_mask terminals mask) v tree
    × ((point : ℕ) → point ≤ length tree.steps → 2 ≤ degree_of tree point)
    × (cost_of topology v tree ≡ m)
