use Rattle.std.specs.Prelude.{ℕ, List, Option, ◌<◌, ◌≤◌, length, MatchOption}
use Rattle.loom_topology.specs.Topology.{TopologyView}
use Rattle.loom_topology.specs.WiringTree.{Tree, IsWiringTree}
use Rattle.loom_topology.specs.TreeCost.{cost_of, HasTree}
use Rattle.loom_topology.specs.Legal.{IsMask, cavities_of_mask}

-- the least cost of a wiring tree for the cavities from node v: some tree costs it and none costs less; None where there is no tree
abbrev pub IsLeast : TopologyView → List ℕ → ℕ → Option ℕ → Type 0
IsLeast topology cavities v answer =
    MatchOption answer ((tree : Tree) → IsWiringTree topology cavities v tree → ⊥)
    (λ m. HasTree topology cavities v m × ((tree : Tree) → IsWiringTree topology cavities v tree → m ≤ cost_of topology v tree))

-- each cell of a table, read as a function of mask and node, is the least cost for the mask's cavities from the node
abbrev pub HasLeastCosts : TopologyView → List ℕ → (ℕ → ℕ → Option ℕ) → Type 0
HasLeastCosts topology terminals P =
    (mask v : ℕ) → IsMask terminals mask → v < length topology.nodes
    → IsLeast topology (cavities_of_mask terminals mask) v (P mask v)
