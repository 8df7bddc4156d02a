use Rattle.std.specs.Prelude.{ℕ, List, Option, Some, ◌<◌, length}
use Rattle.loom_topology.specs.Topology.{TopologyView}
use Rattle.loom_topology.specs.WiringTree.{Tree, IsWiringTree}
use Rattle.loom_topology.specs.TreeCost.{cost_of}
use Rattle.loom_topology.specs.Legal.{IsMask, IsAtMost, cavities_of_mask}

-- no cell is above what any wiring tree for its mask's cavities from its node costs
abbrev pub IsBelowEveryTree : TopologyView → List ℕ → (ℕ → ℕ → Option ℕ) → Type 0
IsBelowEveryTree topology terminals P =
    (mask v : ℕ) (tree : Tree) → IsMask terminals mask → v < length topology.nodes
    → IsWiringTree topology (cavities_of_mask terminals mask) v tree → IsAtMost (P mask v) (Some (cost_of topology v tree))
