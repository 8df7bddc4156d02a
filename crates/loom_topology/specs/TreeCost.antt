use Rattle.std.specs.Prelude.{ℕ, List, ◌≡◌, ◌+◌, ◌-◌, ◌*◌, ◌==◌, length, sum_by, count_by}
use Rattle.std.specs.Int.{sum_through}
use Rattle.loom_topology.specs.Topology.{TopologyView, branch_at, price_at}
use Rattle.loom_topology.specs.WiringTree.{Tree, IsWiringTree, place_of}

-- the steps that begin at a point, the cavities hung on it, and one: point 0 has the stem, each other point ends one step
unfoldable pub degree_of : Tree → ℕ → ℕ
degree_of tree point = count_by (λ s. s.parent == point) tree.steps + count_by (λ h. h == point) tree.hangs + 1

-- what the splice at a point costs: the branch cost of its node for each thing that meets there past the second
abbrev pub splice_cost_of : TopologyView → ℕ → Tree → ℕ → ℕ
splice_cost_of topology v tree point = branch_at topology (place_of topology v tree point) * (degree_of tree point - 2)

-- the prices of the steps, and the splices at the points
unfoldable pub cost_of : TopologyView → ℕ → Tree → ℕ
cost_of topology v tree =
    sum_by (λ s. price_at topology s.segment) tree.steps + sum_through (splice_cost_of topology v tree) (length tree.steps)

-- some wiring tree for the cavities from node v costs m
abbrev pub HasTree : TopologyView → List ℕ → ℕ → ℕ → Type 0
HasTree topology cavities v m = (tree : Tree) × IsWiringTree topology cavities v tree × (cost_of topology v tree ≡ m)
