use Rattle.std.specs.Prelude.{ℕ, List, Option, Some, None, ◌≡◌, ◌+◌, ◌*◌, ◌<◌, ◌≤◌, length, sum_by, slice_index, nat_lt, if◌then◌else◌}
use Rattle.std.specs.Borrow.{Bor}
use Rattle.loom_topology.specs.Topology.{TopologyView}
use Rattle.loom_topology.specs.TreeCost.{HasTree}
use Rattle.loom_steiner.specs.declared.ways.TheConstants.{NO_TREE}
use Rattle.loom_topology.specs.declared.ways.Way.{Way}
use Rattle.loom_steiner.specs.Ways.{AreWays, AreWaysFrom}

-- a cost in 64 bits, where NO_TREE stands for None
abbrev pub cost_from : ℕ → Option ℕ
cost_from n = (if nat_lt n NO_TREE then Some n else None)

-- no number is above that of None
abbrev pub IsCapped : List ℕ → Type 0
IsCapped row = (v : ℕ) → slice_index row v ≤ NO_TREE

-- the nodes from which the row has a tree
abbrev pub reached : List ℕ → ℕ
reached row = sum_by (λ x. (if nat_lt x NO_TREE then 1 else 0)) row

-- each number is the cost of some wiring tree for the cavities from its node
abbrev pub IsAttained : TopologyView → List ℕ → List ℕ → Type 0
IsAttained topology cavities row =
    (v : ℕ) → v < length row → slice_index row v < NO_TREE → HasTree topology cavities v (slice_index row v)

-- each number is at most the base and a dearest step for each node that was reached
abbrev pub IsBoundedFrom : ℕ → List ℕ → Type 0
IsBoundedFrom base row =
    (v : ℕ) → v < length row → slice_index row v < NO_TREE → slice_index row v ≤ base + 1000000 * reached row

-- what steps over the ways from one node do to a row: no number rises, each is still the cost of a tree, and none gets far from where it was
pub record ImprovesFrom (node : ℕ) (from : List Way) (row new : List ℕ) : Type 0 where
  pub len : length new ≡ length row
  pub lower : (v : ℕ) → slice_index new v ≤ slice_index row v
  pub attained : (topology : TopologyView) (cavities : List ℕ) → AreWaysFrom topology node from
      → IsAttained topology cavities row → IsAttained topology cavities new
  pub bounded : (base : ℕ) → IsBoundedFrom base row → IsBoundedFrom base new

-- the same of steps over the ways from all nodes
pub record Improves (ways : List (Bor (List Way))) (row new : List ℕ) : Type 0 where
  pub len : length new ≡ length row
  pub lower : (v : ℕ) → slice_index new v ≤ slice_index row v
  pub attained : (topology : TopologyView) (cavities : List ℕ) → AreWays topology ways
      → IsAttained topology cavities row → IsAttained topology cavities new
  pub bounded : (base : ℕ) → IsBoundedFrom base row → IsBoundedFrom base new
