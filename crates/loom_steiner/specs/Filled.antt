use Rattle.std.specs.Prelude.{ℕ, List, ◌≡◌, ◌+◌, ◌-◌, ◌*◌, ◌^◌, ◌<◌, ◌≤◌, length, slice_index, bit_and}
use Rattle.loom_topology.specs.Topology.{TopologyView, Leads, branch_at, price_at, node_of}
use Rattle.loom_topology.specs.TreeCost.{HasTree}
use Rattle.loom_topology.specs.Legal.{cavities_of_mask}
use Rattle.loom_steiner.specs.declared.ways.TheConstants.{NO_TREE}
use Rattle.loom_steiner.specs.Row.{IsCapped}
use Rattle.loom_steiner.specs.Split.{cell_in}

-- a step over a way to each node and a branch
abbrev pub reach_cost : ℕ → ℕ
reach_cost n = (n + 1) * 1000000

-- a number for a mask, or none, is far below none
abbrev pub IsBoundedAt : TopologyView → List ℕ → ℕ → ℕ → Type 0
IsBoundedAt topology terminals mask x =
    x < NO_TREE → x + reach_cost (length topology.nodes) ≤ 2 * length (cavities_of_mask terminals mask) * reach_cost (length topology.nodes)

-- the row of a mask over those of smaller masks
pub record IsRowOf (topology : TopologyView) (terminals cells : List ℕ) (mask : ℕ) (row : List ℕ) : Type 0 where
  pub len : length row ≡ length topology.nodes
  pub capped : IsCapped row
  pub leaf : (i : ℕ) → i + 1 < length terminals → 2 ^ i ≡ mask → slice_index row (node_of topology (slice_index terminals (i + 1))) ≡ 0
  pub over : (v s u : ℕ) → v < length topology.nodes → Leads topology s v u → slice_index row v ≤ slice_index row u + price_at topology s
  pub reach : (v s u : ℕ) → v < length topology.nodes → Leads topology s v u → slice_index row u < NO_TREE → slice_index row v < NO_TREE
  pub split : (a b v : ℕ) → 0 < a → 0 < b → bit_and a b ≡ 0 → a + b ≡ mask → v < length topology.nodes
      → slice_index row v ≤ cell_in cells (length topology.nodes) a v + cell_in cells (length topology.nodes) b v + branch_at topology v
  pub attained : (v : ℕ) → v < length topology.nodes → slice_index row v < NO_TREE → HasTree topology (cavities_of_mask terminals mask) v (slice_index row v)
  pub bounded : (v : ℕ) → v < length topology.nodes → IsBoundedAt topology terminals mask (slice_index row v)

-- the rows of all masks below one
pub record IsFilled (topology : TopologyView) (terminals : List ℕ) (below : ℕ) (cells : List ℕ) : Type 0 where
  pub len : length cells ≡ (below - 1) * length topology.nodes
  pub capped : IsCapped cells
  pub leaf : (i : ℕ) → i + 1 < length terminals → 2 ^ i < below
      → cell_in cells (length topology.nodes) (2 ^ i) (node_of topology (slice_index terminals (i + 1))) ≡ 0
  pub over : (mask v s u : ℕ) → 0 < mask → mask < below → v < length topology.nodes → Leads topology s v u
      → cell_in cells (length topology.nodes) mask v ≤ cell_in cells (length topology.nodes) mask u + price_at topology s
  pub reach : (mask v s u : ℕ) → 0 < mask → mask < below → v < length topology.nodes → Leads topology s v u
      → cell_in cells (length topology.nodes) mask u < NO_TREE → cell_in cells (length topology.nodes) mask v < NO_TREE
  pub split : (a b v : ℕ) → 0 < a → 0 < b → bit_and a b ≡ 0 → a + b < below → v < length topology.nodes
      → cell_in cells (length topology.nodes) (a + b) v
      ≤ cell_in cells (length topology.nodes) a v + cell_in cells (length topology.nodes) b v + branch_at topology v
  pub attained : (mask v : ℕ) → 0 < mask → mask < below → v < length topology.nodes → cell_in cells (length topology.nodes) mask v < NO_TREE
      → HasTree topology (cavities_of_mask terminals mask) v (cell_in cells (length topology.nodes) mask v)
  pub bounded : (mask v : ℕ) → 0 < mask → mask < below → v < length topology.nodes
      → IsBoundedAt topology terminals mask (cell_in cells (length topology.nodes) mask v)
