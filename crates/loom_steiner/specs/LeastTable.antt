use Rattle.std.specs.Prelude.{ℕ, List, ◌≡◌, ◌-◌, ◌^◌, length}
use Rattle.loom_topology.specs.Topology.{TopologyView}
use Rattle.loom_topology.specs.Table.{TableView, cell_at}
use Rattle.loom_topology.specs.Least.{HasLeastCosts}

-- a cell for each mask of the terminals behind the first and each node: the least cost of a wiring tree for the mask's
-- cavities from there
pub record IsLeastTable (topology : TopologyView) (terminals : List ℕ) (table : TableView) : Type 0 where
  pub masks : table.masks ≡ 2 ^ (length terminals - 1) - 1
  pub nodes : table.nodes ≡ length topology.nodes
  pub least : HasLeastCosts topology terminals (cell_at table)
