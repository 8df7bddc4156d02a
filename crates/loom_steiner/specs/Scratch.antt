use Rattle.std.specs.Prelude.{ℕ, List, ◌≡◌, ◌-◌, ◌*◌, ◌<◌, map, length, slice_index_or, None}
use Rattle.loom_topology.specs.Table.{TableView, cell_at}
use Rattle.loom_steiner.specs.Row.{cost_from}

-- the table whose cells, in 64 bits each, stand mask after mask
abbrev pub scratch_view : ℕ → ℕ → List ℕ → TableView
scratch_view masks nodes cells = record { masks = masks; nodes = nodes; cells = map cost_from cells }

-- the first cells of a mask become those of another table, and no cell of a smaller mask changes
pub record CopiesRow (source : TableView) (mask done : ℕ) (table new : TableView) : Type 0 where
  pub masks : new.masks ≡ table.masks
  pub nodes : new.nodes ≡ table.nodes
  pub len : length new.cells ≡ length table.cells
  pub copied : (v : ℕ) → v < done → cell_at new mask v ≡ cell_at source mask v
  pub kept : (place : ℕ) → place < (mask - 1) * source.nodes → slice_index_or new.cells place None ≡ slice_index_or table.cells place None
