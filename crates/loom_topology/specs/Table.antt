use Rattle.std.specs.Prelude.{ℕ, List, Option, None, ◌≡◌, ◌+◌, ◌-◌, ◌*◌, ◌^◌, ◌≤◌, length, All, IfSome, slice_index_or, slice_set, replicate}

-- what contracts see of a `Table`
pub record TableView : Type 0 where
  pub masks : ℕ
  pub nodes : ℕ
  pub cells : List (Option ℕ)

-- masks count from 1; all nodes of a mask stand together
abbrev pub cell_index : TableView → ℕ → ℕ → ℕ
cell_index table mask v = (mask - 1) * table.nodes + v

abbrev pub cell_at : TableView → ℕ → ℕ → Option ℕ
cell_at table mask v = slice_index_or table.cells (cell_index table mask v) None

-- the same table but for one cell
abbrev pub with_cell : TableView → ℕ → ℕ → Option ℕ → TableView
with_cell table mask v value = record table { cells = slice_set table.cells (cell_index table mask v) value }

abbrev pub empty_table : ℕ → ℕ → TableView
empty_table masks nodes = record { masks = masks; nodes = nodes; cells = replicate (masks * nodes) None }

-- what holds of every table: a cell for each mask and node, and no number above 2^40
pub record IsWhole (table : TableView) : Type 0 where
  pub count : length table.cells ≡ table.masks * table.nodes
  pub small : All (λ cell. IfSome cell (λ value. value ≤ 2 ^ 40)) table.cells
