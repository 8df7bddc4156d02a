use Rattle.std.specs.Prelude.{ℕ, ◌≡◌, ◌+◌, slice_get, Some}
use Rattle.indexmap.specs.IndexMap.{keys}
use Rattle.loom_rows.specs.declared.cond.Cond.{Cond}
use Rattle.loom_rows.specs.Condition.{number_of}
use Rattle.loom_rows.specs.Table.{Triple, Table, Has, IsSound}
use Rattle.loom_rows.specs.declared.rows.Rows.TheInside.{Inside}

-- the index's keys are the rows
abbrev pub table_of : Inside → Table
table_of rows = record { options = rows.options; limit = rows.limit; rows = keys rows.index }

-- the index finds each row's condition
pub record IsKept (rows : Inside) : Type 0 where
  pub sound : IsSound (table_of rows)
  pub kept : (i : ℕ) (row : Triple) (x : Cond) → slice_get rows.index.entries i ≡ Some (row, x) → Has (table_of rows) x × (number_of x ≡ i + 2)
