use Rattle.std.specs.Prelude.{ℕ, Option, Some, None, map, ◌==◌, if◌then◌else◌}
use Rattle.loom_topology.specs.declared.table.Table.TheInside.{Inside}
use Rattle.loom_topology.specs.Table.{TableView}

-- the greatest number of 64 bits stands for a cell without a number
abbrev pub value_of_code : ℕ → Option ℕ
value_of_code code = if code == 18446744073709551615 then None else Some code

abbrev pub view_of : Inside → TableView
view_of t = record { masks = t.masks; nodes = t.nodes; cells = map value_of_code t.codes.items }
