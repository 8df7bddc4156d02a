use Rattle.std.specs.Prelude.{ℕ, ◌-◌, ◌==◌, List, if◌then◌else◌, slice_index_or}
use Rattle.loom_rows.specs.declared.cond.Cond.{Cond, Never, Always}

-- the condition of a number, among the conditions of the rows before
abbrev pub cond_at : List Cond → ℕ → Cond
cond_at conds number = if number == 0 then Never else (if number == 1 then Always else slice_index_or conds (number - 2) Never)
