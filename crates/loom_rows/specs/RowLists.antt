use Rattle.std.specs.Prelude.{ℕ, ◌≡◌, ◌≢◌, ◌<◌, ◌+◌, List, map, length, slice_get, Some}
use Rattle.std.specs.List.{range_with_len}
use Rattle.loom_formula.specs.declared.row_list.Row.{Row}
use Rattle.loom_formula.specs.RowList.{row_at, value_of}
use Rattle.loom_rows.specs.declared.cond.Cond.{Cond}
use Rattle.loom_rows.specs.Condition.{Meaning, value}
use Rattle.loom_rows.specs.Table.{Table, Has}
use Rattle.loom_rows.specs.Leftovers.{AreSame}

-- the condition that a number of a row list stands for
abbrev pub meaning_at : List Row → ℕ → Meaning
meaning_at rows number c = value_of rows c number

-- the conditions of n rows from the k-th on
abbrev pub meanings_from : List Row → ℕ → ℕ → List Meaning
meanings_from rows k n = map (λ i. meaning_at rows (i + 2)) (range_with_len k n)

-- the conditions of the rows, in order
abbrev pub meanings_of : List Row → List Meaning
meanings_of rows = meanings_from rows 0 (length rows)

-- a list is reduced where options rise along branches, no row has equal parts and no two rows are equal
pub record IsReduced (rows : List Row) : Type 0 where
  pub low_rises : (number : ℕ) (row part : Row) → row_at rows number ≡ Some row → row_at rows row.low ≡ Some part → row.option < part.option
  pub high_rises : (number : ℕ) (row part : Row) → row_at rows number ≡ Some row → row_at rows row.high ≡ Some part → row.option < part.option
  pub apart : (number : ℕ) (row : Row) → row_at rows number ≡ Some row → row.low ≢ row.high
  pub distinct : (one other : ℕ) (row : Row) → row_at rows one ≡ Some row → row_at rows other ≡ Some row → one ≡ other

-- each row's option is one of so many
abbrev pub AreOptionsBelow : ℕ → List Row → Type 0
AreOptionsBelow options rows = (number : ℕ) (row : Row) → row_at rows number ≡ Some row → row.option < options

-- each condition is that of the row at its place
abbrev pub AreConditionsOf : List Row → Table → List Cond → Type 0
AreConditionsOf rows t conds = (i : ℕ) (x : Cond) → slice_get conds i ≡ Some x → Has t x × AreSame (value x) (meaning_at rows (i + 2))
