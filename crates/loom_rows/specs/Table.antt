use Rattle.std.specs.Prelude.{ℕ, ◌≡◌, ◌≢◌, ◌<◌, ◌≤◌, ◌+◌, ◌-◌, List, length, slice_get, Some}
use Rattle.loom_rows.specs.declared.cond.Cond.{Cond, Never, Always, Row'}
use Rattle.loom_rows.specs.Condition.{number_of, first_option}

-- a row: its option, and the numbers of its low and its high part
abbrev pub Triple : Type 0
Triple = ℕ × ℕ × ℕ

-- what callers see of the shared rows: how many options there are, how many rows there may be, and the rows in order
pub record Table : Type 0 where
  pub options : ℕ
  pub limit : ℕ
  pub rows : List Triple

-- a row with this number stands in the list, its parts come before it and differ, and options rise along its branches
pub record IsRowAt (options : ℕ) (rows : List Triple) (number option : ℕ) (low high : Cond) : Type 0 where
  pub numbered : 2 ≤ number
  pub written : slice_get rows (number - 2) ≡ Some (option, number_of low, number_of high)
  pub apart : number_of low ≢ number_of high
  pub low_before : number_of low < number
  pub high_before : number_of high < number
  pub low_rises : option < first_option options low
  pub high_rises : option < first_option options high

-- each row of the condition stands in the list
abbrev pub StandsIn : ℕ → List Triple → Cond → Type 0
StandsIn options rows Never = Unit {0}
StandsIn options rows Always = Unit {0}
StandsIn options rows (Row' p number option low high) =
    IsRowAt options rows number option.0 low high × StandsIn options rows low × StandsIn options rows high

-- the condition is one of the table's
abbrev pub Has : Table → Cond → Type 0
Has t x = StandsIn t.options t.rows x

-- a table that can be: each of its rows is a condition of it, no two rows are equal, and there are no more than the limit
pub record IsSound (t : Table) : Type 0 where
  pub whole : (i : ℕ) → i < length t.rows → (x : Cond) × Has t x × (number_of x ≡ i + 2)
  pub distinct : (i j : ℕ) (row : Triple) → slice_get t.rows i ≡ Some row → slice_get t.rows j ≡ Some row → i ≡ j
  pub within : length t.rows ≤ t.limit
  pub bounded : t.limit ≤ 262144
