use Rattle.std.specs.Prelude.{ℕ, ◌≡◌, ◌≢◌, ◌<◌, ◌≤◌, ◌+◌, ◌-◌, ◌++◌, ◌⊎◌, nat_eq, List, length, slice_get, Option, Some}
use Rattle.std.specs.HashMap.{HashMap, get}
use Rattle.loom_formula.specs.declared.row_list.Row.{Row}
use Rattle.loom_formula.specs.RowList.{AreBelow}
use Rattle.loom_rows.specs.declared.cond.Cond.{Cond, Never, Always, Row'}
use Rattle.loom_rows.specs.Condition.{value, number_of, first_option}
use Rattle.loom_rows.specs.Table.{Table, Has}
use Rattle.loom_rows.specs.Leftovers.{AreSame}
use Rattle.loom_rows.specs.RowLists.{meaning_at}
use Rattle.loom_rows.specs.Printed.{Walks}

-- the printed number of a condition: never and always keep theirs, and a row has the one that is known of it
abbrev pub Shows : (ℕ → Option ℕ) → Cond → ℕ → Type 0
Shows known Never number = number ≡ 0
Shows known Always number = number ≡ 1
Shows known (Row' p n option low high) number = known n ≡ Some number

-- this printed number is that of the table's row n
pub record IsShown (t : Table) (rows : List Row) (n number : ℕ) : Type 0 where
  pub x : Cond
  pub has : Has t x
  pub numbered : number_of x ≡ n
  pub is_row : 2 ≤ n
  pub from_two : 2 ≤ number
  pub in_range : number < length rows + 2
  pub valued : AreSame (value x) (meaning_at rows number)

-- the printed row at this place is a row of the table, part by part
pub record IsOfRow (t : Table) (known : ℕ → Option ℕ) (i : ℕ) (row : Row) : Type 0 where
  pub n : ℕ
  pub at : known n ≡ Some (i + 2)
  pub low : Cond
  pub high : Cond
  pub has_low : Has t low
  pub has_high : Has t high
  pub shows_low : Shows known low row.low
  pub shows_high : Shows known high row.high
  pub written : slice_get t.rows (n - 2) ≡ Some (row.option, number_of low, number_of high)
  pub apart : number_of low ≢ number_of high
  pub low_rises : row.option < first_option t.options low
  pub high_rises : row.option < first_option t.options high

-- the printed rows are rows of the table, each once, and those that are known
pub record IsPrinting (t : Table) (rows : List Row) (known : ℕ → Option ℕ) : Type 0 where
  pub below : AreBelow rows
  pub shown : (n number : ℕ) → known n ≡ Some number → IsShown t rows n number
  pub injective : (n other number : ℕ) → known n ≡ Some number → known other ≡ Some number → n ≡ other
  pub onto : (i : ℕ) (row : Row) → slice_get rows i ≡ Some row → IsOfRow t known i row

-- the number of a condition was found or given, and its rows are printed in the order of the walk
pub record IsPrintStep (t : Table) (old new : List Row) (before after : ℕ → Option ℕ) (x : Cond) (number : ℕ) : Type 0 where
  pub printing : IsPrinting t new after
  pub more : List Row
  pub appended : new ≡ old ++ more
  pub keeps : (n k : ℕ) → before n ≡ Some k → after n ≡ Some k
  pub adds : (n k : ℕ) → after n ≡ Some k → (before n ≡ Some k) ⊎ (n ≤ number_of x)
  pub shows : Shows after x number
  pub walked : Walks new (length old) number (length new)

-- the map as a function
abbrev pub known_by : {S : Type 0} → HashMap ℕ ℕ S → ℕ → Option ℕ
known_by known n = get nat_eq known n

-- the table has each of the conditions
abbrev pub AreHad : Table → List Cond → Type 0
AreHad t conds = (i : ℕ) (x : Cond) → slice_get conds i ≡ Some x → Has t x
