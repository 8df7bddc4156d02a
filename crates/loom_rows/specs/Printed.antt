use Rattle.std.specs.Prelude.{ℕ, ◌≡◌, ◌<◌, ◌≤◌, ◌+◌, ◌-◌, List, [], ◌∷◌, length, slice_get, Some}
use Rattle.loom_formula.specs.declared.row_list.Row.{Row}
use Rattle.loom_formula.specs.RowList.{row_at}
use Rattle.loom_rows.specs.Condition.{Meaning}
use Rattle.loom_rows.specs.Leftovers.{AreSame}
use Rattle.loom_rows.specs.RowLists.{meaning_at, IsReduced}

-- Walks rows before number after: a walk from this number, begun when so many rows have numbers, ends when so many have;
-- it takes the low part, then the high part, then the row itself, and leaves out what has a number
pub data Walks (rows : List Row) : ℕ → ℕ → ℕ → Type 0 where
  has_number : (count number : ℕ) → number < count + 2 → Walks rows count number count
  takes : (count between number : ℕ) (row : Row) → row_at rows number ≡ Some row → count + 2 ≤ number
      → Walks rows count row.low between → Walks rows between row.high (number - 2) → Walks rows count number (number - 1)

-- the walks from these numbers, one after another
abbrev pub WalksAll : List Row → ℕ → List ℕ → ℕ → Type 0
WalksAll rows count [] after = count ≡ after
WalksAll rows count (number ∷ numbers) after = (between : ℕ) × Walks rows count number between × WalksAll rows between numbers after

-- the printed list of conditions, and the number of each: it is reduced, each number means its condition, and the walks
-- from the numbers in order take exactly its rows, in their order
pub record IsPrinted (fs : List Meaning) (rows : List Row) (numbers : List ℕ) : Type 0 where
  pub reduced : IsReduced rows
  pub counted : length numbers ≡ length fs
  pub in_range : (i number : ℕ) → slice_get numbers i ≡ Some number → number < length rows + 2
  pub valued : (i number : ℕ) (f : Meaning) → slice_get numbers i ≡ Some number → slice_get fs i ≡ Some f → AreSame (meaning_at rows number) f
  pub ordered : WalksAll rows 0 numbers (length rows)
