use Rattle.std.specs.Prelude.{ℕ, Bool, ◌≡◌, ◌<◌, ◌+◌, ◌&&◌, ◌==◌, not, nat_lt, false, IsTrue, List, Option, Some, None, slice_get, take}
use Rattle.std.specs.List.{list_any}
use Rattle.std.specs.Option.{option_map_or}
use Rattle.loom_formula.specs.declared.row_list.Row.{Row}
use Rattle.loom_formula.specs.RowList.{row_at}

-- whether a number is never, always, or a row of a later option than this one
abbrev pub is_later : List Row → ℕ → ℕ → Bool
is_later rows option number = option_map_or (λ part. nat_lt option part.option) (row_at rows number) (nat_lt number 2)

-- whether a row's option is one of so many, its parts differ, and each of them is never, always or a row of a later option
abbrev pub leads_on : ℕ → List Row → Row → Bool
leads_on options rows row =
    nat_lt row.option options && not (row.low == row.high) && is_later rows row.option row.low && is_later rows row.option row.high

-- whether two rows are equal
abbrev pub row_eq : Row → Row → Bool
row_eq one other = one.option == other.option && one.low == other.low && one.high == other.high

-- whether the i-th row of a list is reduced: it leads on, and no earlier row is equal
abbrev pub is_reduced_row : ℕ → List Row → ℕ → Row → Bool
is_reduced_row options rows i row = leads_on options rows row && not (list_any (row_eq row) (take i rows))

-- each of the first n rows is reduced
abbrev pub AreReducedBefore : ℕ → List Row → ℕ → Type 0
AreReducedBefore options rows n = (i : ℕ) (row : Row) → i < n → slice_get rows i ≡ Some row → IsTrue (is_reduced_row options rows i row)

-- the first row that isn't reduced has this number
pub record IsFirstUnreduced (options : ℕ) (rows : List Row) (number : ℕ) : Type 0 where
  pub i : ℕ
  pub row : Row
  pub numbered : number ≡ i + 2
  pub at : slice_get rows i ≡ Some row
  pub unreduced : is_reduced_row options rows i row ≡ false
  pub before : AreReducedBefore options rows i
