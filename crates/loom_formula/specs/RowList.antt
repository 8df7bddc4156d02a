use Rattle.std.specs.Prelude.{◌≡◌, ℕ, zero, suc, ◌-◌, ◌<◌, ◌==◌, Bool, false, List, Option, Some, None, if◌then◌else◌, slice_get, nat_lt}
use Rattle.std.specs.Option.{option_map_or}
use Rattle.loom_formula.specs.declared.row_list.Row.{Row}

-- 0 is never and 1 is always; the rows are numbered from 2 on
abbrev pub row_at : List Row → ℕ → Option Row
row_at rows number = if nat_lt number 2 then None else slice_get rows (number - 2)

-- low and high of each row are below the row's own number
pub record AreBelow (rows : List Row) : Type 0 where
  pub low : (number : ℕ) (row : Row) → row_at rows number ≡ Some row → row.low < number
  pub high : (number : ℕ) (row : Row) → row_at rows number ≡ Some row → row.high < number

-- the number that a row leads to: high where its option is true, low where it is false
abbrev pub next_of : Row → (ℕ → Bool) → ℕ
next_of row choice = if choice row.option then row.high else row.low

-- the value of a number that at most so many steps from row to row lead to: true at 1, false at 0 and past the list
unfoldable pub value_within : ℕ → List Row → (ℕ → Bool) → ℕ → Bool
value_within zero rows choice number = false
value_within (suc steps) rows choice number =
    option_map_or (λ row. value_within steps rows choice (next_of row choice)) (row_at rows number) (number == 1)

-- the value of a number: each step leads to a lower one, so as many steps as the number serve
unfoldable pub value_of : List Row → (ℕ → Bool) → ℕ → Bool
value_of rows choice number = value_within (suc number) rows choice number
