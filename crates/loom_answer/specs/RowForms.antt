-- Rows as they are written down.
use Rattle.std.specs.Prelude.{ℕ, suc, ◌+◌, List, [], ◌∷◌, ◌&&◌, nat_lt, if◌then◌else◌, Result, Ok, Err, decimal}
use Rattle.serde_json.specs.Data.{Data}
use Rattle.loom_base.specs.First.{◌>>=◌}
use Rattle.loom_json.specs.Forms.{at_index, under, required, items_in}
use Rattle.loom_formula.specs.declared.row_list.Row.{Row}
use Rattle.loom_answer.specs.NumberForms.{small_form, items_of_length}

-- a row whose low and high are less than its number
abbrev pub below : ℕ → Row → Result Row (List ℕ)
below number row = if nat_lt row.low number && nat_lt row.high number then Ok row else Err []

-- the option, the low and the high of a row
unfoldable pub row_of : List Data → Result Row (List ℕ)
row_of ds = do
  option ← at_index small_form 0 ds
  low ← at_index small_form 1 ds
  high ← at_index small_form 2 ds
  Ok (record { option = option; low = low; high = high })

-- the row of a number: an array of three, whose last two are less than the number
unfoldable pub row_form : ℕ → Data → Result Row (List ℕ)
row_form number d = required (items_of_length 3 d) >>= row_of >>= below number

-- the rows from a position on; the row at a position has that number plus two
abbrev pub rows_from : ℕ → List Data → Result (List Row) (List ℕ)
rows_from position [] = Ok []
rows_from position (d ∷ ds) = do
  row ← under (decimal position) (row_form (position + 2) d)
  rows ← rows_from (suc position) ds
  Ok (row ∷ rows)

-- the rows of a plan
abbrev pub rows_form : Data → Result (List Row) (List ℕ)
rows_form d = required (items_in d) >>= rows_from 0
