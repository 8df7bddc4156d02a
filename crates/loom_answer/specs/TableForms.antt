-- Tables as they are written down.
use Rattle.std.specs.Prelude.{ℕ, suc, List, [], ◌∷◌, ◌++◌, length, Option, Some, None, Result, Ok, Err, codes, decimal}
use Rattle.std.specs.Option.{option_map_or}
use Rattle.serde_json.specs.Data.{Data, null, boolean, number, string, array, object}
use Rattle.loom_base.specs.First.{◌>>=◌}
use Rattle.loom_json.specs.Forms.{keyed, at_key, each, under, required, items_in, number_form}
use Rattle.loom_topology.specs.Table.{TableView}
use Rattle.loom_types.specs.declared.plan.TableLine.{TableLine}
use Rattle.loom_answer.specs.NumberForms.{net_no_form, items_of_length}

-- a cell with a number of at most 2^40
abbrev pub cost_form : Data → Result ℕ (List ℕ)
cost_form = number_form 0 1099511627776

-- a cell: `null` is one without a number
abbrev pub cell_form : Data → Result (Option ℕ) (List ℕ)
cell_form null = Ok None
cell_form (boolean b) = Err []
cell_form (number n) = cost_form (number n) >>= λ cost. Ok (Some cost)
cell_form (string s) = Err []
cell_form (array ds) = Err []
cell_form (object ms) = Err []

-- the cells of a mask: an array of so many, each a cell
abbrev pub mask_form : ℕ → Data → Result (List (Option ℕ)) (List ℕ)
mask_form nodes d = required (items_of_length nodes d) >>= each cell_form 0

-- how many cells the first mask has; where there is no mask, or it is no array, none
abbrev pub width_of : List Data → ℕ
width_of [] = 0
width_of (d ∷ ds) = option_map_or length (items_in d) 0

-- the cells of the masks from a position on, those of one mask behind those of the one before
abbrev pub cells_from : ℕ → ℕ → List Data → Result (List (Option ℕ)) (List ℕ)
cells_from nodes position [] = Ok []
cells_from nodes position (d ∷ ds) = do
  cells ← under (decimal position) (mask_form nodes d)
  rest ← cells_from nodes (suc position) ds
  Ok (cells ++ rest)

-- the table of these masks: as many nodes as the first mask has cells, and each mask has as many
unfoldable pub masks_of : List Data → Result TableView (List ℕ)
masks_of ds = cells_from (width_of ds) 0 ds
    >>= λ cells. Ok (record { masks = length ds; nodes = width_of ds; cells = cells })

-- the cells of a table, mask by mask
abbrev pub cells_form : Data → Result TableView (List ℕ)
cells_form d = required (items_in d) >>= masks_of

-- a net with its table
unfoldable pub table_form : Data → Result TableLine (List ℕ)
table_form d = do
  checked ← keyed (codes "net" ∷ codes "cells" ∷ []) d
  net ← at_key net_no_form (codes "net") d
  table ← at_key cells_form (codes "cells") d
  Ok (record { net = net; table = table })
