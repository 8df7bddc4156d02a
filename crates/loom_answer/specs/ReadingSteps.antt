-- How far the reading of rows and of cells has come.
use Rattle.std.specs.Prelude.{◌≡◌, ℕ, List, [], ◌∷◌, ◌++◌, length, Option, Result, Ok, Err}
use Rattle.loom_base.specs.First.{◌>>=◌}
use Rattle.loom_json.specs.Forms.{Gives}
use Rattle.loom_json.specs.declared.path.ShapeStop.{ShapeStop}
use Rattle.loom_formula.specs.declared.row_list.Row.{Row}
use Rattle.loom_topology.specs.Table.{TableView}

-- the reading of a row, behind the rows that were read before
abbrev pub with_row : List Row → Result Row (List ℕ) → Result (List Row) (List ℕ)
with_row rows reading = reading >>= λ row. Ok (rows ++ row ∷ [])

-- the reading of cells, behind those that were read before
abbrev pub behind : List (Option ℕ) → Result (List (Option ℕ)) (List ℕ) → Result (List (Option ℕ)) (List ℕ)
behind front reading = reading >>= λ rest. Ok (front ++ rest)

-- two tables have as many masks, nodes and cells
pub record AreOneSize (old new : TableView) : Type 0 where
  pub masks : new.masks ≡ old.masks
  pub nodes : new.nodes ≡ old.nodes
  pub count : length new.cells ≡ length old.cells

-- a call came so far in a reading that what is next is left of it, or it gave the reading's failure
abbrev pub Reaches : {X Y : Type 0} → Result X ShapeStop → Result Y (List ℕ) → Result Y (List ℕ) → Type 0
Reaches (Ok done) next reading = reading ≡ next
Reaches {X} {Y} (Err stop) next reading = Gives {X = Y} (Err stop) reading
