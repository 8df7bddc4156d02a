-- Rows that are read one behind the other.
use Rattle.std.proofs.Common.{◌≡◌, ℕ, suc, ◌+◌, List, ◌∷◌, [], drop, length, Result, Ok, Err, decimal, sym, ap, subst, ◌∙◌, arith}
use Rattle.std.proofs.lemmas.List.{length-append}
use Rattle.serde_json.specs.Data.{Data}
use Rattle.loom_json.proofs.Lists.{with_front}
use Rattle.loom_json.specs.Forms.{Gives}
use Rattle.loom_json.specs.declared.path.ShapeStop.{ShapeStop}
use Rattle.loom_formula.specs.declared.row_list.Row.{Row}
use Rattle.loom_answer.specs.RowForms.{row_form, rows_from}
use Rattle.loom_answer.proofs.Readings.{GivesNext, Told, went_on, new_is, failed_next}

-- so many rows are read
pub record AreRowsRead (rows : List Row) (position : ℕ) (ds : List Data) : Type 0 where
  pub count : length rows ≡ position
  pub so_far : with_front rows (rows_from position (drop position ds)) ≡ rows_from 0 ds

module _ (rows new : List Row) (position : ℕ) (ds : List Data) (d : Data) (read : AreRowsRead rows position ds) (next : drop position ds ≡ d ∷ drop (position + 1) ds) (result : Result (Unit {0}) ShapeStop)
    (gives : GivesNext rows (λ row. row ∷ []) result new (row_form (length rows + 2) d)) where
  abbrev rest : Result (List Row) (List ℕ)
  rest = rows_from (suc position) (drop (position + 1) ds)

  given : GivesNext rows (λ row. row ∷ []) result new (row_form (position + 2) d)
  given = subst (λ n. GivesNext rows (λ row. row ∷ []) result new (row_form (n + 2) d)) read.count gives

  follows : rows_from 0 ds ≡ with_front rows (rows_from position (d ∷ drop (position + 1) ds))
  follows = sym read.so_far ∙ ap (λ l. with_front rows (rows_from position l)) next

  pub rows_next : Told (decimal position) result (Ok tt) → AreRowsRead new (position + 1) ds
  rows_next told =
      let (row, new_are) = new_is rows new (λ row. row ∷ []) (decimal position) rest (rows_from 0 ds) result (row_form (position + 2) d) given told in
      let one_more : suc position ≡ position + 1 = omega arith in
      record {
        count = ap length new_are ∙ length-append rows (row ∷ []) ∙ ap (λ n. n + 1) read.count;
        so_far = ap (λ n. with_front new (rows_from n (drop (position + 1) ds))) (sym one_more)
            ∙ went_on rows new (λ row. row ∷ []) (decimal position) rest (rows_from 0 ds) result (row_form (position + 2) d) given told follows;
      }

  pub rows_fail : (stop : ShapeStop) → Told (decimal position) result (Err stop) → Gives {X = List Row} (Err stop) (rows_from 0 ds)
  rows_fail stop told = failed_next rows new (λ row. row ∷ []) (decimal position) rest (rows_from 0 ds) result stop (row_form (position + 2) d) given told follows
