-- Plans are read again from what they are shown as.
use Rattle.std.proofs.Common.{◌≡◌, ℕ, suc, ◌+◌, ◌-◌, ◌<◌, List, [], ◌∷◌, map, ltb, false, Some, Ok, decimal, refl, ap, ◌∙◌, arith}
use Rattle.std.specs.Prelude.{slice_get}
use Rattle.std.specs.List.{All}
use Rattle.std.proofs.lemmas.Bool.{lt-ltb, le-ltb}
use Rattle.std.proofs.lemmas.List.Elements.{All-head, All-tail}
use Rattle.loom_base.specs.First.{◌>>=◌}
use Rattle.loom_json.specs.Fields.{array_of}
use Rattle.loom_json.specs.Forms.{under, required}
use Rattle.loom_formula.specs.declared.row_list.Row.{Row}
use Rattle.loom_formula.specs.RowList.{AreBelow, row_at}
use Rattle.loom_types.specs.declared.plan.Plan.{Plan}
use Rattle.loom_answer.specs.Plans.{row_shown, set_shown, table_shown, pin_shown, module_shown, plan_shown}
use Rattle.loom_answer.specs.PlanForms.{set_form, pin_form, module_form, plan_form}
use Rattle.loom_answer.specs.Readable.{IsFew, IsRowReadable, IsSetReadable, IsTableReadable, IsPinReadable, IsWireReadable, IsModuleReadable, IsReadable}
use Rattle.loom_answer.specs.RowForms.{row_of, row_form, rows_from, rows_form}
use Rattle.loom_answer.specs.TableForms.{table_form}
use Rattle.loom_answer.specs.WireForms.{wire_form}
use Rattle.loom_answer.specs.Wires.{wire_shown}
use Rattle.loom_answer.proofs.Again.{small_again, list_again, set_again, pin_again, wire_again, module_again}
use Rattle.loom_answer.proofs.TableAgain.{items_again, table_again}

row_again : (number : ℕ) (row : Row) → IsRowReadable row → row.low < number → row.high < number → row_form number (row_shown row) ≡ Ok row
unfolding row_form row_of
row_again number row r low high =
    rw (small_again row.option r.option_small, small_again row.low r.low_small, small_again row.high r.high_small, lt-ltb row.low number low, lt-ltb row.high number high)

-- each row from a position on is below its number
abbrev BelowFrom : ℕ → List Row → Type 0
BelowFrom position rows = (i : ℕ) (row : Row) → slice_get rows i ≡ Some row → (row.low < position + i + 2) × (row.high < position + i + 2)

rows_again : (position : ℕ) (rows : List Row) → All IsRowReadable rows → BelowFrom position rows → rows_from position (map row_shown rows) ≡ Ok rows
rows_again position [] readable below = refl
rows_again position (row ∷ rows) readable below =
    let first = below 0 row refl in
    let number : position + 0 + 2 ≡ position + 2 = omega arith in
    let one_more : suc position ≡ position + 1 = omega arith in
    let here : row_form (position + 2) (row_shown row) ≡ Ok row = row_again (position + 2) row (All-head IsRowReadable row rows readable) (omega (arith, first.0)) (omega (arith, first.1)) in
    let later : rows_from (suc position) (map row_shown rows) ≡ Ok rows =
    ap (λ p. rows_from p (map row_shown rows)) one_more
    ∙ rows_again (position + 1) rows (All-tail IsRowReadable row rows readable) (λ i next at. (omega (arith, (below (suc i) next at).0), omega (arith, (below (suc i) next at).1))) in
    ap (λ r. under (decimal position) r >>= λ row. rows_from (suc position) (map row_shown rows) >>= λ rows. Ok (row ∷ rows)) here
    ∙ ap (λ r. r >>= λ rows. Ok (row ∷ rows)) later

below_from : (rows : List Row) → AreBelow rows → BelowFrom 0 rows
below_from rows below i row at =
    let past : ltb (i + 2) 2 ≡ false = le-ltb (i + 2) 2 (omega arith) in
    let place : i + 2 - 2 ≡ i = omega arith in
    let found : row_at rows (i + 2) ≡ Some row = rw (past, place) at in
    (omega (arith, below.low (i + 2) row found), omega (arith, below.high (i + 2) row found))

row_list_again : (rows : List Row) → IsFew rows → All IsRowReadable rows → AreBelow rows → rows_form (array_of (map row_shown rows)) ≡ Ok rows
row_list_again rows few readable below =
    ap (λ o. required o >>= rows_from 0) (items_again row_shown rows few) ∙ rows_again 0 rows readable (below_from rows below)

-- a plan is read again where it is readable
pub plan_again : (plan : Plan) → IsReadable plan → plan_form (plan_shown plan) ≡ Ok plan
unfolding plan_form
plan_again plan r =
    rw (
      row_list_again plan.rows r.few_rows r.each_row r.are_below,
      list_again set_form set_shown IsSetReadable set_again plan.sets r.few_sets r.each_set,
      list_again table_form table_shown IsTableReadable table_again plan.tables r.few_tables r.each_table,
      list_again pin_form pin_shown IsPinReadable pin_again plan.pins r.few_pins r.each_pin,
      list_again wire_form wire_shown IsWireReadable wire_again plan.wires r.few_wires r.each_wire,
      list_again module_form module_shown IsModuleReadable module_again plan.modules r.few_modules r.each_module,
    )
