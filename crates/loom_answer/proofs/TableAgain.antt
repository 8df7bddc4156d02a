-- Tables are read again from what they are shown as.
use Rattle.std.proofs.Common.{◌≡◌, ℕ, zero, suc, ◌+◌, ◌-◌, ◌*◌, ◌≤◌, ◌^◌, List, [], ◌∷◌, ◌++◌, map, drop, length, get_or, true, eqb, Option, Some, None, Result, Ok, decimal, refl, sym, ap, subst, ◌∙◌, arith}
use Rattle.std.specs.Prelude.{IfSome, ◌==◌, if◌then◌else◌, option_and_then}
use Rattle.std.specs.Option.{option_map_or}
use Rattle.std.specs.List.{All, range_with_len}
use Rattle.std.proofs.lemmas.Bool.{le-leb, eq-eqb}
use Rattle.std.proofs.lemmas.List.{drop_all, drop_more, length-map}
use Rattle.std.proofs.lemmas.List.Elements.{All-nil, All-cons, All-head, All-tail}
use Rattle.std.proofs.lemmas.List.FromFn.{length-range_with_len, length-map-range_with_len}
use Rattle.std.proofs.lemmas.Simd.{map-map}
use Rattle.serde_json.specs.Data.{Data}
use Rattle.loom_base.specs.First.{◌>>=◌}
use Rattle.loom_base.specs.declared.limits.TheConstants.{MAX_ELEMENTS}
use Rattle.loom_json.specs.Fields.{array_of}
use Rattle.loom_json.specs.Forms.{under, each, required, items_in}
use Rattle.loom_json.proofs.Again.{IsReadAgain, each-map, list_of-items_of}
use Rattle.loom_topology.specs.Table.{TableView, IsWhole, cell_at}
use Rattle.loom_types.specs.declared.plan.TableLine.{TableLine}
use Rattle.loom_answer.specs.NumberForms.{items_of_length}
use Rattle.loom_answer.specs.Plans.{cell_shown, mask_shown, cells_shown, table_shown}
use Rattle.loom_answer.specs.TableForms.{cell_form, mask_form, width_of, cells_from, masks_of, cells_form, table_form}
use Rattle.loom_answer.specs.Readable.{IsTableReadable}
use Rattle.loom_answer.proofs.Again.{small_again}

abbrev IsCell : Option ℕ → Type 0
IsCell cell = IfSome cell (λ value. value ≤ 2 ^ 40)

cell_again : (cell : Option ℕ) → IsCell cell → IsReadAgain cell_form cell_shown cell
cell_again None small = refl
cell_again (Some n) small = rw (le-leb 0 n (omega arith), le-leb n 1099511627776 small)

cell_in : (cells : List (Option ℕ)) (i : ℕ) → All IsCell cells → IsCell (get_or cells i None)
cell_in [] i small = tt
cell_in (cell ∷ cells) zero small = All-head IsCell cell cells small
cell_in (cell ∷ cells) (suc i) small = cell_in cells i (All-tail IsCell cell cells small)

all_of : {X Y : Type 0} (P : X → Type 0) (f : Y → X) → ((y : Y) → P (f y)) → (ys : List Y) → All P (map f ys)
all_of P f is [] = All-nil P
all_of P f is (y ∷ ys) = All-cons P (f y) (map f ys) (is y) (all_of P f is ys)

-- the elements of an array that is shown
pub items_again : {X : Type 0} (shows : X → Data) (xs : List X) → length xs ≤ MAX_ELEMENTS → items_in (array_of (map shows xs)) ≡ Some (map shows xs)
items_again shows xs few = rw (list_of-items_of (map shows xs), length-map xs shows, le-leb (length xs) MAX_ELEMENTS few)

sized : (n : ℕ) (ds : List Data) → length ds ≡ n → (if length ds == n then Some ds else None) ≡ Some ds
sized n ds count = let same : eqb (length ds) n ≡ true = eq-eqb (length ds) n count in rw same

-- an array of so many is read again, each element by its form
sized_again : {X : Type 0} (form : Data → Result X (List ℕ)) (shows : X → Data) (n : ℕ) (xs : List X) → length xs ≡ n → n ≤ MAX_ELEMENTS → All (IsReadAgain form shows) xs
    → (required (items_of_length n (array_of (map shows xs))) >>= each form 0) ≡ Ok xs
sized_again form shows n xs count few again =
    let found : items_in (array_of (map shows xs)) ≡ Some (map shows xs) = items_again shows xs (let h : length xs ≤ MAX_ELEMENTS = rw count few in h) in
    ap (λ o. required (option_and_then (λ ds. if length ds == n then Some ds else None) o) >>= each form 0) found
    ∙ ap (λ o. required o >>= each form 0) (sized n (map shows xs) (length-map xs shows ∙ count))
    ∙ each-map form shows 0 xs again

-- the cells from a place on: so many of them, and those behind them
run_is : (cells : List (Option ℕ)) (start a n : ℕ) → start + a + n ≤ length cells → map (λ v. get_or cells (start + v) None) (range_with_len a n) ++ drop (start + a + n) cells ≡ drop (start + a) cells
run_is cells start a zero within = ap (λ k. drop k cells) (omega arith)
run_is cells start a (suc n) within =
    let at : start + a + suc n ≡ start + (a + 1) + n = omega arith in
    let rest = run_is cells start (a + 1) n (omega (arith, within)) in
    ap (λ k. get_or cells (start + a) None ∷ (map (λ v. get_or cells (start + v) None) (range_with_len (a + 1) n) ++ drop k cells)) at
    ∙ ap (λ l. get_or cells (start + a) None ∷ l) (rest ∙ ap (λ k. drop k cells) (let e : start + (a + 1) ≡ start + a + 1 = omega arith in e))
    ∙ sym (drop_more cells (start + a) None (omega (arith, within)))

module _ (table : TableView) (whole : IsWhole table) (few : table.nodes ≤ MAX_ELEMENTS) where
  abbrev block : ℕ → List (Option ℕ)
  block mask = map (cell_at table mask) (range_with_len 0 table.nodes)

  mask_again : (mask : ℕ) → mask_form table.nodes (mask_shown table mask) ≡ Ok (block mask)
  mask_again mask =
      let seen : map cell_shown (block mask) ≡ map (λ v. cell_shown (cell_at table mask v)) (range_with_len 0 table.nodes) = map-map cell_shown (cell_at table mask) (range_with_len 0 table.nodes) in
      let again = all_of (IsReadAgain cell_form cell_shown) (cell_at table mask) (λ v. cell_again (cell_at table mask v) (cell_in table.cells ((mask - 1) * table.nodes + v) whole.small)) (range_with_len 0 table.nodes) in
      subst (λ ds. (required (items_of_length table.nodes (array_of ds)) >>= each cell_form 0) ≡ Ok (block mask)) seen
      (sized_again cell_form cell_shown table.nodes (block mask) (length-map-range_with_len (cell_at table mask) 0 table.nodes) few again)

  cells_again : (p m : ℕ) → (p + m) * table.nodes ≡ length table.cells → cells_from table.nodes p (map (λ place. mask_shown table (place + 1)) (range_with_len p m)) ≡ Ok (drop (p * table.nodes) table.cells)
  cells_again p zero all = ap Ok (sym (drop_all (p * table.nodes) table.cells (let h : length table.cells ≤ p * table.nodes = omega (arith, all) in h)))
  cells_again p (suc m) all =
      let n = table.nodes in
      let one_more : suc p ≡ p + 1 = omega arith in
      let later : cells_from n (suc p) (map (λ place. mask_shown table (place + 1)) (range_with_len (p + 1) m)) ≡ Ok (drop ((p + 1) * n) table.cells) =
      ap (λ k. cells_from n k (map (λ place. mask_shown table (place + 1)) (range_with_len (p + 1) m))) one_more ∙ cells_again (p + 1) m (omega (arith, all)) in
      let before : p + 1 - 1 ≡ p = omega arith in
      let start : (p + 1 - 1) * n ≡ p * n = ap (λ k. k * n) before in
      let run : block (p + 1) ++ drop ((p + 1 - 1) * n + 0 + n) table.cells ≡ drop ((p + 1 - 1) * n + 0) table.cells = run_is table.cells ((p + 1 - 1) * n) 0 n (rw start (omega (arith, all))) in
      let joined : block (p + 1) ++ drop ((p + 1) * n) table.cells ≡ drop (p * n) table.cells =
      ap (λ k. block (p + 1) ++ drop k table.cells) (let e : (p + 1) * n ≡ (p + 1 - 1) * n + 0 + n = rw start (omega arith) in e)
      ∙ run ∙ ap (λ k. drop k table.cells) (let e : (p + 1 - 1) * n + 0 ≡ p * n = rw start (omega arith) in e) in
      ap (λ r. under (decimal p) r >>= λ cells. cells_from n (suc p) (map (λ place. mask_shown table (place + 1)) (range_with_len (p + 1) m)) >>= λ rest. Ok (cells ++ rest)) (mask_again (p + 1))
      ∙ ap (λ r. r >>= λ rest. Ok (block (p + 1) ++ rest)) later ∙ ap Ok joined

-- the table of masks that are shown
tables_again : (table : TableView) (m : ℕ) → table.masks ≡ suc m → table.masks ≤ MAX_ELEMENTS → table.nodes ≤ MAX_ELEMENTS → IsWhole table → cells_form (cells_shown table) ≡ Ok table
unfolding masks_of
tables_again table m some few_masks few_nodes whole =
    let shows : ℕ → Data = λ place. mask_shown table (place + 1) in
    let places : List ℕ = range_with_len 0 table.masks in
    let ds : List Data = map shows places in
    let count : length ds ≡ table.masks = length-map-range_with_len shows 0 table.masks in
    let found : items_in (array_of ds) ≡ Some ds = items_again shows places (let h : length places ≤ MAX_ELEMENTS = rw (length-range_with_len 0 table.masks) few_masks in h) in
    let width : width_of ds ≡ table.nodes =
    ap (λ k. width_of (map shows (range_with_len 0 k))) some
    ∙ ap (λ o. option_map_or length o 0) (items_again (λ v. cell_shown (cell_at table 1 v)) (range_with_len 0 table.nodes) (let h : length (range_with_len 0 table.nodes) ≤ MAX_ELEMENTS = rw (length-range_with_len 0 table.nodes) few_nodes in h))
    ∙ length-map-range_with_len (λ v. cell_shown (cell_at table 1 v)) 0 table.nodes in
    let cells : cells_from table.nodes 0 ds ≡ Ok table.cells = cells_again table whole few_nodes 0 table.masks (omega (arith, whole.count))
    ∙ ap (λ k. Ok (drop k table.cells)) (let e : 0 * table.nodes ≡ 0 = omega arith in e) in
    ap (λ o. required o >>= masks_of) found
    ∙ ap (λ n. cells_from n 0 ds >>= λ cs. Ok (record { masks = length ds; nodes = n; cells = cs })) width
    ∙ ap (λ r. r >>= λ cs. Ok (record { masks = length ds; nodes = table.nodes; cells = cs })) cells
    ∙ ap (λ k. Ok (record { masks = k; nodes = table.nodes; cells = table.cells })) count

pub table_again : (line : TableLine) → IsTableReadable line → IsReadAgain table_form table_shown line
unfolding table_form
table_again line r =
    let some : line.table.masks ≡ suc (line.table.masks - 1) = omega (arith, r.some_mask) in
    let cells : cells_form (cells_shown line.table) ≡ Ok line.table = tables_again line.table (line.table.masks - 1) some r.few_masks r.few_nodes r.is_whole in
    rw (small_again line.net.0 r.net_small, cells)
