-- The printed sets, tables and rows.
use Rattle.std.proofs.Common.{◌≡◌, ℕ, zero, suc, ◌+◌, ◌<◌, ◌++◌, ◌↔◌, Bool, List, length, map, take, drop, get_or, slice_get, slice_index, Some, IsTrue, refl, sym, ap, ap₂, subst, ◌∙◌, arith, Contains, inl, inr}
use Rattle.std.specs.List.{AllPairs, AllZip}
use Rattle.std.specs.List.Sorted.{IsStrictlyIncreasing}
use Rattle.std.proofs.lemmas.Bool.{cases_lt}
use Rattle.std.proofs.lemmas.List.{length-map, take-append-drop, get_or_default}
use Rattle.std.proofs.lemmas.List.Elements.{All-contains}
use Rattle.std.proofs.lemmas.Option.{same_Some}
use Rattle.loom_base.proofs.Contained.{Contains-map, Contains-from_map}
use Rattle.loom_formula.specs.RowList.{value_of}
use Rattle.loom_project.specs.declared.draft.Draft.{Draft}
use Rattle.loom_rows.specs.declared.cond.Cond.{Cond}
use Rattle.loom_rows.specs.Condition.{Meaning, value}
use Rattle.loom_rows.specs.Table.{Table}
use Rattle.loom_rows.specs.Leftovers.{AreSame}
use Rattle.loom_rows.specs.RowLists.{meaning_at, AreOptionsBelow}
use Rattle.loom_rows.specs.Printed.{IsPrinted}
use Rattle.loom_types.specs.declared.plan.Plan.{Plan}
use Rattle.loom_types.specs.declared.plan.PinLine.{PinLine}
use Rattle.loom_types.specs.declared.plan.SetLine.{SetLine}
use Rattle.loom_types.specs.declared.plan.TableLine.{TableLine}
use Rattle.loom_types.specs.declared.wire.Wire.{Wire}
use Rattle.loom_active.specs.LiveSets.{IsLiveUnder, IsLiveSet, IsListedBefore, IsSetBefore, PrintsLiveSets}
use Rattle.loom_active.proofs.Pairs.{pairs-map, slice_get-map}
use Rattle.loom_laid.specs.declared.laid_set.LaidSet.{LaidSet}
use Rattle.loom_laid.specs.declared.laid_set.Laid.{Laid}
use Rattle.loom_laid.specs.LaidSets.{IsLaid, IsNetTable}
use Rattle.loom_wires.specs.declared.cut_wire.CutWire.{CutWire}
use Rattle.loom_plan.specs.PlanOf.{ArePlanTables, IsLaidLine, ArePlanRows, printed_numbers}
use Rattle.loom_plan.specs.Stages.{HasLaid, Prints, conditions_of, set_line, wire_line}
use Rattle.loom_plan.proofs.LaidLive.{live-under, under-live}
use Rattle.loom_plan.proofs.Zipped.{pairs-of_map, zip-from_places, zip-of_map, zip-split, numbered-from, numbered-all, map-numbered_elements, map-numbered_numbers}

-- numbers that rise from each to the next rise
rising : (xs : List ℕ) → IsStrictlyIncreasing xs → (i j : ℕ) → i < j → j < length xs → slice_index xs i < slice_index xs j
rising xs steps i zero less within = absurd (omega (arith, less))
rising xs steps i (suc j) less within =
    let next : slice_index xs j < slice_index xs (j + 1) = steps j (omega (arith, within)) in
    let is : suc j ≡ j + 1 = omega arith in
    subst (λ (k : ℕ). slice_index xs i < slice_index xs k) (sym is) (elim (cases_lt i j) [
      | inl before ↦ let low = rising xs steps i j before (omega (arith, within)) in omega (arith, low, next)
      | inr not_before ↦ let e : i ≡ j = omega (arith, less, not_before) in subst (λ (k : ℕ). slice_index xs k < slice_index xs (j + 1)) (sym e) next
    ])

module _ (draft : Draft) (t : Table) (options : ℕ) (laid : Laid) (has : HasLaid draft t laid) (lines : List PinLine) (wires : List CutWire) (plan : Plan)
    (prints : Prints draft options laid lines wires plan) where
  abbrev pub set_numbers : List ℕ
  set_numbers = take (length laid.sets) prints.numbers

  abbrev pub wire_numbers : List ℕ
  wire_numbers = drop (length laid.sets) prints.numbers

  -- a number means the condition
  abbrev pub means : Cond → ℕ → Type 0
  means x n = AreSame (meaning_at plan.rows n) (value x)

  all_mean : AllZip means (conditions_of laid.sets wires) prints.numbers
  all_mean =
      zip-of_map (λ (f : Meaning) (n : ℕ). AreSame (meaning_at plan.rows n) f) value (conditions_of laid.sets wires) prints.numbers
      (zip-from_places (λ (f : Meaning) (n : ℕ). AreSame (meaning_at plan.rows n) f) (map value (conditions_of laid.sets wires)) prints.numbers
      prints.printed.counted (λ i n f at_n at_f. prints.printed.valued i n f at_n at_f))

  both_mean : AllZip (λ (set : LaidSet) (n : ℕ). means set.cond n) laid.sets set_numbers × AllZip means (map (λ (w : CutWire). w.cond) wires) wire_numbers
  both_mean = zip-split means (λ (set : LaidSet). set.cond) laid.sets (map (λ (w : CutWire). w.cond) wires) prints.numbers all_mean

  pub sets_mean : AllZip (λ (set : LaidSet) (n : ℕ). means set.cond n) laid.sets set_numbers
  sets_mean = both_mean.0

  pub wires_mean : AllZip (λ (w : CutWire) (n : ℕ). means w.cond n) wires wire_numbers
  wires_mean = zip-of_map means (λ (w : CutWire). w.cond) wires wire_numbers both_mean.1

  -- a printed set is a laid one with its number, and each laid set is printed
  pub line_from : (line : SetLine) → Contains plan.sets line
      → (set : LaidSet) × (n : ℕ) × Contains laid.sets set × means set.cond n × (set_line set n ≡ line)
  line_from line at =
      numbered-from (λ (set : LaidSet) (n : ℕ). means set.cond n) set_line laid.sets set_numbers line sets_mean
      (subst (λ (l : List SetLine). Contains l line) prints.sets_are at)

  pub line_of_set : (set : LaidSet) → Contains laid.sets set → (n : ℕ) × means set.cond n × Contains plan.sets (set_line set n)
  line_of_set set at =
      let (n, mean, has_line) = numbered-all (λ (s : LaidSet) (k : ℕ). means s.cond k) set_line laid.sets set_numbers set sets_mean at in
      (n, mean, subst (λ (l : List SetLine). Contains l (set_line set n)) (sym prints.sets_are) has_line)

  -- ---- live sets

  abbrev names_before : ℕ × ℕ → ℕ × ℕ → Type 0
  names_before one other = IsListedBefore one.0 one.1 other.0 other.1

  order : AllPairs IsSetBefore plan.sets
  order =
      let name : SetLine → ℕ × ℕ = λ l. (l.net.0, l.mask) in
      let name_of : LaidSet → ℕ × ℕ = λ s. (s.net.0, s.mask) in
      let names : map name plan.sets ≡ map name_of laid.sets =
      ap (map name) prints.sets_are
      ∙ map-numbered_elements (λ (s : LaidSet) (k : ℕ). means s.cond k) set_line name name_of (λ s n. refl) laid.sets set_numbers sets_mean in
      pairs-of_map names_before name plan.sets
      (subst (AllPairs names_before) (sym names) (pairs-map names_before name_of laid.sets has.live.order))

  live_where : (set : LaidSet) (n : ℕ) → Contains laid.sets set → means set.cond n → (choice : ℕ → Bool)
      → IsTrue (value_of plan.rows choice n) ↔ IsLiveUnder draft choice set.net.0 set.mask
  live_where set n at mean choice =
      let same : value_of plan.rows choice n ≡ _ = mean choice ∙ has.live.condition set at choice in (
        (λ holds. live-under draft set.net.0 set.mask choice (has.live.each set at) (sym same ∙ holds)),
        (λ live. same ∙ under-live draft set.net.0 set.mask choice live),
      )

  pub prints_live : PrintsLiveSets draft plan
  prints_live = record {
    order = order;
    each = λ line at.
        let (set, n, in_set, mean, e) = line_from line at in
        subst (λ (l : SetLine). IsLiveSet draft l.net.0 l.mask) e (has.live.each set in_set);
    all = λ net mask live.
        let (set, in_set, net_is, mask_is) = has.live.all net mask live in
        let (n, mean, printed) = line_of_set set in_set in
        (set_line set n, printed, net_is, mask_is);
    condition = λ line at choice.
        let (set, n, in_set, mean, e) = line_from line at in
        subst (λ (l : SetLine). IsTrue (value_of plan.rows choice l.row) ↔ IsLiveUnder draft choice l.net.0 l.mask) e
        (live_where set n in_set mean choice);
  }

  -- ---- tables and layouts

  table_made : (line : TableLine) → Contains plan.tables line → IsNetTable draft line
  table_made line at =
      All-contains (IsNetTable draft) laid.tables line has.tables.each (subst (λ (l : List TableLine). Contains l line) prints.tables_are at)

  tables_order : AllPairs (λ one other. one.net.0 < other.net.0) plan.tables
  tables_order =
      let net : TableLine → ℕ = λ l. l.net.0 in
      let nets : List ℕ = map net laid.tables in
      subst (AllPairs (λ (one other : TableLine). one.net.0 < other.net.0)) (sym prints.tables_are)
      (pairs-of_map ◌<◌ net laid.tables (λ i j d less within.
      let low : get_or nets i d ≡ slice_index nets i = get_or_default nets i d 0 (omega (arith, less, within)) in
      let high : get_or nets j d ≡ slice_index nets j = get_or_default nets j d 0 within in
      let up : slice_index nets i < slice_index nets j = rising nets has.tables.nets.rising i j less within in
      omega (arith, low, high, up)))

  pub plan_tables : ArePlanTables draft plan
  plan_tables = record {
    order = tables_order;
    each = λ line at.
        let (mask, live) =
        has.tables.nets.each line.net.0
        (Contains-map (λ (l : TableLine). l.net.0) laid.tables line (subst (λ (l : List TableLine). Contains l line) prints.tables_are at)) in
        let (set, in_set, net_is, mask_is) = has.live.all line.net.0 mask live in
        let (n, mean, printed) = line_of_set set in_set in
        (set_line set n, printed, net_is);
    all = λ one at.
        let (set, n, in_set, mean, e) = line_from one at in
        let (line, listed, net_is) =
        Contains-from_map (λ (l : TableLine). l.net.0) laid.tables set.net.0 (has.tables.nets.all set.net.0 set.mask (has.live.each set in_set)) in (
          line,
          subst (λ (l : List TableLine). Contains l line) (sym prints.tables_are) listed,
          net_is ∙ ap (λ (l : SetLine). l.net.0) e,
        );
    least = λ line at. (table_made line at).least;
    whole = λ line at. (table_made line at).whole;
  }

  pub plan_laid : (one : SetLine) → Contains plan.sets one → IsLaidLine draft plan one
  plan_laid one at =
      let (set, n, in_set, mean, e) = line_from one at in
      let is : IsLaid draft laid.tables set = All-contains (IsLaid draft laid.tables) laid.sets set has.each in_set in
      let line : IsLaidLine draft plan (set_line set n) = record {
        line = is.line;
        printed = subst (λ (l : List TableLine). Contains l is.line) (sym prints.tables_are) is.has;
        of_net = is.of_net;
        layout = is.layout;
        cost = is.cost;
      } in
      subst (IsLaidLine draft plan) e line

  -- ---- rows

  numbers_are : printed_numbers plan ≡ prints.numbers
  numbers_are =
      ap₂ (λ (a b : List ℕ). a ++ b)
      (ap (map (λ (l : SetLine). l.row)) prints.sets_are
      ∙ map-numbered_numbers (λ (s : LaidSet) (k : ℕ). means s.cond k) set_line (λ (l : SetLine). l.row) (λ s n. refl) laid.sets set_numbers sets_mean)
      (ap (map (λ (w : Wire). w.row)) prints.wires_are
      ∙ map-numbered_numbers (λ (w : CutWire) (k : ℕ). means w.cond k) wire_line (λ (w : Wire). w.row) (λ w n. refl) wires wire_numbers wires_mean)
      ∙ take-append-drop (length laid.sets) prints.numbers

  pub plan_rows : options ≡ length draft.options → ArePlanRows draft plan
  plan_rows same = record {
    printed =
        subst (λ (ns : List ℕ). IsPrinted (map (meaning_at plan.rows) ns) plan.rows ns) (sym numbers_are) (record {
          reduced = prints.printed.reduced;
          counted = sym (length-map prints.numbers (meaning_at plan.rows));
          in_range = prints.printed.in_range;
          valued = λ i n f at_n at_f choice.
              let at_map : slice_get (map (meaning_at plan.rows) prints.numbers) i ≡ Some (meaning_at plan.rows n) =
              slice_get-map (meaning_at plan.rows) prints.numbers i n at_n in
              let e : meaning_at plan.rows n ≡ f = same_Some (meaning_at plan.rows n) f (sym at_map ∙ at_f) in
              ap (λ (g : Meaning). g choice) e;
          ordered = prints.printed.ordered;
        });
    options = subst (λ (n : ℕ). AreOptionsBelow n plan.rows) same prints.options_below;
  }
