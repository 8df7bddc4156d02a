-- The printed rows of a plan are decision rows, and each number of a condition refers to one.
use Rattle.std.proofs.Common.{◌≡◌, ℕ, ◌+◌, ◌-◌, ◌<◌, ◌==◌, ◌&&◌, true, false, not, List, [], ◌∷◌, length, take, map, filter, Option, Some, slice_get, sym, ap, subst, ◌∙◌, arith, Contains, inl, inr, nat_lt}
use Rattle.std.specs.List.{flat_map, list_any}
use Rattle.std.specs.Option.{option_map_or}
use Rattle.std.proofs.lemmas.Bool.{cases_lt, eqb-true, ne_eqb, lt-ltb, and_parts, and_from, false_from_ne_true}
use Rattle.std.proofs.lemmas.List.{length-take, get_or-take}
use Rattle.std.proofs.lemmas.List.Elements.{Contains-append_left, Contains-append_right, Contains-append_cases}
use Rattle.loom_base.proofs.Contained.{Contains-here, Contains-cons, Contains-cases, Contains-map, Contains-from_map, Contains-from_filter}
use Rattle.loom_formula.specs.declared.row_list.Row.{Row}
use Rattle.loom_formula.specs.RowList.{AreBelow, row_at}
use Rattle.loom_rows.specs.Printed.{IsPrinted}
use Rattle.loom_rows.specs.Reduced.{is_later, leads_on, row_eq, is_reduced_row}
use Rattle.loom_rows.specs.RowLists.{meaning_at, IsReduced, AreOptionsBelow}
use Rattle.loom_rows.proofs.Counted.{element}
use Rattle.loom_rows.proofs.TakeIn.{row-at, at-row, below-none}
use Rattle.loom_topology.specs.Topology.{TopologyView}
use Rattle.loom_project.specs.declared.draft.Draft.{Draft}
use Rattle.loom_project.specs.Project.{topology_of}
use Rattle.loom_types.specs.declared.plan.Module.{Module}
use Rattle.loom_types.specs.declared.plan.Plan.{Plan}
use Rattle.loom_types.specs.declared.plan.SetLine.{SetLine}
use Rattle.loom_types.specs.declared.wire.Wire.{Wire}
use Rattle.loom_types.specs.Modules.{harness_of, harnesses_of, distinct_in_order, rows_in, module_of}
use Rattle.loom_plan.specs.PlanOf.{IsPlanOf, printed_numbers}
use Rattle.loom_plan.proofs.Once.{any-member}
use Rattle.loom_audit.specs.Rows.{IsReference, AreRowsSound}
use Rattle.loom_check.proofs.AgreeingLines.{member_at, stands_at}
use Rattle.loom_accord.proofs.RowWalks.{walks-below}

-- ---- rows

module _ (options : ℕ) (rows : List Row) (below : AreBelow rows) (reduced : IsReduced rows) (few : AreOptionsBelow options rows) where
  later : (option number : ℕ) → number < length rows + 2 → ((part : Row) → row_at rows number ≡ Some part → option < part.option)
      → is_later rows option number ≡ true
  later option number within rises = elim (cases_lt number 2) [
    | inl end ↦
        ap (λ (o : Option Row). option_map_or (λ part. nat_lt option part.option) o (nat_lt number 2)) (below-none rows number end)
        ∙ lt-ltb number 2 end
    | inr from ↦
        let (part, stands) = element rows (number - 2) (omega (arith, within, from)) in
        let at : row_at rows number ≡ Some part = at-row rows number from ∙ stands in
        ap (λ (o : Option Row). option_map_or (λ part. nat_lt option part.option) o (nat_lt number 2)) at
        ∙ lt-ltb option part.option (rises part at)
  ]

  same_row : (one other : Row) → row_eq one other ≡ true → one ≡ other
  same_row one other equal =
      let a = and_parts (one.option == other.option && one.low == other.low) (one.high == other.high) equal in
      let b = and_parts (one.option == other.option) (one.low == other.low) a.0 in
      let option : one.option ≡ other.option = eqb-true one.option other.option b.0 in
      let low : one.low ≡ other.low = eqb-true one.low other.low b.1 in
      let high : one.high ≡ other.high = eqb-true one.high other.high a.1 in
      λ i. record { option = option i; low = low i; high = high i }

  module _ (i : ℕ) (row : Row) (within : i < length rows) (stands : slice_get rows i ≡ Some row) where
    at : row_at rows (i + 2) ≡ Some row
    at = row-at rows i row stands

    leads : leads_on options rows row ≡ true
    leads =
        let bounded = lt-ltb row.option options (few (i + 2) row at) in
        let differ : not (row.low == row.high) ≡ true = ap not (ne_eqb row.low row.high (reduced.apart (i + 2) row at)) in
        let low = later row.option row.low (omega (arith, below.low (i + 2) row at, within)) (λ part at_part. reduced.low_rises (i + 2) row part at at_part) in
        let high = later row.option row.high (omega (arith, below.high (i + 2) row at, within)) (λ part at_part. reduced.high_rises (i + 2) row part at at_part) in
        and_from (nat_lt row.option options && not (row.low == row.high) && is_later rows row.option row.low) (is_later rows row.option row.high)
        (and_from (nat_lt row.option options && not (row.low == row.high)) (is_later rows row.option row.low)
        (and_from (nat_lt row.option options) (not (row.low == row.high)) bounded differ) low)
        high

    fresh : list_any (row_eq row) (take i rows) ≡ false
    fresh =
        false_from_ne_true (list_any (row_eq row) (take i rows)) (λ found.
        let (earlier, (k, under, there), equal) = any-member (row_eq row) (take i rows) found in
        let before : k < i = omega (arith, under, length-take i rows) in
        let at_k : slice_get rows k ≡ Some earlier =
        stands_at rows earlier k (omega (arith, before, within)) (sym (get_or-take i rows k earlier before) ∙ there) in
        let same : earlier ≡ row = sym (same_row row earlier equal) in
        let one = reduced.distinct (k + 2) (i + 2) row (row-at rows k row (at_k ∙ ap (λ (r : Row). Some r) same)) at in
        omega (arith, one, before))

    is_reduced : is_reduced_row options rows i row ≡ true
    is_reduced =
        and_from (leads_on options rows row) (not (list_any (row_eq row) (take i rows))) leads (ap not fresh)

-- ---- modules

pub distinct_member : (ns : List ℕ) (n : ℕ) → Contains (distinct_in_order ns) n → Contains ns n
distinct_member [] n listed = listed
distinct_member (m ∷ ns) n listed = elim (Contains-cases n m (filter (λ k. not (k == m)) (distinct_in_order ns)) listed) [
  | inl same ↦ subst (λ (k : ℕ). Contains (m ∷ ns) k) same (Contains-here m ns)
  | inr later ↦
      Contains-cons n m ns (distinct_member ns n (Contains-from_filter (λ k. not (k == m)) (distinct_in_order ns) n later).0)
]

module _ (topology : TopologyView) (wires : List Wire) where
  module_row : (harnesses : List ℕ) (module' : Module)
      → Contains (flat_map (λ harness. map (module_of topology wires harness) (rows_in topology wires harness)) harnesses) module'
      → (w : Wire) × Contains wires w × (w.row ≡ module'.row)
  module_row [] module' (k, under, at) = absurd (omega (arith, under))
  module_row (harness ∷ harnesses) module' listed =
      elim (Contains-append_cases (map (module_of topology wires harness) (rows_in topology wires harness))
      (flat_map (λ harness. map (module_of topology wires harness) (rows_in topology wires harness)) harnesses) module' listed) [
        | inl here ↦
            let (row, in_rows, is) = Contains-from_map (module_of topology wires harness) (rows_in topology wires harness) module' here in
            let in_map =
            distinct_member (map (λ (w : Wire). w.row) (filter (λ (w : Wire). harness_of topology w == harness) wires)) row in_rows in
            let (w, kept, same) =
            Contains-from_map (λ (w : Wire). w.row) (filter (λ (w : Wire). harness_of topology w == harness) wires) row in_map in
            (w, (Contains-from_filter (λ (v : Wire). harness_of topology v == harness) wires w kept).0, same ∙ ap (λ (m : Module). m.row) is)
        | inr later ↦ module_row harnesses module' later
      ]

-- ---- the plan

module _ (draft : Draft) (plan : Plan) (is : IsPlanOf draft plan) where
  abbrev printed : IsPrinted (map (meaning_at plan.rows) (printed_numbers plan)) plan.rows (printed_numbers plan)
  printed = is.rows.printed

  pub rows_below : AreBelow plan.rows
  rows_below = walks-below plan.rows (printed_numbers plan) printed.ordered

  refers : (number : ℕ) → Contains (printed_numbers plan) number → IsReference plan.rows number
  refers number (k, under, there) = printed.in_range k number (stands_at (printed_numbers plan) number k under there)

  pub set_number : (set : SetLine) → Contains plan.sets set → Contains (printed_numbers plan) set.row
  set_number set listed =
      Contains-append_left (map (λ (s : SetLine). s.row) plan.sets) (map (λ (w : Wire). w.row) plan.wires) set.row
      (Contains-map (λ (s : SetLine). s.row) plan.sets set listed)

  pub wire_number : (w : Wire) → Contains plan.wires w → Contains (printed_numbers plan) w.row
  wire_number w listed =
      Contains-append_right (map (λ (s : SetLine). s.row) plan.sets) (map (λ (v : Wire). v.row) plan.wires) w.row
      (Contains-map (λ (v : Wire). v.row) plan.wires w listed)

  module_refers : (module' : Module) → Contains plan.modules module' → IsReference plan.rows module'.row
  module_refers module' listed =
      let (w, in_wires, same) =
      module_row (topology_of draft) plan.wires (harnesses_of (topology_of draft)) module'
      (subst (λ (l : List Module). Contains l module') is.modules listed) in
      subst (IsReference plan.rows) same (refers w.row (wire_number w in_wires))

  pub rows_are_sound : AreRowsSound draft plan
  rows_are_sound = record {
    rows = λ i row within stands.
        is_reduced (length draft.options) plan.rows rows_below printed.reduced is.rows.options i row within stands;
    sets = λ i set stands. refers set.row (set_number set (member_at plan.sets i set stands));
    wires = λ i w stands. refers w.row (wire_number w (member_at plan.wires i w stands));
    modules = λ i module' stands. module_refers module' (member_at plan.modules i module' stands);
  }
