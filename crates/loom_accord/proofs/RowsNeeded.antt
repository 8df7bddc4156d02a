-- What is worked out for the check of a plan needs no row that the planning hasn't.
use Rattle.std.proofs.Common.{◌≡◌, ℕ, ◌+◌, ◌-◌, ◌<◌, ◌≤◌, ◌^◌, ◌||◌, Bool, List, [], ◌∷◌, ◌++◌, length, map, take, Ok, sym, ap, subst, arith, Contains, inl, inr}
use Rattle.std.specs.Prelude.{count_ones, slice_index_or}
use Rattle.std.specs.List.{flat_map, range_with_len}
use Rattle.std.proofs.lemmas.Bool.{cases_eq}
use Rattle.std.proofs.lemmas.List.{take_all}
use Rattle.std.proofs.lemmas.Nat.{ones_le_self}
use Rattle.std.proofs.lemmas.List.FromFn.{length-range_with_len, get_or-range_with_len}
use Rattle.std.proofs.lemmas.List.Elements.{Contains-append_left, Contains-append_right, Contains-append_cases}
use Rattle.loom_base.proofs.Contained.{Contains-here, Contains-cons, Contains-cases, Contains-map, Contains-from_map, Contains-range_with_len}
use Rattle.loom_formula.specs.RowList.{value_of}
use Rattle.loom_project.specs.declared.draft.Draft.{Draft}
use Rattle.loom_project.specs.declared.draft.NetDraft.{NetDraft}
use Rattle.loom_project.specs.Project.{no_net, net_at, HasSoundTopologies}
use Rattle.loom_project.specs.Sound.{draft_check}
use Rattle.loom_rows.specs.Condition.{Meaning, either, negation}
use Rattle.loom_rows.specs.Disjunction.{some_hold, disjunctions_from, any_worked}
use Rattle.loom_rows.specs.Formulas.{never}
use Rattle.loom_rows.specs.Leftovers.{IsLeftover, IsLeftoverOf, IsRowOf}
use Rattle.loom_rows.specs.RowLists.{meaning_at, meanings_of}
use Rattle.loom_rows.proofs.Conditions.{same}
use Rattle.loom_rows.proofs.Members.{or_assoc, or_unit}
use Rattle.loom_rows.proofs.Outcomes.{leftover-trans}
use Rattle.loom_rows.proofs.Worked.{leftover-left, leftover-right, leftover-either, more-weaken}
use Rattle.loom_types.specs.declared.plan.Plan.{Plan}
use Rattle.loom_types.specs.declared.plan.SetLine.{SetLine}
use Rattle.loom_types.specs.declared.wire.Wire.{Wire}
use Rattle.loom_types.specs.LayoutWires.{bare}
use Rattle.loom_active.specs.Needs.{is_valid_for}
use Rattle.loom_active.specs.Valid.{NeedTooManyRows}
use Rattle.loom_active.specs.LiveWork.{formulas_of, signed, patterns, signs_worked, needs_worked, sets_worked, live_worked}
use Rattle.loom_active.proofs.Alike.{leftover-some, some-leftover}
use Rattle.loom_active.proofs.Masks.{signed-below}
use Rattle.loom_active.proofs.Pairs.{at_index}
use Rattle.loom_active.proofs.SetLemmas.{pattern-live, live-pattern, live-two, live-in_range}
use Rattle.loom_plan.specs.FirstStop.{HasPlan, worked_for_pins, worked_for_wires}
use Rattle.loom_plan.specs.PlanOf.{IsPlanOf, printed_numbers}
use Rattle.loom_plan.specs.Work.{pin_lines, usages_worked, wires_worked}
use Rattle.loom_plan.proofs.LowerLaws.{LowerLaws}
use Rattle.loom_plan.proofs.SameLines.{StageLaws}
use Rattle.loom_check.specs.Stages.{conditions_of, rows_worked, WorksWires}
use Rattle.loom_accord.proofs.RowWalks.{walks-left}
use Rattle.loom_accord.proofs.RowsOfPlan.{rows_below}
use Rattle.loom_accord.proofs.SetsOfWires.{sets_with, work_for, both_tests, wires_are_or, some_conditions, same_work, wires_work}
use Rattle.loom_accord.proofs.TwinSets.{twins}
use Rattle.loom_accord.proofs.TwinWires.{same_wires_work}

Contains-flat_map : {X A : Type 0} (f : X → List A) (xs : List X) (x : X) (a : A) → Contains xs x → Contains (f x) a → Contains (flat_map f xs) a
Contains-flat_map f [] x a (k, under, at) in_f = absurd (omega (arith, under))
Contains-flat_map f (y ∷ xs) x a listed in_f = elim (Contains-cases x y xs listed) [
  | inl same_x ↦
      Contains-append_left (f y) (flat_map f xs) a (subst (λ z. Contains (f z) a) (sym same_x) in_f)
  | inr later ↦ Contains-append_right (f y) (flat_map f xs) a (Contains-flat_map f xs x a later in_f)
]

-- ---- the last of a list's disjunctions is that of them all

last_from : (so_far f : Meaning) (fs : List Meaning) → Contains (disjunctions_from so_far (f ∷ fs)) (either so_far (some_hold (f ∷ fs)))
last_from so_far f [] =
    let e : either so_far f ≡ either so_far (some_hold (f ∷ [])) = same (λ c. ap (λ (b : Bool). so_far c || b) (sym (or_unit (f c)))) in
    subst (λ (g : Meaning). Contains (either so_far f ∷ []) g) e (Contains-here (either so_far f) [])
last_from so_far f (g ∷ fs) =
    let next : Meaning = either so_far f in
    let e : either next (some_hold (g ∷ fs)) ≡ either so_far (some_hold (f ∷ g ∷ fs)) =
    same (λ c. sym (or_assoc (so_far c) (f c) (some_hold (g ∷ fs) c))) in
    subst (λ (h : Meaning). Contains (disjunctions_from so_far (f ∷ g ∷ fs)) h) e
    (Contains-cons (either next (some_hold (g ∷ fs))) next (disjunctions_from next (g ∷ fs)) (last_from next g fs))

last_worked : (fs : List Meaning) → 0 < length fs → Contains (any_worked fs) (some_hold fs)
last_worked [] some = absurd (omega (arith, some))
last_worked (f ∷ fs) some = last_from never f fs

-- ---- a live set's condition is worked out in the search

pattern_worked : (valid : Meaning) (fs : List Meaning) (mask : ℕ) → 0 < length fs → mask < 2 ^ length fs
    → Contains (signs_worked valid fs) (signed valid fs mask)
pattern_worked valid fs mask some below =
    let k : ℕ = length fs - 1 in
    let whole : take (k + 1) fs ≡ fs = take_all (k + 1) fs (omega (arith, some)) in
    let in_patterns : Contains (patterns valid fs) (signed valid fs mask) =
    Contains-map (signed valid fs) (range_with_len 0 (2 ^ length fs)) mask
    (Contains-range_with_len 0 (2 ^ length fs) mask (omega arith) (omega (arith, below))) in
    let step : ℕ → List Meaning = λ n. negation (slice_index_or fs n never) ∷ patterns valid (take (n + 1) fs) in
    let here : Contains (step k) (signed valid fs mask) =
    Contains-cons (signed valid fs mask) (negation (slice_index_or fs k never)) (patterns valid (take (k + 1) fs))
    (subst (λ (l : List Meaning). Contains (patterns valid l) (signed valid fs mask)) (sym whole) in_patterns) in
    Contains-flat_map step (range_with_len 0 (length fs)) k (signed valid fs mask)
    (Contains-range_with_len 0 (length fs) k (omega arith) (omega (arith, some))) here

module _ (draft : Draft) (plan : Plan) (is : IsPlanOf draft plan) where
  set_worked : (set : SetLine) → Contains plan.sets set → Contains (live_worked draft) (meaning_at plan.rows set.row)
  set_worked set printed =
      let net : ℕ = set.net.0 in
      let valid : Meaning = is_valid_for draft in
      let fs : List Meaning = formulas_of draft.options (net_at draft net) in
      let (some_choice, live) = is.sets.each set printed in
      let two : 2 ≤ count_ones set.mask = live-two draft net set.mask some_choice live in
      let below : set.mask < 2 ^ length fs =
      signed-below valid fs valid some_choice set.mask (live-pattern draft net set.mask some_choice live) in
      let some : 0 < length fs = elim (cases_eq (length fs) 0) [
        | inl e ↦
            let one : 2 ^ length fs ≡ 1 = ap (λ (n : ℕ). 2 ^ n) e in
            let zero_mask : set.mask ≡ 0 = omega (arith, below, one) in
            absurd (omega (arith, two, ones_le_self set.mask, zero_mask))
        | inr other ↦ omega (arith, other)
      ] in
      let is_signed : signed valid fs set.mask ≡ meaning_at plan.rows set.row = same (λ choice.
      both_tests (signed valid fs set.mask choice) (value_of plan.rows choice set.row)
      (λ holds. (is.sets.condition set printed choice).1 (pattern-live draft net set.mask choice two holds))
      (λ holds. live-pattern draft net set.mask choice ((is.sets.condition set printed choice).0 holds))) in
      let in_net : Contains (signs_worked valid fs) (signed valid fs set.mask) = pattern_worked valid fs set.mask some below in
      let within = live-in_range draft net set.mask (some_choice, live) in
      let in_sets : Contains (sets_worked draft.options valid draft.nets) (signed valid fs set.mask) =
      Contains-flat_map (λ (n : NetDraft). signs_worked valid (formulas_of draft.options n)) draft.nets (net_at draft net) (signed valid fs set.mask)
      (at_index draft.nets net no_net within) in_net in
      subst (λ (f : Meaning). Contains (live_worked draft) f) is_signed
      (Contains-append_right (needs_worked draft) (sets_worked draft.options valid draft.nets) (signed valid fs set.mask) in_sets)

  wire_worked : (w : Wire) → Contains plan.wires w → Contains (wires_worked draft plan.pins (twins plan) (map bare plan.wires)) (meaning_at plan.rows w.row)
  wire_worked w listed =
      let conditions : List Meaning = conditions_of plan (sets_with draft plan w) in
      let last : Contains (work_for draft plan w) (some_hold conditions) = last_worked conditions (some_conditions draft plan is w listed) in
      let own : Contains (work_for draft plan w) (meaning_at plan.rows w.row) =
      subst (λ (f : Meaning). Contains (work_for draft plan w) f) (sym (wires_are_or draft plan is w listed)) last in
      subst (λ (l : List Meaning). Contains l (meaning_at plan.rows w.row)) (same_work draft plan is plan.wires)
      (Contains-flat_map (work_for draft plan) plan.wires w (meaning_at plan.rows w.row) listed own)

  module _ (has : HasPlan draft) (stages : StageLaws) where
    abbrev planned : List Meaning
    planned = worked_for_wires draft has.laid has.slots has.pins has.wires

    abbrev for_pins : List Meaning
    for_pins = worked_for_pins draft has.laid has.slots

    abbrev of_wires : List Meaning
    of_wires = wires_worked draft (pin_lines has.slots has.pins) has.laid has.wires

    abbrev checked : List Meaning
    checked = wires_worked draft plan.pins (twins plan) (map bare plan.wires)

    number_worked : (number : ℕ) → Contains (printed_numbers plan) number → Contains planned (meaning_at plan.rows number)
    number_worked number listed =
        elim (Contains-append_cases (map (λ (s : SetLine). s.row) plan.sets) (map (λ (w : Wire). w.row) plan.wires) number listed) [
          | inl in_sets ↦
              let (set, printed, e) = Contains-from_map (λ (s : SetLine). s.row) plan.sets number in_sets in
              subst (λ (n : ℕ). Contains planned (meaning_at plan.rows n)) e
              (Contains-append_left for_pins of_wires (meaning_at plan.rows set.row)
              (Contains-append_left (live_worked draft) (usages_worked draft has.laid has.slots) (meaning_at plan.rows set.row)
              (set_worked set printed)))
          | inr in_wires ↦
              let (w, listed_w, e) = Contains-from_map (λ (v : Wire). v.row) plan.wires number in_wires in
              subst (λ (n : ℕ). Contains planned (meaning_at plan.rows n)) e
              (Contains-append_right for_pins of_wires (meaning_at plan.rows w.row)
              (subst (λ (l : List Meaning). Contains l (meaning_at plan.rows w.row)) (same_wires_work draft plan is has stages)
              (wire_worked w listed_w)))
        ]

    -- what is left over of a printed row is left over of what the planning works out
    row_needed : (g : Meaning) → IsLeftoverOf (meanings_of plan.rows) g → IsLeftoverOf planned g
    row_needed g left =
        let n : ℕ = length plan.rows in
        let (f, in_rows, of_f) = leftover-some (meanings_of plan.rows) g left in
        let (i, in_range, e) = Contains-from_map (λ (k : ℕ). meaning_at plan.rows (k + 2)) (range_with_len 0 n) f in_rows in
        let (k, under, at) = in_range in
        let below : k < n = omega (arith, under, length-range_with_len 0 n) in
        let within : i < n = omega (arith, below, at, get_or-range_with_len 0 n k i below) in
        let (number, listed, of_number) =
        walks-left plan.rows (rows_below draft plan is) is.rows.printed.reduced (printed_numbers plan) 0 n is.rows.printed.ordered i (omega arith)
        within in
        let of_row : IsLeftover (meaning_at plan.rows (i + 2)) g = subst (λ (h : Meaning). IsLeftover h g) (sym e) of_f in
        some-leftover planned (meaning_at plan.rows number) g (number_worked number listed)
        (leftover-trans (meaning_at plan.rows number) (meaning_at plan.rows (i + 2)) g of_number of_row)

    rows_needed : (g : Meaning) → IsLeftoverOf (rows_worked draft plan) g → IsLeftoverOf planned g
    rows_needed g left = elim (leftover-either (live_worked draft) (meanings_of plan.rows) g left) [
      | inl live ↦
          leftover-left for_pins of_wires g (leftover-left (live_worked draft) (usages_worked draft has.laid has.slots) g live)
      | inr row ↦ row_needed g row
    ]

    all_needed : (g : Meaning) → IsLeftoverOf (rows_worked draft plan ++ checked) g → IsLeftoverOf planned g
    all_needed g left = elim (leftover-either (rows_worked draft plan) checked g left) [
      | inl rows ↦ rows_needed g rows
      | inr wires ↦
          leftover-right for_pins of_wires g (subst (λ (l : List Meaning). IsLeftoverOf l g) (same_wires_work draft plan is has stages) wires)
    ]

    pub few_rows : NeedTooManyRows (rows_worked draft plan) → ⊥
    few_rows many =
        has.few_rows (more-weaken 262144 (IsRowOf (rows_worked draft plan)) (IsRowOf planned) (λ g row. (row.0, rows_needed g row.1)) many)

    pub works_wires : draft_check draft ≡ Ok tt → HasSoundTopologies draft → LowerLaws → WorksWires draft plan (length plan.wires)
    works_wires passed sound laws = record {
      worked = checked;
      are_worked = wires_work draft plan is passed sound laws;
      few_rows = λ many.
          has.few_rows
          (more-weaken 262144 (IsRowOf (rows_worked draft plan ++ checked)) (IsRowOf planned) (λ g row. (row.0, all_needed g row.1)) many);
    }
