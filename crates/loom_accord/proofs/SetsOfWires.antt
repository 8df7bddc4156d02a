-- Of which sets each wire of a plan is one, and what is worked out for it: the same as in the planning.
use Rattle.std.proofs.Common.{◌≡◌, ℕ, zero, suc, ◌+◌, ◌<◌, ◌≤◌, Bool, true, false, cond, List, [], ◌∷◌, ◌++◌, length, map, take, filter, Ok, refl, sym, ap, subst, ◌∙◌, arith, Contains, append-nil}
use Rattle.std.specs.List.{flat_map, list_any}
use Rattle.std.specs.declared.cmp.Ordering.TheVariants.{Equal}
use Rattle.std.specs.Ordering.{is_eq}
use Rattle.std.proofs.lemmas.Bool.{false≢true}
use Rattle.std.proofs.lemmas.Cmp.{tied_itself}
use Rattle.std.proofs.lemmas.List.{length-map, take_all}
use Rattle.std.proofs.lemmas.List.Concat.{flat_map-append}
use Rattle.std.proofs.lemmas.Option.{get_or_from_slice_get}
use Rattle.loom_base.proofs.Contained.{Contains-here, Contains-cons, Contains-map, Contains-from_map, Contains-filter, Contains-from_filter}
use Rattle.loom_base.proofs.EachLemmas.{take_next}
use Rattle.loom_formula.specs.RowList.{value_of}
use Rattle.loom_project.specs.declared.draft.Draft.{Draft}
use Rattle.loom_project.specs.Project.{HasSoundTopologies}
use Rattle.loom_project.specs.Sound.{draft_check}
use Rattle.loom_rows.specs.Condition.{Meaning}
use Rattle.loom_rows.specs.Disjunction.{some_hold, any_worked}
use Rattle.loom_rows.specs.RowLists.{meaning_at}
use Rattle.loom_rows.proofs.Conditions.{same}
use Rattle.loom_rows.proofs.Counted.{element}
use Rattle.loom_types.specs.declared.plan.Plan.{Plan}
use Rattle.loom_types.specs.declared.plan.SetLine.{SetLine}
use Rattle.loom_types.specs.declared.wire.Wire.{Wire}
use Rattle.loom_types.specs.LayoutWires.{bare}
use Rattle.loom_types.specs.WireOrder.{wire_cmp, IsWireBefore}
use Rattle.loom_laid.specs.declared.laid_set.LaidSet.{LaidSet}
use Rattle.loom_wires.specs.Wires.{is_equal, is_same_wire}
use Rattle.loom_wires.proofs.NoteLemmas.{is_same_wire-back, equal_from_is_eq}
use Rattle.loom_plan.specs.PlanOf.{IsPlanOf, wires_of_line}
use Rattle.loom_plan.specs.Work.{set_live, wires_of_layout, wires_worked}
use Rattle.loom_plan.proofs.LaidLive.{live-under, under-live}
use Rattle.loom_plan.proofs.LowerLaws.{LowerLaws}
use Rattle.loom_plan.proofs.Once.{any-member, member-any, same-member}
use Rattle.loom_plan.proofs.WireTotals.{wire_cmp_total}
use Rattle.loom_check.specs.Stages.{AreSetsOf, conditions_of, AreWorked, none, next}
use Rattle.loom_check.proofs.AgreeingLines.{member_at}
use Rattle.loom_accord.proofs.WiresOfPlan.{has-is, is-has}
use Rattle.loom_accord.proofs.TwinSets.{laid_of, twins}

-- whether the set's layout has the wire
abbrev pub has_wire : Draft → Plan → Wire → SetLine → Bool
has_wire draft plan w set = list_any (is_same_wire (bare w)) (wires_of_line draft plan set)

-- the printed sets that have it
abbrev pub sets_with : Draft → Plan → Wire → List SetLine
sets_with draft plan w = filter (has_wire draft plan w) plan.sets

-- what is worked out for a wire
abbrev pub work_for : Draft → Plan → Wire → List Meaning
work_for draft plan w = any_worked (conditions_of plan (sets_with draft plan w))

itself : (w : Wire) → is_same_wire w w ≡ true
itself w = is_same_wire-back w w ∙ ap is_eq (tied_itself wire_cmp_total w)

-- wires of which one is before the other don't test as the same
not_same : (w v : Wire) → IsWireBefore w v → is_same_wire w v ≡ true → ⊥
not_same w v less passes = false≢true (sym (ap is_equal less) ∙ passes)

-- tests that hold together are equal
pub both_tests : (a b : Bool) → (a ≡ true → b ≡ true) → (b ≡ true → a ≡ true) → a ≡ b
both_tests true true to back = refl
both_tests true false to back = sym (to refl)
both_tests false true to back = back refl
both_tests false false to back = refl

module _ (draft : Draft) (plan : Plan) (is : IsPlanOf draft plan) where
  -- a wire that tests as one of the set's is one
  test-has : (set : SetLine) → Contains plan.sets set → (w : Wire) → Contains plan.wires w → has_wire draft plan w set ≡ true
      → Contains (wires_of_line draft plan set) (bare w)
  test-has set printed w listed passes =
      let (l, at, same_l) = any-member (is_same_wire (bare w)) (wires_of_line draft plan set) passes in
      let (v, in_wires, e) = is.wires.all set l printed at in
      let forth : is_same_wire w v ≡ true = ap (is_same_wire (bare w)) e ∙ same_l in
      let level : wire_cmp v w ≡ Equal = equal_from_is_eq (wire_cmp v w) (sym (is_same_wire-back w v) ∙ forth) in
      let back : is_same_wire v w ≡ true = ap is_equal level in
      let one : v ≡ w =
      same-member IsWireBefore plan.wires is.wires.order v w in_wires listed (λ less. not_same v w less back) (λ less. not_same w v less forth) in
      subst (λ (u : Wire). Contains (wires_of_line draft plan set) u) (sym e ∙ ap bare one) at

  has-test : (set : SetLine) (w : Wire) → Contains (wires_of_line draft plan set) (bare w) → has_wire draft plan w set ≡ true
  has-test set w at = member-any (is_same_wire (bare w)) (wires_of_line draft plan set) (bare w) at (itself (bare w))

  -- ---- conditions

  same_live : (set : SetLine) → Contains plan.sets set → meaning_at plan.rows set.row ≡ set_live draft (laid_of set)
  same_live set printed =
      same (λ choice.
      both_tests (value_of plan.rows choice set.row) (set_live draft (laid_of set) choice)
      (λ holds. under-live draft set.net.0 set.mask choice ((is.sets.condition set printed choice).0 holds))
      (λ holds. (is.sets.condition set printed choice).1 (live-under draft set.net.0 set.mask choice (is.sets.each set printed) holds)))

  same_conditions : (w : Wire) (some : List SetLine) → ((set : SetLine) → Contains some set → Contains plan.sets set)
      → conditions_of plan (filter (has_wire draft plan w) some)
      ≡ map (set_live draft) (filter (λ set. list_any (is_same_wire (bare w)) (wires_of_layout draft plan.pins set)) (map laid_of some))
  same_conditions w [] among = refl
  same_conditions w (set ∷ some) among =
      let here = same_live set (among set (Contains-here set some)) in
      let rest = same_conditions w some (λ s at. among s (Contains-cons s set some at)) in
      let has : LaidSet → Bool = λ s. list_any (is_same_wire (bare w)) (wires_of_layout draft plan.pins s) in
      let P : Bool → Type 0 = λ b.
      conditions_of plan (cond b (set ∷ filter (has_wire draft plan w) some) (filter (has_wire draft plan w) some))
      ≡ map (set_live draft) (cond b (laid_of set ∷ filter has (map laid_of some)) (filter has (map laid_of some))) in
      elim (has_wire draft plan w set) as P [ true ↦ λ i. here i ∷ rest i | false ↦ rest ]

  pub same_work : (wires : List Wire) → flat_map (work_for draft plan) wires ≡ wires_worked draft plan.pins (twins plan) (map bare wires)
  same_work [] = refl
  same_work (w ∷ wires) =
      let conditions = same_conditions w plan.sets (λ set at. at) in
      let rest = same_work wires in
      λ i. any_worked (conditions i) ++ rest i

  -- a wire's condition is the disjunction of those of its sets
  pub wires_are_or : (w : Wire) → Contains plan.wires w → meaning_at plan.rows w.row ≡ some_hold (conditions_of plan (sets_with draft plan w))
  wires_are_or w listed =
      let conditions : List Meaning = conditions_of plan (sets_with draft plan w) in
      same (λ choice.
      both_tests (value_of plan.rows choice w.row) (some_hold conditions choice)
      (λ holds.
      let (set, printed, has, live) = (is.wires.condition w listed choice).0 holds in
      member-any (λ (f : Meaning). f choice) conditions (meaning_at plan.rows set.row)
      (Contains-map (λ (s : SetLine). meaning_at plan.rows s.row) (sets_with draft plan w) set
      (Contains-filter (has_wire draft plan w) plan.sets set printed (has-test set w has))) live)
      (λ holds.
      let (f, in_conditions, live) = any-member (λ (g : Meaning). g choice) conditions holds in
      let (set, kept, e) =
      Contains-from_map (λ (s : SetLine). meaning_at plan.rows s.row) (sets_with draft plan w) f in_conditions in
      let (printed, passes) = Contains-from_filter (has_wire draft plan w) plan.sets set kept in
      (is.wires.condition w listed choice).1 (set, printed, test-has set printed w listed passes, ap (λ (g : Meaning). g choice) e ∙ live)))

  pub some_conditions : (w : Wire) → Contains plan.wires w → 0 < length (conditions_of plan (sets_with draft plan w))
  some_conditions w listed =
      let (set, printed, has) = is.wires.each w listed in
      let (k, under, at) = Contains-filter (has_wire draft plan w) plan.sets set printed (has-test set w has) in
      omega (arith, under, length-map (sets_with draft plan w) (λ (s : SetLine). meaning_at plan.rows s.row))

  -- ---- the work

  module _ (passed : draft_check draft ≡ Ok tt) (sound : HasSoundTopologies draft) (laws : LowerLaws) where
    pub are_sets_of : (w : Wire) → Contains plan.wires w → AreSetsOf plan w (sets_with draft plan w)
    are_sets_of w listed = record {
      has_it = has_wire draft plan w;
      have = λ set printed. (
        λ passes. has-is draft plan passed sound is laws set printed w listed (test-has set printed w listed passes),
        λ of. has-test set w (is-has draft plan passed sound is laws set printed w listed of),
      );
      picked = refl;
    }

    abbrev made : ℕ → List Meaning
    made n = flat_map (work_for draft plan) (take n plan.wires)

    are_worked : (n : ℕ) → n ≤ length plan.wires → AreWorked plan n (made n)
    are_worked zero within = none
    are_worked (suc n) within =
        let (w, stands) = element plan.wires n (omega (arith, within)) in
        let longer : take (n + 1) plan.wires ≡ take n plan.wires ++ w ∷ [] =
        take_next plan.wires n w (sym (get_or_from_slice_get plan.wires n w w stands)) (omega (arith, within)) in
        let more : made n ++ work_for draft plan w ≡ made (n + 1) =
        ap (λ (l : List Meaning). made n ++ l) (sym (append-nil (work_for draft plan w)))
        ∙ (sym (flat_map-append (work_for draft plan) (take n plan.wires) (w ∷ [])) ∙ ap (flat_map (work_for draft plan)) (sym longer)) in
        let step : AreWorked plan (n + 1) (made n ++ work_for draft plan w) =
        next n (made n) w (sets_with draft plan w) (are_worked n (omega (arith, within))) stands (are_sets_of w (member_at plan.wires n w stands)) in
        let one_more : n + 1 ≡ suc n = omega arith in
        subst (λ (k : ℕ). AreWorked plan k (made k)) one_more (subst (λ (l : List Meaning). AreWorked plan (n + 1) l) more step)

    -- the disjunctions of all wires are those of the planning
    pub wires_work : AreWorked plan (length plan.wires) (wires_worked draft plan.pins (twins plan) (map bare plan.wires))
    wires_work =
        let all = take_all (length plan.wires) plan.wires (omega arith) in
        subst (λ (l : List Meaning). AreWorked plan (length plan.wires) l)
        (ap (flat_map (work_for draft plan)) all ∙ same_work plan.wires)
        (are_worked (length plan.wires) (omega arith))
