-- The printed wires.
use Rattle.std.proofs.Common.{◌≡◌, ℕ, ◌↔◌, Bool, true, Ok, List, length, map, filter, get_or, drop, IsTrue, refl, sym, ap, ap₂, subst, ◌∙◌, Contains, inl, inr}
use Rattle.std.specs.List.{AllPairs, list_any}
use Rattle.std.specs.declared.cmp.Ordering.{Ordering}
use Rattle.std.specs.declared.cmp.Ordering.TheVariants.{Less, Equal, Greater}
use Rattle.std.specs.Ordering.{ordering_reverse}
use Rattle.std.proofs.lemmas.Bool.{cases_order}
use Rattle.std.proofs.lemmas.Cmp.{tied_itself}
use Rattle.std.proofs.lemmas.List.{get_or_default}
use Rattle.std.proofs.lemmas.List.Elements.{All-contains}
use Rattle.loom_base.proofs.Contained.{Contains-map, Contains-from_map}
use Rattle.loom_formula.specs.RowList.{value_of}
use Rattle.loom_project.specs.declared.draft.Draft.{Draft}
use Rattle.loom_project.specs.Project.{topology_of, HasSoundTopologies}
use Rattle.loom_project.specs.Sound.{draft_check}
use Rattle.loom_rows.specs.Condition.{Meaning}
use Rattle.loom_rows.specs.Table.{Table}
use Rattle.loom_rows.specs.Disjunction.{some_hold}
use Rattle.loom_types.specs.declared.plan.Plan.{Plan}
use Rattle.loom_types.specs.declared.plan.PinLine.{PinLine}
use Rattle.loom_types.specs.declared.plan.SetLine.{SetLine}
use Rattle.loom_types.specs.declared.wire.Wire.{Wire}
use Rattle.loom_types.specs.LayoutWires.{bare}
use Rattle.loom_types.specs.WireOrder.{wire_cmp, IsWireBefore}
use Rattle.loom_laid.specs.declared.laid_set.LaidSet.{LaidSet}
use Rattle.loom_laid.specs.declared.laid_set.Laid.{Laid}
use Rattle.loom_wires.specs.declared.cut_wire.CutWire.{CutWire}
use Rattle.loom_wires.specs.Wires.{bare_of, is_equal, is_same_wire, IsCut}
use Rattle.loom_plan.specs.Work.{set_live, wires_of_layout, pin_lines}
use Rattle.loom_plan.specs.PlanOf.{ArePlanWires, wires_of_line}
use Rattle.loom_plan.specs.Stages.{HasLaid, HasCut, Prints, set_line, wire_line, wired_of}
use Rattle.loom_plan.proofs.Zipped.{pairs-of_map, numbered-from, numbered-all, map-numbered_elements}
use Rattle.loom_plan.proofs.LiveUsers.{member_of_any, any_of_member, live_user, user_live}
use Rattle.loom_plan.proofs.PlanSets.{means, wires_mean, line_from, line_of_set}
use Rattle.loom_plan.proofs.WireSets.{users_alike}
use Rattle.loom_plan.proofs.WireTotals.{wire_cmp_total}

equal_from_test : (o : Ordering) → is_equal o ≡ true → o ≡ Equal
equal_from_test Less e = absurd (cc)
equal_from_test Equal e = refl
equal_from_test Greater e = absurd (cc)

less_is_not_equal : (o : Ordering) → o ≡ Less → o ≡ Equal → ⊥
less_is_not_equal o e f = let g : Less ≡ Equal = sym e ∙ f in cc

greater_is_not_equal : (o : Ordering) → o ≡ Greater → o ≡ Equal → ⊥
greater_is_not_equal o e f = let g : Greater ≡ Equal = sym e ∙ f in cc

same_wire_itself : (w : Wire) → is_same_wire w w ≡ true
same_wire_itself w = ap is_equal (tied_itself wire_cmp_total w)

-- in a list in order equal wires are one wire
one_wire : (ws : List Wire) → AllPairs IsWireBefore ws → (w v : Wire) → Contains ws w → Contains ws v → is_same_wire w v ≡ true → w ≡ v
one_wire ws order w v (i, in_i, at_i) (j, in_j, at_j) same =
    let level : wire_cmp w v ≡ Equal = equal_from_test (wire_cmp w v) same in
    let here : get_or ws i v ≡ w = get_or_default ws i v w in_i ∙ at_i in
    let there : get_or ws j w ≡ v = get_or_default ws j w v in_j ∙ at_j in
    elim (cases_order i j) [
      | inl e ↦ sym at_i ∙ ap (λ (k : ℕ). get_or ws k w) e ∙ there
      | inr (inl before) ↦
          let less : wire_cmp w v ≡ Less = ap₂ wire_cmp (sym here) (sym at_j) ∙ order i j v before in_j in
          absurd (less_is_not_equal (wire_cmp w v) less level)
      | inr (inr after) ↦
          let less : wire_cmp v w ≡ Less = ap₂ wire_cmp (sym there) (sym at_i) ∙ order j i w after in_i in
          let more : wire_cmp w v ≡ Greater = wire_cmp_total.antisymm w v ∙ ap ordering_reverse less in
          absurd (greater_is_not_equal (wire_cmp w v) more level)
    ]

module _ (draft : Draft) (sound : HasSoundTopologies draft) (passed : draft_check draft ≡ Ok tt) (t : Table) (options : ℕ) (laid : Laid) (has : HasLaid draft t laid)
    (lines : List PinLine) (wires : List CutWire) (cut : HasCut draft t laid.sets lines wires) (plan : Plan) (prints : Prints draft options laid lines wires plan) where
  abbrev printed_pins : List PinLine
  printed_pins = pin_lines cut.slots cut.pins

  -- a printed wire is one that was cut, with its number, and each that was cut is printed
  wire_from : (w : Wire) → Contains plan.wires w → (v : CutWire) × (n : ℕ) × Contains wires v
      × means draft t options laid has lines wires plan prints v.cond n × (wire_line v n ≡ w)
  wire_from w at =
      numbered-from (λ (v : CutWire) (n : ℕ). means draft t options laid has lines wires plan prints v.cond n) wire_line wires
      (drop (length laid.sets) prints.numbers) w (wires_mean draft t options laid has lines wires plan prints)
      (subst (λ (l : List Wire). Contains l w) prints.wires_are at)

  line_of_wire : (v : CutWire) → Contains wires v → (n : ℕ) × means draft t options laid has lines wires plan prints v.cond n × Contains plan.wires (wire_line v n)
  line_of_wire v at =
      let (n, mean, in_lines) =
      numbered-all (λ (x : CutWire) (k : ℕ). means draft t options laid has lines wires plan prints x.cond k) wire_line wires
      (drop (length laid.sets) prints.numbers) v (wires_mean draft t options laid has lines wires plan prints) at in
      (n, mean, subst (λ (l : List Wire). Contains l (wire_line v n)) (sym prints.wires_are) in_lines)

  -- a printed set has the wires of its layout
  wires_of_set_line : (set : LaidSet) (n : ℕ) → wires_of_line draft plan (set_line set n) ≡ wires_of_layout draft printed_pins set
  wires_of_set_line set n = ap (λ (ls : List PinLine). wires_of_layout draft ls set) (prints.pins_are ∙ cut.lines_are)

  order : AllPairs IsWireBefore plan.wires
  order =
      let bares : map bare plan.wires ≡ map bare_of wires =
      ap (map bare) prints.wires_are
      ∙ map-numbered_elements (λ (v : CutWire) (n : ℕ). means draft t options laid has lines wires plan prints v.cond n) wire_line bare bare_of (λ v n. refl) wires
      (drop (length laid.sets) prints.numbers) (wires_mean draft t options laid has lines wires plan prints) in
      pairs-of_map IsWireBefore bare plan.wires (subst (AllPairs IsWireBefore) (sym bares) cut.cuts.are_wires.order)

  -- a wire of the layouts stands in a layout where the test says so
  among_layout : (v : CutWire) → Contains wires v → (set : LaidSet) → Contains laid.sets set
      → list_any (is_same_wire (bare_of v)) (wires_of_layout draft printed_pins set) ≡ true → Contains (wires_of_layout draft printed_pins set) (bare_of v)
  among_layout v in_wires set in_laid test =
      let ws : List Wire = wires_of_layout draft printed_pins set in
      let (u, in_ws, same) = member_of_any (is_same_wire (bare_of v)) ws test in
      let e : bare_of v ≡ u =
      one_wire (map bare_of wires) cut.cuts.are_wires.order (bare_of v) u (Contains-map bare_of wires v in_wires)
      (cut.cuts.are_wires.all set u in_laid in_ws) same in
      subst (Contains ws) (sym e) in_ws

  abbrev IsLiveIn : (ℕ → Bool) → Wire → Type 0
  IsLiveIn choice w =
      (set : SetLine) × Contains plan.sets set × Contains (wires_of_line draft plan set) (bare w) × IsTrue (value_of plan.rows choice set.row)

  module _ (v : CutWire) (n : ℕ) (in_wires : Contains wires v) (mean : means draft t options laid has lines wires plan prints v.cond n) (choice : ℕ → Bool) where
    abbrev of_set : LaidSet → Bool
    of_set set = list_any (is_same_wire (bare_of v)) (wires_of_layout draft lines set)

    users : value_of plan.rows choice n ≡ some_hold (map (set_live draft) (filter of_set laid.sets)) choice
    users =
        let is : IsCut (topology_of draft) lines (map (wired_of draft) laid.sets) t v =
        All-contains (IsCut (topology_of draft) lines (map (wired_of draft) laid.sets) t) wires v cut.are_cut.conditions in_wires in
        mean choice ∙ is.condition choice
        ∙ ap (λ (fs : List Meaning). some_hold fs choice) (users_alike draft sound t laid has passed lines (bare_of v))

    of_set-printed : (set : LaidSet) → of_set set ≡ list_any (is_same_wire (bare_of v)) (wires_of_layout draft printed_pins set)
    of_set-printed set = ap (λ (ls : List PinLine). list_any (is_same_wire (bare_of v)) (wires_of_layout draft ls set)) cut.lines_are

    to : IsTrue (value_of plan.rows choice n) → IsLiveIn choice (wire_line v n)
    to holds =
        let (set, in_laid, passes, live) = live_user draft of_set laid.sets choice (sym users ∙ holds) in
        let (k, set_mean, printed) = line_of_set draft t options laid has lines wires plan prints set in_laid in
        let wire : Contains (wires_of_layout draft printed_pins set) (bare_of v) = among_layout v in_wires set in_laid (sym (of_set-printed set) ∙ passes) in (
          set_line set k,
          printed,
          subst (λ (l : List Wire). Contains l (bare_of v)) (sym (wires_of_set_line set k)) wire,
          set_mean choice ∙ has.live.condition set in_laid choice ∙ live,
        )

    from : IsLiveIn choice (wire_line v n) → IsTrue (value_of plan.rows choice n)
    from (line, at, has_wire, live) =
        let (set, k, in_laid, set_mean, e) = line_from draft t options laid has lines wires plan prints line at in
        let wire : Contains (wires_of_layout draft printed_pins set) (bare_of v) =
        subst (λ (l : List Wire). Contains l (bare_of v)) (wires_of_set_line set k)
        (subst (λ (s : SetLine). Contains (wires_of_line draft plan s) (bare_of v)) (sym e) has_wire) in
        let passes : of_set set ≡ true =
        of_set-printed set
        ∙ any_of_member (is_same_wire (bare_of v)) (wires_of_layout draft printed_pins set) (bare_of v) wire (same_wire_itself (bare_of v)) in
        let holds : value_of plan.rows choice k ≡ true = ap (λ (s : SetLine). value_of plan.rows choice s.row) e ∙ live in
        users
        ∙ user_live draft of_set laid.sets choice set in_laid passes (sym (has.live.condition set in_laid choice) ∙ (sym (set_mean choice) ∙ holds))

  pub plan_wires : ArePlanWires draft plan
  plan_wires = record {
    order = order;
    each = λ w at.
        let (v, n, in_wires, mean, e) = wire_from w at in
        let (set, in_laid, wire) = cut.cuts.are_wires.each (bare_of v) (Contains-map bare_of wires v in_wires) in
        let (k, set_mean, printed) = line_of_set draft t options laid has lines wires plan prints set in_laid in (
          set_line set k,
          printed,
          subst (λ (x : Wire). Contains (wires_of_line draft plan (set_line set k)) (bare x)) e
              (subst (λ (l : List Wire). Contains l (bare_of v)) (sym (wires_of_set_line set k)) wire),
        );
    all = λ line l at has_wire.
        let (set, k, in_laid, set_mean, e) = line_from draft t options laid has lines wires plan prints line at in
        let wire : Contains (wires_of_layout draft printed_pins set) l =
        subst (λ (ls : List Wire). Contains ls l) (wires_of_set_line set k)
        (subst (λ (s : SetLine). Contains (wires_of_line draft plan s) l) (sym e) has_wire) in
        let (v, in_wires, is) = Contains-from_map bare_of wires l (cut.cuts.are_wires.all set l in_laid wire) in
        let (n, mean, printed) = line_of_wire v in_wires in
        (wire_line v n, printed, is);
    condition = λ w at choice.
        let (v, n, in_wires, mean, e) = wire_from w at in
        subst (λ (x : Wire). IsTrue (value_of plan.rows choice x.row) ↔ IsLiveIn choice x) e
        (to v n in_wires mean choice, from v n in_wires mean choice);
  }
