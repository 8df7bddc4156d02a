-- Wires end exactly at the pins of the slots that are used; these pins are free, and different for different slots.
use Rattle.std.proofs.Common.{◌≡◌, ℕ, ◌<◌, ◌≤◌, ◌==◌, Bool, List, map, IsTrue, refl, sym, ap, subst, ◌∙◌, arith, Contains, filter, inl, inr}
use Rattle.std.proofs.lemmas.Bool.{cases_order, eq-eqb, eqb-true}
use Rattle.std.proofs.lemmas.List.Sorted.{IsPermutation-sym, Contains-permutation}
use Rattle.loom_base.proofs.Contained.{Contains-map, Contains-from_map, Contains-filter, Contains-from_filter}
use Rattle.loom_formula.specs.RowList.{value_of}
use Rattle.loom_topology.specs.Topology.{TopologyView, segment_at, is_coupler}
use Rattle.loom_project.specs.declared.draft.Draft.{Draft}
use Rattle.loom_project.specs.Project.{topology_of, cavities_of}
use Rattle.loom_types.specs.declared.plan.Plan.{Plan}
use Rattle.loom_types.specs.declared.plan.PinLine.{PinLine}
use Rattle.loom_types.specs.declared.plan.SetLine.{SetLine}
use Rattle.loom_types.specs.declared.wire.Wire.{Wire}
use Rattle.loom_types.specs.LayoutTree.{IsLaidOut}
use Rattle.loom_types.specs.LayoutWires.{bare, pin_side}
use Rattle.loom_types.specs.PinLines.{pin_in}
use Rattle.loom_types.specs.Slots.{Slot, slot_of, steps_over, has_slot, EndsAtPin}
use Rattle.loom_types.specs.WireTree.{ends_of, ends_at}
use Rattle.loom_active.specs.LiveSets.{IsLiveUnder}
use Rattle.loom_active.specs.RightPlan.{live_wires, IsFreePin, PrintsPins, EndsLiveAtPin, UsesPin, KeepsPinsApart}
use Rattle.loom_active.specs.SetWires.{IsWireOf, IsOfLiveSet, SetFormsTree}
use Rattle.loom_active.specs.Usages.{IsUsed}
use Rattle.loom_active.specs.Needs.{is_valid_for}
use Rattle.loom_active.proofs.OpenTrees.{laid_out-in_project}
use Rattle.loom_audit.specs.LayoutRule.{IsLaidAtCost, AreOfLayout, wires_of_layout}
use Rattle.loom_audit.specs.PinRule.{EndsAtFreePins}
use Rattle.loom_check.specs.Verdict.{PassesAll}
use Rattle.loom_check.proofs.AgreeingLines.{each-member}
use Rattle.loom_check.proofs.LowerLaws.{LowerLaws}
use Rattle.loom_check.proofs.PinLinesOfSlots.{HasStep, has_step, step_has, pin_is, line_of_slot, slot_of_line, one_line}
use Rattle.loom_check.proofs.SidesOfPins.{two_ends_at}
use Rattle.loom_check.proofs.WiresOfLiveSets.{prints, live_of_live_sets, sets_form_trees, pins_keep_to_nets, one_live_set, picks-alike}

module _ (draft : Draft) (plan : Plan) (passes : PassesAll draft plan) (laws : LowerLaws) where
  abbrev whole : TopologyView
  whole = topology_of draft

  abbrev IsCoupler : ℕ → Type 0
  IsCoupler coupler = IsTrue (is_coupler (segment_at whole coupler).kind)

  -- some wire of the set ends at the pin
  record HasWireAt (set : SetLine) (coupler pin : ℕ) : Type 0 where
    wire : Wire
    listed : Contains plan.wires wire
    is_its : IsWireOf plan set wire
    ends : EndsAtPin wire coupler pin

  -- ---- the wires of a set's layout

  module _ (set : SetLine) (printed : Contains plan.sets set) where
    abbrev pins : ℕ → ℕ → ℕ
    pins = pin_in plan.pins set.net.0

    abbrev terminals : List ℕ
    terminals = cavities_of draft set.net.0

    laid : IsLaidOut whole terminals set.mask set.layout
    laid =
        laid_out-in_project draft set.net.0 terminals set.mask set.layout
        (each-member (IsLaidAtCost draft) plan.sets passes.layouts.laid set printed).laid

    its : AreOfLayout draft plan set
    its = each-member (AreOfLayout draft plan) plan.sets passes.layouts.wires set printed

    -- where a step goes through a pin, a wire of the set ends at it
    step_wire : (coupler ordinal pin : ℕ) → IsCoupler coupler → 1 ≤ ordinal → ordinal ≤ steps_over set.layout coupler
        → pins coupler ordinal ≡ pin → HasWireAt set coupler pin
    step_wire coupler ordinal pin kind from to e =
        let (l, has, ends) =
        (laws.ends whole set.net.0 pins terminals set.mask set.layout laid coupler pin).1 (kind, (ordinal, from, to, e)) in
        let at = Contains-permutation (wires_of_layout draft plan set) (map bare its.wires) l its.same has in
        let (w, in_its, rowless) = Contains-from_map bare its.wires l at in
        let kept = subst (λ (ws : List Wire). Contains ws w) its.are_its.picked in_its in
        let own = Contains-from_filter its.are_its.is_its plan.wires w kept in
        record {
          wire = w;
          listed = own.0;
          is_its = (its.are_its.its w own.0).0 own.1;
          ends = subst (λ (x : Wire). EndsAtPin x coupler pin) (sym rowless) ends;
        }

    -- and where a wire of the set ends at a pin, a step goes through it
    wire_step : (w : Wire) → Contains plan.wires w → IsWireOf plan set w → (coupler pin : ℕ) → EndsAtPin w coupler pin
        → IsCoupler coupler × ((ordinal : ℕ) × (1 ≤ ordinal) × (ordinal ≤ steps_over set.layout coupler) × (pins coupler ordinal ≡ pin))
    wire_step w listed is coupler pin ends =
        let kept = Contains-filter its.are_its.is_its plan.wires w listed ((its.are_its.its w listed).1 is) in
        let in_its : Contains its.wires w = subst (λ (ws : List Wire). Contains ws w) (sym its.are_its.picked) kept in
        let at = Contains-permutation (map bare its.wires) (wires_of_layout draft plan set) (bare w)
        (IsPermutation-sym (wires_of_layout draft plan set) (map bare its.wires) its.same) (Contains-map bare its.wires w in_its) in
        (laws.ends whole set.net.0 pins terminals set.mask set.layout laid coupler pin).0 (bare w, at, ends)

    -- no two steps go through one pin
    no_second_step : (coupler pin one other : ℕ) → IsCoupler coupler → 1 ≤ one → one < other → other ≤ steps_over set.layout coupler
        → pins coupler one ≡ pin → pins coupler other ≡ pin → ⊥
    no_second_step coupler pin one other kind from less to at_one at_other =
        let tree : SetFormsTree draft plan set = sets_form_trees draft plan passes set printed in
        let picked : its.wires ≡ filter tree.is_its plan.wires =
        its.are_its.picked ∙ picks-alike plan set its.are_its.is_its tree.is_its its.are_its.its tree.its in
        let two = two_ends_at whole set.net.0 pins terminals set.mask set.layout its.wires laid its.same coupler pin one other kind from less to
        at_one at_other in
        let moved = ap (λ (ws : List Wire). ends_at (map ends_of ws) (pin_side coupler pin 1)) picked in
        let single = (tree.tree.pin coupler pin 1 (omega (arith, two, moved))).0 in
        omega (arith, two, moved, single)

  -- a wire of a live set is live
  live_at : (choice : ℕ → Bool) (set : SetLine) → Contains plan.sets set → IsLiveUnder draft choice set.net.0 set.mask
      → (w : Wire) → Contains plan.wires w → IsWireOf plan set w → IsTrue (value_of plan.rows choice w.row)
  live_at choice set printed live w listed is =
      (live_of_live_sets draft plan passes choice live.valid w listed).1
      (record { set = set; printed = printed; live = ((prints draft plan passes).condition set printed choice).1 live; has = is })

  -- ---- the printed lines

  line_pin : (line : PinLine) → Contains plan.pins line → (set : SetLine) → set.net.0 ≡ line.net.0
      → pin_in plan.pins set.net.0 line.coupler.0 line.ordinal ≡ line.pin
  line_pin line at set net =
      ap (λ (n : ℕ). pin_in plan.pins n line.coupler.0 line.ordinal) net ∙ pin_is draft plan passes.layouts.pins line at

  line_kind : (line : PinLine) → Contains plan.pins line → IsCoupler line.coupler.0
  line_kind line at = (slot_of_line draft plan passes.layouts.pins line at).0

  -- a wire of each set that has the line's slot ends at the line's pin
  line_wire : (line : PinLine) → Contains plan.pins line → (set : SetLine) → Contains plan.sets set → IsTrue (has_slot set (slot_of line))
      → HasWireAt set line.coupler.0 line.pin
  line_wire line at set printed has =
      let step : HasStep set (slot_of line) = has_step set (slot_of line) has in
      step_wire set printed line.coupler.0 line.ordinal line.pin (line_kind line at) step.from step.to (line_pin line at set step.of_net)

  free : (line : PinLine) → Contains plan.pins line → IsFreePin draft line.coupler.0 line.pin
  free line at =
      let (kind, (set, printed, has)) = slot_of_line draft plan passes.layouts.pins line at in
      let found : HasWireAt set line.coupler.0 line.pin = line_wire line at set printed has in
      each-member (EndsAtFreePins draft) plan.wires passes.pins.free found.wire found.listed line.coupler.0 line.pin found.ends

  -- two lines of slots of one set that give one pin are of one slot
  one_slot : (set : SetLine) → Contains plan.sets set → (one other : PinLine) → Contains plan.pins one → Contains plan.pins other
      → HasStep set (slot_of one) → HasStep set (slot_of other) → one.coupler.0 ≡ other.coupler.0 → one.pin ≡ other.pin
      → slot_of one ≡ slot_of other
  one_slot set printed one other in_one in_other step_one step_other coupler pin =
      let net : one.net.0 ≡ other.net.0 = sym step_one.of_net ∙ step_other.of_net in
      let pin_one = line_pin one in_one set step_one.of_net in
      let pin_other : pin_in plan.pins set.net.0 one.coupler.0 other.ordinal ≡ one.pin =
      ap (λ (c : ℕ). pin_in plan.pins set.net.0 c other.ordinal) coupler ∙ (line_pin other in_other set step_other.of_net ∙ sym pin) in
      let within : other.ordinal ≤ steps_over set.layout one.coupler.0 =
      subst (λ (c : ℕ). other.ordinal ≤ steps_over set.layout c) (sym coupler) step_other.to in
      elim (cases_order one.ordinal other.ordinal) [
        | inl same ↦ λ i. record { net = net i; coupler = coupler i; ordinal = same i }
        | inr (inl less) ↦
            absurd (no_second_step set printed one.coupler.0 one.pin one.ordinal other.ordinal (line_kind one in_one) step_one.from less within
            pin_one pin_other)
        | inr (inr more) ↦
            absurd (no_second_step set printed one.coupler.0 one.pin other.ordinal one.ordinal (line_kind one in_one) step_other.from more
            step_one.to pin_other pin_one)
      ]

  -- slots of one coupler that are used together have different pins
  apart : (choice : ℕ → Bool) (one other : PinLine) → Contains plan.pins one → Contains plan.pins other
      → IsUsed draft plan choice (slot_of one) → IsUsed draft plan choice (slot_of other)
      → one.coupler.0 ≡ other.coupler.0 → one.pin ≡ other.pin → slot_of one ≡ slot_of other
  apart choice one other in_one in_other uses_one uses_other coupler pin =
      let a = line_wire one in_one uses_one.set uses_one.printed uses_one.has in
      let b = line_wire other in_other uses_other.set uses_other.printed uses_other.has in
      let ends_b : EndsAtPin b.wire one.coupler.0 one.pin =
      subst (λ (c : ℕ). EndsAtPin b.wire c one.pin) (sym coupler)
      (subst (λ (p : ℕ). EndsAtPin b.wire other.coupler.0 p) (sym pin) b.ends) in
      let live_a = live_at choice uses_one.set uses_one.printed uses_one.live a.wire a.listed a.is_its in
      let live_b = live_at choice uses_other.set uses_other.printed uses_other.live b.wire b.listed b.is_its in
      let wires : a.wire.net.0 ≡ b.wire.net.0 =
      pins_keep_to_nets draft plan passes a.wire b.wire a.listed b.listed (choice, live_a, live_b) one.coupler.0 one.pin a.ends ends_b in
      let nets : uses_one.set.net.0 ≡ uses_other.set.net.0 = sym a.is_its.0 ∙ (wires ∙ b.is_its.0) in
      let same : uses_one.set ≡ uses_other.set =
      one_live_set draft plan passes choice uses_one.set uses_other.set uses_one.printed uses_other.printed uses_one.live uses_other.live nets in
      one_slot uses_one.set uses_one.printed one other in_one in_other (has_step uses_one.set (slot_of one) uses_one.has)
      (subst (λ (s : SetLine). HasStep s (slot_of other)) (sym same) (has_step uses_other.set (slot_of other) uses_other.has)) coupler pin

  prints_pins : PrintsPins draft plan
  prints_pins = record {
    each = one_line draft plan passes.layouts.pins;
    only = slot_of_line draft plan passes.layouts.pins;
    free = free;
    apart = λ choice valid. apart choice;
  }

  -- ---- where the live wires end

  module _ (choice : ℕ → Bool) (valid : IsTrue (is_valid_for draft choice)) (net coupler pin : ℕ) where
    -- a step of a live set through the pin
    module _ (set : SetLine) (printed : Contains plan.sets set) (live : IsLiveUnder draft choice set.net.0 set.mask) (of_net : set.net.0 ≡ net)
        (kind : IsCoupler coupler) (ordinal : ℕ) (from : 1 ≤ ordinal) (to : ordinal ≤ steps_over set.layout coupler)
        (through : pin_in plan.pins set.net.0 coupler ordinal ≡ pin) where
      abbrev slot : Slot
      slot = record { net = set.net.0; coupler = coupler; ordinal = ordinal }

      has : IsTrue (has_slot set slot)
      has = step_has set slot (record { of_net = refl; from = from; to = to })

      line_uses : (line : PinLine) → Contains plan.pins line → slot_of line ≡ slot → UsesPin draft plan choice net coupler pin
      line_uses line listed is = record {
        line = line;
        printed = listed;
        of_net = ap (λ (s : Slot). s.net) is ∙ of_net;
        of_coupler = ap (λ (s : Slot). s.coupler) is;
        has_pin =
            sym (pin_is draft plan passes.layouts.pins line listed)
            ∙ (ap (λ (s : Slot). pin_in plan.pins s.net s.coupler s.ordinal) is ∙ through);
        used = subst (IsUsed draft plan choice) (sym is) (record { set = set; printed = printed; live = live; has = has });
      }

      step_uses : UsesPin draft plan choice net coupler pin
      step_uses =
          let (line, listed, is) = line_of_slot draft plan passes.layouts.pins slot (kind, (set, printed, has)) in
          line_uses line listed is

    wire_uses : (w : Wire) → Contains plan.wires w → w.net.0 ≡ net → IsOfLiveSet plan choice w → EndsAtPin w coupler pin
        → UsesPin draft plan choice net coupler pin
    wire_uses w listed of_net of ends =
        let (kind, (ordinal, from, to, through)) = wire_step of.set of.printed w listed of.has coupler pin ends in
        let live = ((prints draft plan passes).condition of.set of.printed choice).0 of.live in
        step_uses of.set of.printed live (sym of.has.0 ∙ of_net) kind ordinal from to through

    ends_used : EndsLiveAtPin plan choice net coupler pin → UsesPin draft plan choice net coupler pin
    ends_used (w, at, ends) =
        let outer = Contains-from_filter (λ (v : Wire). v.net.0 == net) (live_wires plan choice) w at in
        let inner = Contains-from_filter (λ (v : Wire). value_of plan.rows choice v.row) plan.wires w outer.0 in
        wire_uses w inner.0 (eqb-true w.net.0 net outer.1) ((live_of_live_sets draft plan passes choice valid w inner.0).0 inner.1) ends

    used_ends : UsesPin draft plan choice net coupler pin → EndsLiveAtPin plan choice net coupler pin
    used_ends uses =
        let set = uses.used.set in
        let found : HasWireAt set uses.line.coupler.0 uses.line.pin =
        line_wire uses.line uses.printed set uses.used.printed uses.used.has in
        let holds = live_at choice set uses.used.printed uses.used.live found.wire found.listed found.is_its in
        let of_net : found.wire.net.0 ≡ net =
        found.is_its.0 ∙ ((has_step set (slot_of uses.line) uses.used.has).of_net ∙ uses.of_net) in (
          found.wire,
          Contains-filter (λ (v : Wire). v.net.0 == net) (live_wires plan choice) found.wire
              (Contains-filter (λ (v : Wire). value_of plan.rows choice v.row) plan.wires found.wire found.listed holds)
              (eq-eqb found.wire.net.0 net of_net),
          subst (λ (c : ℕ). EndsAtPin found.wire c pin) uses.of_coupler
              (subst (λ (p : ℕ). EndsAtPin found.wire uses.line.coupler.0 p) uses.has_pin found.ends),
        )

  pub keeps_pins_apart : KeepsPinsApart draft plan
  keeps_pins_apart = record {
    pins = prints_pins;
    ends = λ choice valid net coupler pin. (ends_used choice valid net coupler pin, used_ends choice valid net coupler pin);
  }
