-- The printed pins.
use Rattle.std.proofs.Common.{◌≡◌, ℕ, zero, suc, ◌<◌, Bool, true, false, List, [], ◌∷◌, length, map, get_or, slice_get, Some, IsTrue, refl, sym, ap, ap₂, subst, ◌∙◌, arith, Contains, inl, inr}
use Rattle.std.specs.List.{AllPairs}
use Rattle.std.proofs.lemmas.Bool.{cases_lt}
use Rattle.std.proofs.lemmas.List.{length-map, get_or_past}
use Rattle.std.proofs.lemmas.Option.{same_Some, slice_get_within, get_or_from_slice_get}
use Rattle.loom_base.proofs.Contained.{Contains-map, Contains-from_map}
use Rattle.loom_topology.specs.Topology.{Segment, no_segment, segment_at, is_coupler}
use Rattle.loom_project.specs.declared.draft.Draft.{Draft}
use Rattle.loom_project.specs.declared.draft.SegmentDraft.{SegmentDraft}
use Rattle.loom_project.specs.Draft.{node_names, pins_of}
use Rattle.loom_project.specs.Project.{topology_of, placed_segment, reserved_of}
use Rattle.loom_rows.specs.Condition.{value}
use Rattle.loom_rows.specs.Table.{Table}
use Rattle.loom_types.specs.declared.plan.Plan.{Plan}
use Rattle.loom_types.specs.declared.plan.PinLine.{PinLine}
use Rattle.loom_types.specs.declared.plan.SetLine.{SetLine}
use Rattle.loom_types.specs.Slots.{Slot, has_slot, IsSlotOf, slot_of, IsSlotBefore}
use Rattle.loom_active.specs.LiveSets.{IsLiveUnder}
use Rattle.loom_active.specs.Usages.{IsUsed}
use Rattle.loom_active.specs.RightPlan.{pins_at}
use Rattle.loom_laid.specs.declared.laid_set.Laid.{Laid}
use Rattle.loom_pins.specs.declared.slot.Slot.{Slot as PinSlot}
use Rattle.loom_pins.specs.declared.slot.CouplerPins.{CouplerPins}
use Rattle.loom_pins.specs.FirstFit.{IsTaken, IsFirstFit, ArePins}
use Rattle.loom_wires.specs.declared.cut_wire.CutWire.{CutWire}
use Rattle.loom_plan.specs.Pins.{IsTakenPin, IsFittedPin, ArePlanPins}
use Rattle.loom_plan.specs.Work.{line_of, slot_at, couplers_of, pin_line, pin_lines, AreSlots, AreUsages}
use Rattle.loom_plan.specs.Stages.{HasLaid, HasCut, Prints, set_line}
use Rattle.loom_plan.proofs.LaidLive.{live-under, under-live}
use Rattle.loom_plan.proofs.LiveUsers.{live_user, user_live}
use Rattle.loom_plan.proofs.PlanSets.{line_from, line_of_set}

-- ---- slots and pins line by line

slots_of_lines : (slots : List Slot) (pins : List ℕ) → length pins ≡ length slots → map slot_of (pin_lines slots pins) ≡ slots
slots_of_lines [] pins e = refl
slots_of_lines (slot ∷ slots) [] e = absurd (omega (arith, e))
slots_of_lines (slot ∷ slots) (pin ∷ pins) e = ap (λ (l : List Slot). slot ∷ l) (slots_of_lines slots pins (omega (arith, e)))

line_at : (slots : List Slot) (pins : List ℕ) (at : ℕ) (line : PinLine) → slice_get (pin_lines slots pins) at ≡ Some line
    → (slice_get slots at ≡ Some (slot_of line)) × (slice_get pins at ≡ Some line.pin)
line_at [] pins at line e = absurd (cc)
line_at (slot ∷ slots) [] at line e = absurd (cc)
line_at (slot ∷ slots) (pin ∷ pins) zero line e =
    let is : pin_line slot pin ≡ line = same_Some (pin_line slot pin) line e in
    (ap (λ (l : PinLine). Some (slot_of l)) is, ap (λ (l : PinLine). Some l.pin) is)
line_at (slot ∷ slots) (pin ∷ pins) (suc at) line e = line_at slots pins at line e

at_line : (slots : List Slot) (pins : List ℕ) (at : ℕ) (slot : Slot) (pin : ℕ) → slice_get slots at ≡ Some slot → slice_get pins at ≡ Some pin
    → slice_get (pin_lines slots pins) at ≡ Some (pin_line slot pin)
at_line [] pins at slot pin e f = absurd (cc)
at_line (s ∷ slots) [] at slot pin e f = absurd (cc)
at_line (s ∷ slots) (p ∷ pins) zero slot pin e f =
    let is : s ≡ slot = same_Some s slot e in
    let has : p ≡ pin = same_Some p pin f in
    ap₂ (λ (x : Slot) (n : ℕ). Some (pin_line x n)) is has
at_line (s ∷ slots) (p ∷ pins) (suc at) slot pin e f = at_line slots pins at slot pin e f

used_at : (used : List PinSlot) (slots : List Slot) (at : ℕ) (slot : Slot) → map slot_at used ≡ slots → slice_get slots at ≡ Some slot
    → (u : PinSlot) × (slice_get used at ≡ Some u) × (slot_at u ≡ slot)
used_at used slots at slot same e = found used at (ap (λ (l : List Slot). slice_get l at) same ∙ e)
  where
    found : (us : List PinSlot) (k : ℕ) → slice_get (map slot_at us) k ≡ Some slot → (u : PinSlot) × (slice_get us k ≡ Some u) × (slot_at u ≡ slot)
    found [] k f = absurd (cc)
    found (u ∷ us) zero f = (u, refl, same_Some (slot_at u) slot f)
    found (u ∷ us) (suc k) f = found us k f

slot_of_used : (used : List PinSlot) (slots : List Slot) (at : ℕ) (u : PinSlot) → map slot_at used ≡ slots → slice_get used at ≡ Some u
    → slice_get slots at ≡ Some (slot_at u)
slot_of_used used slots at u same e = ap (λ (l : List Slot). slice_get l at) (sym same) ∙ found used at e
  where
    found : (us : List PinSlot) (k : ℕ) → slice_get us k ≡ Some u → slice_get (map slot_at us) k ≡ Some (slot_at u)
    found [] k f = absurd (cc)
    found (v ∷ us) zero f = ap (λ (x : PinSlot). Some (slot_at x)) (same_Some v u f)
    found (v ∷ us) (suc k) f = found us k f

member_at : {X : Type 0} (xs : List X) (at : ℕ) (x : X) → slice_get xs at ≡ Some x → Contains xs x
member_at xs at x e = (at, slice_get_within xs at x e, get_or_from_slice_get xs at x x e)

-- ---- couplers

-- a coupler as first fit takes it
abbrev coupler_with : ℕ → List ℕ → CouplerPins
coupler_with pins reserved = record { pins = pins; reserved = reserved }

coupler_at : (draft : Draft) (coupler : ℕ) → coupler < length draft.segments
    → slice_get (couplers_of draft) coupler ≡ Some (coupler_with (pins_at draft coupler) (reserved_of draft coupler))
unfolding topology_of
coupler_at draft coupler lt = found draft.segments coupler lt
  where
    found : (ss : List SegmentDraft) (k : ℕ) → k < length ss
        → slice_get (map (λ (s : SegmentDraft). coupler_with (pins_of s.kind) s.reserved) ss) k
        ≡ Some (coupler_with (pins_of (get_or (map (placed_segment (node_names draft.nodes)) ss) k no_segment).kind)
        (get_or (map (λ (s : SegmentDraft). s.reserved) ss) k []))
    found [] k h = absurd (omega (arith, h))
    found (s ∷ ss) zero h = refl
    found (s ∷ ss) (suc k) h = found ss k (omega (arith, h))

coupler_within : (draft : Draft) (coupler : ℕ) → IsTrue (is_coupler (segment_at (topology_of draft) coupler).kind) → coupler < length draft.segments
unfolding topology_of
coupler_within draft coupler is = elim (cases_lt coupler (length draft.segments)) [
  | inl lt ↦ lt
  | inr past ↦
      let placed : List Segment = map (placed_segment (node_names draft.nodes)) draft.segments in
      let none : is_coupler (get_or placed coupler no_segment).kind ≡ false =
      ap (λ (g : Segment). is_coupler g.kind)
      (get_or_past placed coupler no_segment (omega (arith, past, length-map draft.segments (placed_segment (node_names draft.nodes))))) in
      let clash : true ≡ false = sym is ∙ none in
      absurd (cc)
]

module _ (draft : Draft) (t : Table) (options : ℕ) (laid : Laid) (has : HasLaid draft t laid)
    (lines : List PinLine) (wires : List CutWire) (cut : HasCut draft t laid.sets lines wires) (plan : Plan) (prints : Prints draft options laid lines wires plan) where
  abbrev slots : List Slot
  slots = cut.slots

  abbrev pins : List ℕ
  pins = cut.pins

  abbrev used : List PinSlot
  used = cut.cuts.found.used

  are_slots : AreSlots draft laid.sets slots
  are_slots = cut.cuts.found.works.are_slots

  usages : AreUsages draft laid.sets slots used
  usages = cut.cuts.found.are_used

  fits : ArePins (couplers_of draft) used pins
  fits = cut.cuts.found.are_pins

  printed_are : plan.pins ≡ pin_lines slots pins
  printed_are = prints.pins_are ∙ cut.lines_are

  as_many : length pins ≡ length slots
  as_many = fits.each ∙ sym (length-map used slot_at) ∙ ap length usages.slots_are

  slots_are : map slot_of plan.pins ≡ slots
  slots_are = ap (map slot_of) printed_are ∙ slots_of_lines slots pins as_many

  -- slots of the printed sets are those of the laid ones
  slot_of_laid : (slot : Slot) → IsSlotOf (topology_of draft) plan.sets slot → IsSlotOf (topology_of draft) (map line_of laid.sets) slot
  slot_of_laid slot (coupler, (line, at, is)) =
      let (set, n, in_laid, mean, e) = line_from draft t options laid has lines wires plan prints line at in
      (coupler, (line_of set, Contains-map line_of laid.sets set in_laid, ap (λ (l : SetLine). has_slot l slot) e ∙ is))

  slot_of_printed : (slot : Slot) → IsSlotOf (topology_of draft) (map line_of laid.sets) slot → IsSlotOf (topology_of draft) plan.sets slot
  slot_of_printed slot (coupler, (line, at, is)) =
      let (set, in_laid, e) = Contains-from_map line_of laid.sets line at in
      let (n, mean, printed) = line_of_set draft t options laid has lines wires plan prints set in_laid in
      (coupler, (set_line set n, printed, ap (λ (l : SetLine). has_slot l slot) e ∙ is))

  -- a usage holds exactly where the slot is used
  module _ (u : PinSlot) (in_used : Contains used u) (choice : ℕ → Bool) where
    is_used : value u.usage choice ≡ true → IsUsed draft plan choice (slot_at u)
    is_used holds =
        let (set, in_laid, is, live) =
        live_user draft (λ set. has_slot (line_of set) (slot_at u)) laid.sets choice (sym (usages.usage u in_used choice) ∙ holds) in
        let (n, mean, printed) = line_of_set draft t options laid has lines wires plan prints set in_laid in
        record {
          set = set_line set n;
          printed = printed;
          live = live-under draft set.net.0 set.mask choice (has.live.each set in_laid) live;
          has = is;
        }

    holds_used : IsUsed draft plan choice (slot_at u) → value u.usage choice ≡ true
    holds_used uses =
        let (set, n, in_laid, mean, e) = line_from draft t options laid has lines wires plan prints uses.set uses.printed in
        let is : has_slot (line_of set) (slot_at u) ≡ true = ap (λ (l : SetLine). has_slot l (slot_at u)) e ∙ uses.has in
        let live = subst (λ (l : SetLine). IsLiveUnder draft choice l.net.0 l.mask) (sym e) uses.live in
        usages.usage u in_used choice
        ∙ user_live draft (λ s. has_slot (line_of s) (slot_at u)) laid.sets choice set in_laid is (under-live draft set.net.0 set.mask choice live)

  module _ (at : ℕ) (line : PinLine) (stands : slice_get plan.pins at ≡ Some line) where
    here : (slice_get slots at ≡ Some (slot_of line)) × (slice_get pins at ≡ Some line.pin)
    here = line_at slots pins at line (ap (λ (l : List PinLine). slice_get l at) (sym printed_are) ∙ stands)

    this : (u : PinSlot) × (slice_get used at ≡ Some u) × (slot_at u ≡ slot_of line)
    this = used_at used slots at (slot_of line) usages.slots_are here.0

    coupler_is : (this.0).coupler.0 ≡ line.coupler.0
    coupler_is = ap (λ (s : Slot). s.coupler) this.2

    in_used : Contains used this.0
    in_used = member_at used at this.0 this.1

    within : line.coupler.0 < length draft.segments
    within = coupler_within draft line.coupler.0 (are_slots.each (slot_of line) (member_at slots at (slot_of line) here.0)).0

    fit : IsFirstFit (coupler_with (pins_at draft line.coupler.0) (reserved_of draft line.coupler.0)) used pins at this.0 line.pin
    fit =
        fits.fitted at line.pin this.0 _ here.1 this.1
        (ap (λ (k : ℕ). slice_get (couplers_of draft) k) coupler_is ∙ coupler_at draft line.coupler.0 within)

    -- a pin that is taken among the lines is taken among the slots, and back
    taken_slots : (pin : ℕ) → IsTakenPin draft plan at line pin → IsTaken used pins at this.0 pin
    taken_slots pin taken =
        let there = line_at slots pins taken.earlier taken.holder (ap (λ (l : List PinLine). slice_get l taken.earlier) (sym printed_are) ∙ taken.stands) in
        let other = used_at used slots taken.earlier (slot_of taken.holder) usages.slots_are there.0 in
        let in_other : Contains used other.0 = member_at used taken.earlier other.0 other.1 in
        record {
          earlier = taken.earlier;
          before = taken.before;
          holder = other.0;
          holds = record {
            stands = other.1;
            of_coupler = ap (λ (s : Slot). s.coupler) other.2 ∙ taken.of_coupler ∙ sym coupler_is;
            has = there.1 ∙ ap (λ (n : ℕ). Some n) taken.has_pin;
          };
          together = (
            taken.choice,
            holds_used other.0 in_other taken.choice (subst (IsUsed draft plan taken.choice) (sym other.2) taken.uses_holder),
            holds_used this.0 in_used taken.choice (subst (IsUsed draft plan taken.choice) (sym this.2) taken.uses_this),
          );
        }

    taken_lines : (pin : ℕ) → IsTaken used pins at this.0 pin → IsTakenPin draft plan at line pin
    taken_lines pin taken =
        let slot : Slot = slot_at taken.holder in
        let (choice, one, two) = taken.together in
        record {
          earlier = taken.earlier;
          before = taken.before;
          holder = pin_line slot pin;
          stands =
              ap (λ (l : List PinLine). slice_get l taken.earlier) printed_are
              ∙ at_line slots pins taken.earlier slot pin (slot_of_used used slots taken.earlier taken.holder usages.slots_are taken.holds.stands) taken.holds.has;
          of_coupler = taken.holds.of_coupler ∙ coupler_is;
          has_pin = refl;
          choice = choice;
          uses_holder = is_used taken.holder (member_at used taken.earlier taken.holder taken.holds.stands) choice one;
          uses_this = subst (IsUsed draft plan choice) this.2 (is_used this.0 in_used choice two);
        }

    fitted : IsFittedPin draft plan at line
    fitted = record {
      free = (fit.free.from_one, fit.free.within, fit.free.open_to_all);
      untaken = λ taken. fit.free.untaken (taken_slots line.pin taken);
      least = λ pin free untaken. fit.least pin (record {
        from_one = free.0;
        within = free.1;
        open_to_all = free.2;
        untaken = λ taken. untaken (taken_lines pin taken);
      });
    }

  pub plan_pins : ArePlanPins draft plan
  plan_pins = record {
    order = subst (AllPairs IsSlotBefore) (sym slots_are) are_slots.order;
    each = λ slot is.
        Contains-from_map slot_of plan.pins slot (subst (λ (l : List Slot). Contains l slot) (sym slots_are) (are_slots.all slot (slot_of_laid slot is)));
    only = λ line at.
        slot_of_printed (slot_of line)
        (are_slots.each (slot_of line) (subst (λ (l : List Slot). Contains l (slot_of line)) slots_are (Contains-map slot_of plan.pins line at)));
    fitted = fitted;
  }
