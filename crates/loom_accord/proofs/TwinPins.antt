-- The printed pins are those that first fit gives the slots of the planning.
use Rattle.std.proofs.Common.{◌≡◌, ℕ, zero, suc, ◌<◌, Bool, true, false, List, [], ◌∷◌, length, map, get_or, slice_get, Some, IsTrue, refl, sym, ap, subst, ◌∙◌, arith, Contains, inl, inr}
use Rattle.std.proofs.lemmas.Bool.{cases_lt}
use Rattle.std.proofs.lemmas.List.{length-map, get_or_past}
use Rattle.std.proofs.lemmas.Option.{same_Some, slice_get_within}
use Rattle.loom_topology.specs.Topology.{Segment, no_segment, segment_at, is_coupler}
use Rattle.loom_project.specs.declared.draft.Draft.{Draft}
use Rattle.loom_project.specs.declared.draft.SegmentDraft.{SegmentDraft}
use Rattle.loom_project.specs.Draft.{node_names, pins_of}
use Rattle.loom_project.specs.Project.{topology_of, placed_segment, reserved_of}
use Rattle.loom_rows.specs.Condition.{Meaning, value}
use Rattle.loom_rows.specs.Disjunction.{some_hold}
use Rattle.loom_rows.proofs.Counted.{element}
use Rattle.loom_types.specs.declared.plan.Plan.{Plan}
use Rattle.loom_types.specs.declared.plan.PinLine.{PinLine}
use Rattle.loom_types.specs.Slots.{Slot, has_slot, slot_of}
use Rattle.loom_active.specs.Usages.{IsUsed}
use Rattle.loom_active.specs.RightPlan.{pins_at}
use Rattle.loom_active.proofs.Pairs.{slice_get-map}
use Rattle.loom_laid.specs.declared.laid_set.LaidSet.{LaidSet}
use Rattle.loom_pins.specs.declared.slot.Slot.{Slot as PinSlot}
use Rattle.loom_pins.specs.declared.slot.CouplerPins.{CouplerPins}
use Rattle.loom_pins.specs.FirstFit.{IsTaken, IsFirstFit, ArePins}
use Rattle.loom_plan.specs.FirstStop.{HasPlan}
use Rattle.loom_plan.specs.Pins.{IsTakenPin, IsFittedPin}
use Rattle.loom_plan.specs.PlanOf.{IsPlanOf}
use Rattle.loom_plan.specs.Work.{line_of, set_live, slot_at, users_of_slot, couplers_of, pin_lines, AreUsages}
use Rattle.loom_plan.proofs.LaidLive.{live-under, under-live}
use Rattle.loom_plan.proofs.LiveUsers.{live_user, user_live}
use Rattle.loom_plan.proofs.SameLines.{StageLaws}
use Rattle.loom_plan.proofs.SameWork.{same-users}
use Rattle.loom_plan.proofs.StopStages.{have-couplers}
use Rattle.loom_check.proofs.AgreeingLines.{member_at}
use Rattle.loom_accord.proofs.TwinSets.{laid_of, twins, twin_of, twin_in, same_lines, same_slots}

-- ---- couplers

-- a coupler as first fit takes it
abbrev coupler_with : ℕ → List ℕ → CouplerPins
coupler_with pins reserved = record { pins = pins; reserved = reserved }

coupler_at : (draft : Draft) (coupler : ℕ) → coupler < length draft.segments
    → slice_get (couplers_of draft) coupler ≡ Some (coupler_with (pins_at draft coupler) (reserved_of draft coupler))
unfolding topology_of
coupler_at draft coupler lt = found draft.segments coupler lt
  where
    found : (ss : List SegmentDraft) (k : ℕ) → k < length ss
        → slice_get (map (λ (s : SegmentDraft). coupler_with (pins_of s.kind) s.reserved) ss) k
        ≡ Some (coupler_with (pins_of (get_or (map (placed_segment (node_names draft.nodes)) ss) k no_segment).kind)
        (get_or (map (λ (s : SegmentDraft). s.reserved) ss) k []))
    found [] k h = absurd (omega (arith, h))
    found (s ∷ ss) zero h = refl
    found (s ∷ ss) (suc k) h = found ss k (omega (arith, h))

coupler_within : (draft : Draft) (coupler : ℕ) → IsTrue (is_coupler (segment_at (topology_of draft) coupler).kind) → coupler < length draft.segments
unfolding topology_of
coupler_within draft coupler is = elim (cases_lt coupler (length draft.segments)) [
  | inl lt ↦ lt
  | inr past ↦
      let placed : List Segment = map (placed_segment (node_names draft.nodes)) draft.segments in
      let none : is_coupler (get_or placed coupler no_segment).kind ≡ false =
      ap (λ (g : Segment). is_coupler g.kind)
      (get_or_past placed coupler no_segment (omega (arith, past, length-map draft.segments (placed_segment (node_names draft.nodes))))) in
      let clash : true ≡ false = sym is ∙ none in
      absurd (cc)
]

-- ---- lines

abbrev pin_of : PinLine → ℕ
pin_of line = line.pin

line_of_pin : (lines : List PinLine) (at pin : ℕ) → slice_get (map pin_of lines) at ≡ Some pin
    → (line : PinLine) × (slice_get lines at ≡ Some line) × (line.pin ≡ pin)
line_of_pin [] at pin e = absurd (cc)
line_of_pin (line ∷ lines) zero pin e = (line, refl, same_Some line.pin pin e)
line_of_pin (line ∷ lines) (suc at) pin e = line_of_pin lines at pin e

lines_back : (lines : List PinLine) → lines ≡ pin_lines (map slot_of lines) (map pin_of lines)
lines_back [] = refl
lines_back (line ∷ lines) = ap (λ (rest : List PinLine). line ∷ rest) (lines_back lines)

module _ (draft : Draft) (plan : Plan) (is : IsPlanOf draft plan) (has : HasPlan draft) (stages : StageLaws) where
  abbrev used : List PinSlot
  used = has.cuts.found.used

  abbrev pins : List ℕ
  pins = map pin_of plan.pins

  usages : AreUsages draft has.laid has.slots used
  usages = has.cuts.found.are_used

  slots_are : map slot_at used ≡ map slot_of plan.pins
  slots_are = usages.slots_are ∙ sym (same_slots draft plan is has stages)

  same_slot : (at : ℕ) (u : PinSlot) (line : PinLine) → slice_get used at ≡ Some u → slice_get plan.pins at ≡ Some line → slot_at u ≡ slot_of line
  same_slot at u line at_u at_line =
      same_Some (slot_at u) (slot_of line)
      (sym (slice_get-map slot_at used at u at_u)
      ∙ (ap (λ (l : List Slot). slice_get l at) slots_are ∙ slice_get-map slot_of plan.pins at line at_line))

  as_many : length used ≡ length plan.pins
  as_many = sym (length-map used slot_at) ∙ (ap length slots_are ∙ length-map plan.pins slot_of)

  -- ---- when slots are used

  module _ (u : PinSlot) (in_used : Contains used u) (choice : ℕ → Bool) where
    abbrev test : LaidSet → Bool
    test set = has_slot (line_of set) (slot_at u)

    same_usage : value u.usage choice ≡ some_hold (users_of_slot draft (twins plan) (slot_at u)) choice
    same_usage =
        usages.usage u in_used choice
        ∙ sym (ap (λ (fs : List Meaning). some_hold fs choice) (same-users draft (twins plan) has.laid (same_lines draft plan is has stages) (slot_at u)))

    is_used : value u.usage choice ≡ true → IsUsed draft plan choice (slot_at u)
    is_used holds =
        let (twin, listed, slot, live) = live_user draft test (twins plan) choice (sym same_usage ∙ holds) in
        let (set, printed, e) = twin_of plan twin listed in
        record {
          set = set;
          printed = printed;
          live =
              live-under draft set.net.0 set.mask choice (is.sets.each set printed) (ap (λ (s : LaidSet). set_live draft s choice) e ∙ live);
          has = ap test e ∙ slot;
        }

    holds_used : IsUsed draft plan choice (slot_at u) → value u.usage choice ≡ true
    holds_used uses =
        same_usage
        ∙ user_live draft test (twins plan) choice (laid_of uses.set) (twin_in plan uses.set uses.printed) uses.has
        (under-live draft uses.set.net.0 uses.set.mask choice uses.live)

  -- ---- first fit

  module _ (at : ℕ) (u : PinSlot) (line : PinLine) (at_u : slice_get used at ≡ Some u) (at_line : slice_get plan.pins at ≡ Some line) where
    here : slot_at u ≡ slot_of line
    here = same_slot at u line at_u at_line

    coupler_is : u.coupler.0 ≡ line.coupler.0
    coupler_is = ap (λ (s : Slot). s.coupler) here

    in_used : Contains used u
    in_used = member_at used at u at_u

    -- a pin that is taken among the lines is taken among the slots, and back
    taken_slots : (pin : ℕ) → IsTakenPin draft plan at line pin → IsTaken used pins at u pin
    taken_slots pin taken =
        let within = slice_get_within used at u at_u in
        let before = taken.before in
        let (v, at_v) = element used taken.earlier (omega (arith, before, within)) in
        let there = same_slot taken.earlier v taken.holder at_v taken.stands in
        record {
          earlier = taken.earlier;
          before = before;
          holder = v;
          holds = record {
            stands = at_v;
            of_coupler = ap (λ (s : Slot). s.coupler) there ∙ (taken.of_coupler ∙ sym coupler_is);
            has = slice_get-map pin_of plan.pins taken.earlier taken.holder taken.stands ∙ ap (λ (n : ℕ). Some n) taken.has_pin;
          };
          together = (
            taken.choice,
            holds_used v (member_at used taken.earlier v at_v) taken.choice (subst (IsUsed draft plan taken.choice) (sym there) taken.uses_holder),
            holds_used u in_used taken.choice (subst (IsUsed draft plan taken.choice) (sym here) taken.uses_this),
          );
        }

    taken_lines : (pin : ℕ) → IsTaken used pins at u pin → IsTakenPin draft plan at line pin
    taken_lines pin taken =
        let v = taken.holder in
        let (holder, at_holder, has_pin) = line_of_pin plan.pins taken.earlier pin taken.holds.has in
        let there = same_slot taken.earlier v holder taken.holds.stands at_holder in
        let (choice, one, two) = taken.together in
        record {
          earlier = taken.earlier;
          before = taken.before;
          holder = holder;
          stands = at_holder;
          of_coupler = sym (ap (λ (s : Slot). s.coupler) there) ∙ (taken.holds.of_coupler ∙ coupler_is);
          has_pin = has_pin;
          choice = choice;
          uses_holder = subst (IsUsed draft plan choice) there (is_used v (member_at used taken.earlier v taken.holds.stands) choice one);
          uses_this = subst (IsUsed draft plan choice) here (is_used u in_used choice two);
        }

    fits : (coupler : CouplerPins) → slice_get (couplers_of draft) u.coupler.0 ≡ Some coupler → IsFirstFit coupler used pins at u line.pin
    fits coupler stands =
        let fitted : IsFittedPin draft plan at line = is.pins.fitted at line at_line in
        let own : CouplerPins = coupler_with (pins_at draft line.coupler.0) (reserved_of draft line.coupler.0) in
        let within = coupler_within draft line.coupler.0 (is.pins.only line (member_at plan.pins at line at_line)).0 in
        let same : own ≡ coupler =
        same_Some own coupler
        (sym (ap (λ (k : ℕ). slice_get (couplers_of draft) k) coupler_is ∙ coupler_at draft line.coupler.0 within) ∙ stands) in
        subst (λ (c : CouplerPins). IsFirstFit c used pins at u line.pin) same (record {
          free = record {
            from_one = fitted.free.0;
            within = fitted.free.1;
            open_to_all = fitted.free.2;
            untaken = λ taken. fitted.untaken (taken_lines line.pin taken);
          };
          least = λ pin free.
              fitted.least pin (free.from_one, free.within, free.open_to_all) (λ taken. free.untaken (taken_slots pin taken));
        })

  are_pins : ArePins (couplers_of draft) used pins
  are_pins = record {
    each = length-map plan.pins pin_of ∙ sym as_many;
    fitted = λ at pin u coupler at_pin at_u at_coupler.
        let (line, at_line, has_pin) = line_of_pin plan.pins at pin at_pin in
        subst (λ (n : ℕ). IsFirstFit coupler used pins at u n) has_pin (fits at u line at_u at_line coupler at_coupler);
  }

  same_numbers : pins ≡ has.pins
  same_numbers =
      stages.pins (couplers_of draft) used pins has.pins
      (have-couplers draft has.laid has.slots used has.cuts.found.works.are_slots usages) are_pins has.cuts.found.are_pins

  pub same_pins : plan.pins ≡ pin_lines has.slots has.pins
  same_pins = let slots = same_slots draft plan is has stages in lines_back plan.pins ∙ (λ i. pin_lines (slots i) (same_numbers i))
