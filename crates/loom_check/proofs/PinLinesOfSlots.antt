-- The lines of pins: one for each slot, and the pin that is looked up is the line's.
use Rattle.std.proofs.Common.{◌≡◌, ℕ, ◌≤◌, ◌==◌, ◌&&◌, Bool, true, false, List, [], ◌∷◌, refl, sym, ap, subst, ◌∙◌, arith, Contains, inl, inr}
use Rattle.std.specs.Prelude.{nat_le, IsTrue}
use Rattle.std.specs.List.{AllPairs}
use Rattle.std.proofs.lemmas.Bool.{eq-eqb, eqb-true, le-leb, leb-true, and_parts, and_from, cond-true, cond-false, false_from_ne_true}
use Rattle.loom_base.proofs.Contained.{Contains-cases}
use Rattle.loom_project.specs.declared.draft.Draft.{Draft}
use Rattle.loom_project.specs.Project.{topology_of}
use Rattle.loom_types.specs.declared.plan.Plan.{Plan}
use Rattle.loom_types.specs.declared.plan.PinLine.{PinLine}
use Rattle.loom_types.specs.declared.plan.SetLine.{SetLine}
use Rattle.loom_types.specs.PinLines.{is_line_of, pin_in}
use Rattle.loom_types.specs.Slots.{Slot, IsSlotBefore, IsSlotOf, slot_of, steps_over, has_slot}
use Rattle.loom_active.specs.RightPlan.{lines_of}
use Rattle.loom_active.proofs.Pairs.{pairs-head, pairs-tail}
use Rattle.loom_audit.specs.LayoutRule.{HasPinLines, IsLineOfSlot}
use Rattle.loom_check.proofs.AgreeingLines.{agree-printed, agree-stated, agree-pairs}
use Rattle.loom_check.proofs.OnceListed.{AreRivals, count-once, pairs-from_members}

-- the layout of a set of the net has so many steps over the coupler
pub record HasStep (set : SetLine) (slot : Slot) : Type 0 where
  pub of_net : set.net.0 ≡ slot.net
  pub from : 1 ≤ slot.ordinal
  pub to : slot.ordinal ≤ steps_over set.layout slot.coupler

pub has_step : (set : SetLine) (slot : Slot) → IsTrue (has_slot set slot) → HasStep set slot
has_step set slot has =
    let p = and_parts (set.net.0 == slot.net) (nat_le 1 slot.ordinal && nat_le slot.ordinal (steps_over set.layout slot.coupler)) has in
    let q = and_parts (nat_le 1 slot.ordinal) (nat_le slot.ordinal (steps_over set.layout slot.coupler)) p.1 in
    record {
      of_net = eqb-true set.net.0 slot.net p.0;
      from = leb-true 1 slot.ordinal q.0;
      to = leb-true slot.ordinal (steps_over set.layout slot.coupler) q.1;
    }

pub step_has : (set : SetLine) (slot : Slot) → HasStep set slot → IsTrue (has_slot set slot)
step_has set slot step =
    and_from (set.net.0 == slot.net) (nat_le 1 slot.ordinal && nat_le slot.ordinal (steps_over set.layout slot.coupler))
    (eq-eqb set.net.0 slot.net step.of_net)
    (and_from (nat_le 1 slot.ordinal) (nat_le slot.ordinal (steps_over set.layout slot.coupler)) (le-leb 1 slot.ordinal step.from)
    (le-leb slot.ordinal (steps_over set.layout slot.coupler) step.to))

not_before : (a b : Slot) → IsSlotBefore a b → a.net ≡ b.net → a.coupler ≡ b.coupler → a.ordinal ≡ b.ordinal → ⊥
not_before a b (inl less) net coupler ordinal = absurd (omega (arith, less, net))
not_before a b (inr (same, inl less)) net coupler ordinal = absurd (omega (arith, less, coupler))
not_before a b (inr (same, inr (still, less))) net coupler ordinal = absurd (omega (arith, less, ordinal))

record IsLineOf (net coupler ordinal : ℕ) (line : PinLine) : Type 0 where
  of_net : line.net.0 ≡ net
  of_coupler : line.coupler.0 ≡ coupler
  of_ordinal : line.ordinal ≡ ordinal

line_is : (net coupler ordinal : ℕ) (line : PinLine) → is_line_of net coupler ordinal line ≡ true → IsLineOf net coupler ordinal line
line_is net coupler ordinal line h =
    let a = and_parts (line.net.0 == net) (line.coupler.0 == coupler && line.ordinal == ordinal) h in
    let b = and_parts (line.coupler.0 == coupler) (line.ordinal == ordinal) a.1 in
    record { of_net = eqb-true line.net.0 net a.0; of_coupler = eqb-true line.coupler.0 coupler b.0; of_ordinal = eqb-true line.ordinal ordinal b.1 }

is_line : (net coupler ordinal : ℕ) (line : PinLine) → line.net.0 ≡ net → line.coupler.0 ≡ coupler → line.ordinal ≡ ordinal
    → is_line_of net coupler ordinal line ≡ true
is_line net coupler ordinal line a b c =
    and_from (line.net.0 == net) (line.coupler.0 == coupler && line.ordinal == ordinal) (eq-eqb line.net.0 net a)
    (and_from (line.coupler.0 == coupler) (line.ordinal == ordinal) (eq-eqb line.coupler.0 coupler b) (eq-eqb line.ordinal ordinal c))

-- the lines, by their slots, are in order
abbrev IsLineBefore : PinLine → PinLine → Type 0
IsLineBefore one other = IsSlotBefore (slot_of one) (slot_of other)

-- a line's pin is the one that is looked up for its slot
pin_of_line : (lines : List PinLine) → AllPairs IsLineBefore lines → (line : PinLine) → Contains lines line
    → pin_in lines line.net.0 line.coupler.0 line.ordinal ≡ line.pin
pin_of_line [] order line (k, below, at) = absurd (omega (arith, below))
pin_of_line (l ∷ ls) order line at = elim (Contains-cases line l ls at) [
  | inl same ↦
      subst (λ (k : PinLine). pin_in (l ∷ ls) k.net.0 k.coupler.0 k.ordinal ≡ k.pin) same
      (cond-true (is_line_of l.net.0 l.coupler.0 l.ordinal l) l.pin (pin_in ls l.net.0 l.coupler.0 l.ordinal)
      (is_line l.net.0 l.coupler.0 l.ordinal l refl refl refl))
  | inr later ↦
      let other : is_line_of line.net.0 line.coupler.0 line.ordinal l ≡ false =
      false_from_ne_true (is_line_of line.net.0 line.coupler.0 line.ordinal l) (λ h.
      let is = line_is line.net.0 line.coupler.0 line.ordinal l h in
      not_before (slot_of l) (slot_of line) (pairs-head IsLineBefore l ls order line later) is.of_net is.of_coupler is.of_ordinal) in
      cond-false (is_line_of line.net.0 line.coupler.0 line.ordinal l) l.pin (pin_in ls line.net.0 line.coupler.0 line.ordinal) other
      ∙ pin_of_line ls (pairs-tail IsLineBefore l ls order) line later
]

module _ (draft : Draft) (plan : Plan) (has : HasPinLines draft plan) where
  in_order : AllPairs IsLineBefore plan.pins
  in_order =
      agree-pairs IsLineOfSlot has.slots plan.pins has.lines IsSlotBefore IsLineBefore has.are_slots.order
      (λ s t p q is_s is_t before.
      subst (λ (x : Slot). IsSlotBefore x (slot_of q)) (sym is_s) (subst (λ (y : Slot). IsSlotBefore s y) (sym is_t) before))

  pub pin_is : (line : PinLine) → Contains plan.pins line → pin_in plan.pins line.net.0 line.coupler.0 line.ordinal ≡ line.pin
  pin_is line at = pin_of_line plan.pins in_order line at

  -- each slot has a line
  pub line_of_slot : (slot : Slot) → IsSlotOf (topology_of draft) plan.sets slot → (line : PinLine) × Contains plan.pins line × (slot_of line ≡ slot)
  line_of_slot slot is = agree-stated IsLineOfSlot has.slots plan.pins has.lines slot (has.are_slots.all slot is)

  -- each line has a slot
  pub slot_of_line : (line : PinLine) → Contains plan.pins line → IsSlotOf (topology_of draft) plan.sets (slot_of line)
  slot_of_line line at =
      let (slot, listed, is) = agree-printed IsLineOfSlot has.slots plan.pins has.lines line at in
      subst (IsSlotOf (topology_of draft) plan.sets) (sym is) (has.are_slots.each slot listed)

  pub one_line : (slot : Slot) → IsSlotOf (topology_of draft) plan.sets slot → lines_of plan slot ≡ 1
  one_line slot is_slot =
      let (line, printed, is) = line_of_slot slot is_slot in
      let test : PinLine → Bool = is_line_of slot.net slot.coupler slot.ordinal in
      count-once test plan.pins line printed
      (is_line slot.net slot.coupler slot.ordinal line (ap (λ (s : Slot). s.net) is) (ap (λ (s : Slot). s.coupler) is) (ap (λ (s : Slot). s.ordinal) is))
      (pairs-from_members IsLineBefore (AreRivals test) plan.pins in_order (λ a b in_a in_b before is_a is_b.
      let l = line_is slot.net slot.coupler slot.ordinal a is_a in
      let m = line_is slot.net slot.coupler slot.ordinal b is_b in
      not_before (slot_of a) (slot_of b) before (l.of_net ∙ sym m.of_net) (l.of_coupler ∙ sym m.of_coupler) (l.of_ordinal ∙ sym m.of_ordinal)))
