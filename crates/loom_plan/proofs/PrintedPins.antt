-- The printed pins: one line for each slot, and different pins for slots of a coupler that are used together.
use Rattle.std.proofs.Common.{◌≡◌, ℕ, ◌<◌, ◌≤◌, ◌==◌, ◌&&◌, Bool, true, false, List, [], ◌∷◌, length, map, get_or, slice_get, Some, refl, sym, ap, subst, ◌∙◌, arith, Contains, inl, inr}
use Rattle.std.specs.Prelude.{nat_le}
use Rattle.std.specs.List.{AllPairs}
use Rattle.std.proofs.lemmas.Bool.{cases_order, eq-eqb, eqb-true, le-leb, and_parts, and_from, cond-true, cond-false, false_from_ne_true}
use Rattle.std.proofs.lemmas.List.{get_or_default}
use Rattle.std.proofs.lemmas.Option.{slice_get_read}
use Rattle.loom_base.proofs.Contained.{Contains-cases, Contains-map}
use Rattle.loom_topology.specs.Topology.{segment_at, is_coupler}
use Rattle.loom_project.specs.declared.draft.Draft.{Draft}
use Rattle.loom_project.specs.Project.{topology_of, net_topology}
use Rattle.loom_types.specs.declared.plan.Plan.{Plan}
use Rattle.loom_types.specs.declared.plan.PinLine.{PinLine}
use Rattle.loom_types.specs.declared.plan.SetLine.{SetLine}
use Rattle.loom_types.specs.PinLines.{is_line_of, pin_in}
use Rattle.loom_types.specs.Slots.{Slot, slot_of, steps_over, has_slot, IsSlotOf, IsSlotBefore}
use Rattle.loom_types.specs.LayoutWires.{KeepsOwnPins}
use Rattle.loom_active.specs.LiveSets.{IsLiveUnder, PrintsLiveSets}
use Rattle.loom_active.specs.Usages.{IsUsed}
use Rattle.loom_active.specs.RightPlan.{lines_of, PrintsPins}
use Rattle.loom_active.proofs.Pairs.{pairs-none, pairs-cons, pairs-head, pairs-tail}
use Rattle.loom_plan.specs.Pins.{ArePlanPins}
use Rattle.loom_plan.proofs.Once.{AreRivals, count-once, pairs-from_members}
use Rattle.loom_active.proofs.Openings.{net_differs, coupler-same}

not_before : (a b : Slot) → IsSlotBefore a b → a.net ≡ b.net → a.coupler ≡ b.coupler → a.ordinal ≡ b.ordinal → ⊥
not_before a b (inl less) net coupler ordinal = absurd (omega (arith, less, net))
not_before a b (inr (same, inl less)) net coupler ordinal = absurd (omega (arith, less, coupler))
not_before a b (inr (same, inr (still, less))) net coupler ordinal = absurd (omega (arith, less, ordinal))

record IsLineOf (net coupler ordinal : ℕ) (line : PinLine) : Type 0 where
  of_net : line.net.0 ≡ net
  of_coupler : line.coupler.0 ≡ coupler
  of_ordinal : line.ordinal ≡ ordinal

line_is : (net coupler ordinal : ℕ) (line : PinLine) → is_line_of net coupler ordinal line ≡ true → IsLineOf net coupler ordinal line
line_is net coupler ordinal line h =
    let a = and_parts (line.net.0 == net) (line.coupler.0 == coupler && line.ordinal == ordinal) h in
    let b = and_parts (line.coupler.0 == coupler) (line.ordinal == ordinal) a.1 in
    record { of_net = eqb-true line.net.0 net a.0; of_coupler = eqb-true line.coupler.0 coupler b.0; of_ordinal = eqb-true line.ordinal ordinal b.1 }

is_line : (net coupler ordinal : ℕ) (line : PinLine) → line.net.0 ≡ net → line.coupler.0 ≡ coupler → line.ordinal ≡ ordinal
    → is_line_of net coupler ordinal line ≡ true
is_line net coupler ordinal line a b c =
    and_from (line.net.0 == net) (line.coupler.0 == coupler && line.ordinal == ordinal) (eq-eqb line.net.0 net a)
    (and_from (line.coupler.0 == coupler) (line.ordinal == ordinal) (eq-eqb line.coupler.0 coupler b) (eq-eqb line.ordinal ordinal c))

-- the lines, by their slots, are in order
abbrev IsLineBefore : PinLine → PinLine → Type 0
IsLineBefore one other = IsSlotBefore (slot_of one) (slot_of other)

pairs-from_map : {X Y : Type 0} (R : Y → Y → Type 0) (f : X → Y) (xs : List X) → AllPairs R (map f xs) → AllPairs (λ a b. R (f a) (f b)) xs
pairs-from_map {X} R f [] all = pairs-none (λ (a b : X). R (f a) (f b))
pairs-from_map {X} R f (x ∷ xs) all =
    pairs-cons (λ (a b : X). R (f a) (f b)) x xs (λ y at. pairs-head R (f x) (map f xs) all (f y) (Contains-map f xs y at))
    (pairs-from_map R f xs (pairs-tail R (f x) (map f xs) all))

-- a line's pin is the one that is looked up for its slot
pin_of_line : (lines : List PinLine) → AllPairs IsLineBefore lines → (line : PinLine) → Contains lines line
    → pin_in lines line.net.0 line.coupler.0 line.ordinal ≡ line.pin
pin_of_line [] order line (k, below, at) = absurd (omega (arith, below))
pin_of_line (l ∷ ls) order line at = elim (Contains-cases line l ls at) [
  | inl same ↦
      subst (λ (k : PinLine). pin_in (l ∷ ls) k.net.0 k.coupler.0 k.ordinal ≡ k.pin) same
      (cond-true (is_line_of l.net.0 l.coupler.0 l.ordinal l) l.pin (pin_in ls l.net.0 l.coupler.0 l.ordinal)
      (is_line l.net.0 l.coupler.0 l.ordinal l refl refl refl))
  | inr later ↦
      let other : is_line_of line.net.0 line.coupler.0 line.ordinal l ≡ false =
      false_from_ne_true (is_line_of line.net.0 line.coupler.0 line.ordinal l) (λ h.
      let is = line_is line.net.0 line.coupler.0 line.ordinal l h in
      not_before (slot_of l) (slot_of line) (pairs-head IsLineBefore l ls order line later) is.of_net is.of_coupler is.of_ordinal) in
      cond-false (is_line_of line.net.0 line.coupler.0 line.ordinal l) l.pin (pin_in ls line.net.0 line.coupler.0 line.ordinal) other
      ∙ pin_of_line ls (pairs-tail IsLineBefore l ls order) line later
]

-- a line that gives the pin of a slot that is used
pub record GivesPin (draft : Draft) (plan : Plan) (choice : ℕ → Bool) (slot : Slot) (pin : ℕ) : Type 0 where
  pub line : PinLine
  pub printed : Contains plan.pins line
  pub is : slot_of line ≡ slot
  pub has_pin : line.pin ≡ pin
  pub used : IsUsed draft plan choice (slot_of line)

module _ (draft : Draft) (plan : Plan) (pins : ArePlanPins draft plan) where
  in_order : AllPairs IsLineBefore plan.pins
  in_order = pairs-from_map IsSlotBefore slot_of plan.pins pins.order

  pub pin_is : (line : PinLine) → Contains plan.pins line → pin_in plan.pins line.net.0 line.coupler.0 line.ordinal ≡ line.pin
  pin_is line at = pin_of_line plan.pins in_order line at

  clash : (choice : ℕ → Bool) (one other : PinLine) (i j : ℕ) → i < j → slice_get plan.pins i ≡ Some one → slice_get plan.pins j ≡ Some other
      → IsUsed draft plan choice (slot_of one) → IsUsed draft plan choice (slot_of other)
      → one.coupler.0 ≡ other.coupler.0 → one.pin ≡ other.pin → ⊥
  clash choice one other i j less at_i at_j uses_one uses_other coupler pin =
      (pins.fitted j other at_j).untaken (record {
        earlier = i;
        before = less;
        holder = one;
        stands = at_i;
        of_coupler = coupler;
        has_pin = pin;
        choice = choice;
        uses_holder = uses_one;
        uses_this = uses_other;
      })

  -- slots of one coupler that are used together have different pins
  pub apart : (choice : ℕ → Bool) (one other : PinLine) → Contains plan.pins one → Contains plan.pins other
      → IsUsed draft plan choice (slot_of one) → IsUsed draft plan choice (slot_of other)
      → one.coupler.0 ≡ other.coupler.0 → one.pin ≡ other.pin → slot_of one ≡ slot_of other
  apart choice one other (i, i_in, at_i) (j, j_in, at_j) uses_one uses_other coupler pin =
      let get_i : slice_get plan.pins i ≡ Some one = slice_get_read plan.pins (length plan.pins) i one refl i_in (sym at_i) in
      let get_j : slice_get plan.pins j ≡ Some other = slice_get_read plan.pins (length plan.pins) j other refl j_in (sym at_j) in
      elim (cases_order i j) [
        | inl e ↦
            let same : one ≡ other =
            sym at_i ∙ (get_or_default plan.pins i one other i_in ∙ (ap (λ (k : ℕ). get_or plan.pins k other) e ∙ at_j)) in
            ap slot_of same
        | inr (inl less) ↦ absurd (clash choice one other i j less get_i get_j uses_one uses_other coupler pin)
        | inr (inr more) ↦ absurd (clash choice other one j i more get_j get_i uses_other uses_one (sym coupler) (sym pin))
      ]

  one_line : (slot : Slot) → IsSlotOf (topology_of draft) plan.sets slot → lines_of plan slot ≡ 1
  one_line slot is_slot =
      let (line, printed, is) = pins.each slot is_slot in
      let test : PinLine → Bool = is_line_of slot.net slot.coupler slot.ordinal in
      count-once test plan.pins line printed
      (is_line slot.net slot.coupler slot.ordinal line (ap (λ (s : Slot). s.net) is) (ap (λ (s : Slot). s.coupler) is) (ap (λ (s : Slot). s.ordinal) is))
      (pairs-from_members IsLineBefore (AreRivals test) plan.pins in_order (λ a b in_a in_b before is_a is_b.
      let l = line_is slot.net slot.coupler slot.ordinal a is_a in
      let m = line_is slot.net slot.coupler slot.ordinal b is_b in
      not_before (slot_of a) (slot_of b) before (l.of_net ∙ sym m.of_net) (l.of_coupler ∙ sym m.of_coupler) (l.of_ordinal ∙ sym m.of_ordinal)))

  pub prints_pins : PrintsPins draft plan
  prints_pins = record {
    each = one_line;
    only = pins.only;
    free = λ line (i, i_in, at_i).
        let get_i : slice_get plan.pins i ≡ Some line = slice_get_read plan.pins (length plan.pins) i line refl i_in (sym at_i) in
        (pins.fitted i line get_i).free;
    apart = λ choice valid one other in_one in_other uses_one uses_other coupler pin.
        apart choice one other in_one in_other uses_one uses_other coupler pin;
  }

  module _ (choice : ℕ → Bool) (set : SetLine) (printed : Contains plan.sets set) (live : IsLiveUnder draft choice set.net.0 set.mask)
      (coupler : ℕ) (is_one : is_coupler (segment_at (net_topology draft set.net.0) coupler).kind ≡ true) where
    abbrev slot_at : ℕ → Slot
    slot_at ordinal = record { net = set.net.0; coupler = coupler; ordinal = ordinal }

    -- the slots of a live set have lines, with the pins that are looked up
    pub gives_pin : (ordinal : ℕ) → 1 ≤ ordinal → ordinal ≤ steps_over set.layout coupler
        → GivesPin draft plan choice (slot_at ordinal) (pin_in plan.pins set.net.0 coupler ordinal)
    gives_pin ordinal from to =
        let has : has_slot set (slot_at ordinal) ≡ true =
        and_from (set.net.0 == set.net.0) (nat_le 1 ordinal && nat_le ordinal (steps_over set.layout coupler)) (eq-eqb set.net.0 set.net.0 refl)
        (and_from (nat_le 1 ordinal) (nat_le ordinal (steps_over set.layout coupler)) (le-leb 1 ordinal from) (le-leb ordinal (steps_over set.layout coupler) to)) in
        let kind : is_coupler (segment_at (topology_of draft) coupler).kind ≡ true =
        coupler-same (topology_of draft) (net_topology draft set.net.0) (net_differs draft set.net.0) coupler ∙ is_one in
        let (line, listed, is) = pins.each (slot_at ordinal) (kind, (set, printed, has)) in
        record {
          line = line;
          printed = listed;
          is = is;
          has_pin = sym (pin_is line listed) ∙ ap (λ (s : Slot). pin_in plan.pins s.net s.coupler s.ordinal) is;
          used = subst (λ (s : Slot). IsUsed draft plan choice s) (sym is) (record { set = set; printed = printed; live = live; has = has });
        }

  -- different steps of a printed layout over one coupler have different pins
  pub own_pins : PrintsLiveSets draft plan → (set : SetLine) → Contains plan.sets set
      → KeepsOwnPins (net_topology draft set.net.0) (pin_in plan.pins set.net.0) set.layout
  own_pins prints set printed coupler one other is_one from less to same =
      let (choice, live) = prints.each set printed in
      let a = gives_pin choice set printed live coupler is_one one from (omega (arith, less, to)) in
      let b = gives_pin choice set printed live coupler is_one other (omega (arith, from, less)) to in
      let at_one : a.line.coupler.0 ≡ b.line.coupler.0 = ap (λ (s : Slot). s.coupler) a.is ∙ sym (ap (λ (s : Slot). s.coupler) b.is) in
      let slots : slot_of a.line ≡ slot_of b.line =
      apart choice a.line b.line a.printed b.printed a.used b.used at_one (a.has_pin ∙ (same ∙ sym b.has_pin)) in
      let ordinals : one ≡ other = ap (λ (s : Slot). s.ordinal) (sym a.is ∙ (slots ∙ b.is)) in
      absurd (omega (arith, less, ordinals))
