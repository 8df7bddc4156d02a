-- First fit has one outcome, and slots that are used together have different pins.
use Rattle.std.proofs.Common.{◌≡◌, ℕ, zero, suc, ◌<◌, ◌≤◌, Bool, List, [], ◌∷◌, length, get_or, Some, IsTrue, sym, subst, ap, ◌∙◌, arith, inl, inr}
use Rattle.std.specs.List.{slice_get}
use Rattle.std.proofs.lemmas.Option.{slice_get_within, slice_get-get_or, get_or_from_slice_get}
use Rattle.std.proofs.lemmas.List.{same_lists}
use Rattle.std.proofs.lemmas.List.Elements.{All-get_or}
use Rattle.std.proofs.lemmas.Bool.{cases_lt}
use Rattle.loom_rows.specs.Condition.{value}
use Rattle.loom_pins.specs.declared.slot.Slot.{Slot}
use Rattle.loom_pins.specs.declared.slot.CouplerPins.{CouplerPins}
use Rattle.loom_pins.specs.FirstFit.{AreFirstFit, IsFirstWithout}
use Rattle.loom_pins.specs.Laws.{HaveCouplers, SlotsUsedTogetherAreApart, PinsAreOpen, PinsAreUnique, FirstWithoutIsUnique}
use Rattle.loom_pins.proofs.Fitted.{Agree, free-along}

element : {X : Type 0} (xs : List X) (at : ℕ) → at < length xs → (x : X) × (slice_get xs at ≡ Some x)
element [] at below = absurd (omega (arith, below))
element (x ∷ xs) at below = (get_or (x ∷ xs) at x, slice_get-get_or (x ∷ xs) at x below)

-- a slot's coupler is among the couplers
coupler_of : (couplers : List CouplerPins) (slots : List Slot) (at : ℕ) (slot : Slot) → HaveCouplers couplers slots
    → slice_get slots at ≡ Some slot → (coupler : CouplerPins) × (slice_get couplers slot.coupler.0 ≡ Some coupler)
coupler_of couplers slots at slot have stands =
    let P = λ (s : Slot). s.coupler.0 < length couplers in
    let below : slot.coupler.0 < length couplers =
    subst P (get_or_from_slice_get slots at slot slot stands) (All-get_or P slots at slot (slice_get_within slots at slot stands) have) in
    element couplers slot.coupler.0 below

module _ (couplers : List CouplerPins) (slots : List Slot) (have : HaveCouplers couplers slots) where
  -- two lists of pins by first fit agree before n
  same-below : (pins others : List ℕ) → AreFirstFit couplers slots pins → AreFirstFit couplers slots others → length pins ≤ length slots
      → (n at pin other : ℕ) → at < n → slice_get pins at ≡ Some pin → slice_get others at ≡ Some other → pin ≡ other
  same-below pins others fitted fits within zero at pin other below has its = absurd (omega (arith, below))
  same-below pins others fitted fits within (suc n) at pin other below has its =
      let in_pins = slice_get_within pins at pin has in
      let in_others = slice_get_within others at other its in
      let (slot, stands) = element slots at (omega (arith, in_pins, within)) in
      let (coupler, is) = coupler_of couplers slots at slot have stands in
      let there : Agree pins others at = λ k p lt h.
      let (q, g) = element others k (omega (arith, lt, in_others)) in
      let same = same-below pins others fitted fits within n k p q (omega (arith, lt, below)) h g in
      g ∙ ap (λ x. Some x) (sym same) in
      let back : Agree others pins at = λ k q lt g.
      let (p, h) = element pins k (omega (arith, lt, in_pins)) in
      let same = same-below pins others fitted fits within n k p q (omega (arith, lt, below)) h g in
      h ∙ ap (λ x. Some x) same in
      let one = fitted at pin slot coupler has stands is in
      let two = fits at other slot coupler its stands is in
      let le = one.least other (free-along coupler slots others pins at slot other there two.free) in
      let ge = two.least pin (free-along coupler slots pins others at slot pin back one.free) in
      omega (arith, le, ge)

  -- a slot without a pin ends each list of pins by first fit
  pub without-ends : (at : ℕ) → IsFirstWithout couplers slots at → (pins : List ℕ) → AreFirstFit couplers slots pins → at < length pins
      → length pins ≤ length slots → ⊥
  without-ends at w pins fitted below within =
      let (pin, has) = element pins at below in
      let fit = fitted at pin w.slot w.coupler has w.stands w.is_its in
      let few : length w.pins ≤ length slots = omega (arith, w.before, below, within) in
      let agree : Agree w.pins pins at = λ k p lt h.
      let (q, g) = element pins k (omega (arith, lt, below)) in
      let same = same-below w.pins pins w.fitted fitted few (suc k) k p q (omega arith) h g in
      g ∙ ap (λ x. Some x) (sym same) in
      w.none pin (free-along w.coupler slots pins w.pins at w.slot pin agree fit.free)

pub first_without_is_unique : FirstWithoutIsUnique
first_without_is_unique couplers slots at have w =
    let in_slots = slice_get_within slots at w.slot w.stands in (
      (λ pins are. without-ends couplers slots have at w pins are.fitted (omega (arith, are.each, in_slots)) (omega (arith, are.each))),
      (λ other v.
          let in_others = slice_get_within slots other v.slot v.stands in
          elim (cases_lt at other) [
            | inl lt ↦ absurd (without-ends couplers slots have at w v.pins v.fitted (omega (arith, v.before, lt)) (omega (arith, v.before, in_others)))
            | inr ge ↦ elim (cases_lt other at) [
              | inl lt ↦ absurd (without-ends couplers slots have other v w.pins w.fitted (omega (arith, w.before, lt)) (omega (arith, w.before, in_slots)))
              | inr le ↦ omega (arith, ge, le)
            ]
          ]),
    )

pub pins_are_unique : PinsAreUnique
pins_are_unique couplers slots pins others have are also =
    same_lists pins others (are.each ∙ sym also.each)
    (λ k d lt.
    let (p, h) = element pins k lt in
    let (q, g) = element others k (omega (arith, lt, are.each, also.each)) in
    let same = same-below couplers slots have pins others are.fitted also.fitted (omega (arith, are.each)) (suc k) k p q (omega arith) h g in
    get_or_from_slice_get pins k p d h ∙ same ∙ sym (get_or_from_slice_get others k q d g))

-- the later of two slots that are used together has another pin than the earlier
apart : (couplers : List CouplerPins) (slots : List Slot) (pins : List ℕ) (choice : ℕ → Bool) (at later pin : ℕ) (one other : Slot)
    → HaveCouplers couplers slots → AreFirstFit couplers slots pins → slice_get slots at ≡ Some one → slice_get slots later ≡ Some other
    → IsTrue (value one.usage choice) → IsTrue (value other.usage choice) → one.coupler.0 ≡ other.coupler.0
    → slice_get pins at ≡ Some pin → slice_get pins later ≡ Some pin → at < later → ⊥
apart couplers slots pins choice at later pin one other have fitted stands stands_later used used_later same has has_later lt =
    let (coupler, is) = coupler_of couplers slots later other have stands_later in
    (fitted later pin other coupler has_later stands_later is).free.untaken (record {
      earlier = at;
      before = lt;
      holder = one;
      holds = record { stands = stands; of_coupler = same; has = has };
      together = (choice, used, used_later);
    })

pub slots_used_together_are_apart : SlotsUsedTogetherAreApart
slots_used_together_are_apart couplers slots pins choice at at_other pin one other have are stands stands_other used used_other same has has_other =
    elim (cases_lt at at_other) [
      | inl lt ↦ absurd (apart couplers slots pins choice at at_other pin one other have are.fitted stands stands_other used used_other same has has_other lt)
      | inr ge ↦ elim (cases_lt at_other at) [
        | inl lt ↦ absurd (apart couplers slots pins choice at_other at pin other one have are.fitted stands_other stands used_other used (sym same) has_other has lt)
        | inr le ↦ omega (arith, ge, le)
      ]
    ]

pub pins_are_open : PinsAreOpen
pins_are_open couplers slots pins at pin slot coupler are stands is has =
    let free = (are.fitted at pin slot coupler has stands is).free in
    (free.from_one, free.within, free.open_to_all)
