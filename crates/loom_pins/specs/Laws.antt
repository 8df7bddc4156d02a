use Rattle.std.specs.Prelude.{ℕ, Bool, List, Some, ◌≡◌, ◌<◌, ◌≤◌, IsTrue, All, Contains, length, slice_get}
use Rattle.loom_rows.specs.Condition.{value}
use Rattle.loom_pins.specs.declared.slot.Slot.{Slot}
use Rattle.loom_pins.specs.declared.slot.CouplerPins.{CouplerPins}
use Rattle.loom_pins.specs.FirstFit.{ArePins, IsFirstWithout}

-- the slots' couplers are among the couplers
abbrev pub HaveCouplers : List CouplerPins → List Slot → Type 0
HaveCouplers couplers slots = All (λ slot. slot.coupler.0 < length couplers) slots

-- slots of one coupler that are both used under a choice have different pins
abbrev pub SlotsUsedTogetherAreApart : Type 0
SlotsUsedTogetherAreApart =
    (couplers : List CouplerPins) (slots : List Slot) (pins : List ℕ) (choice : ℕ → Bool) (at at_other pin : ℕ) (one other : Slot)
    → HaveCouplers couplers slots → ArePins couplers slots pins → slice_get slots at ≡ Some one → slice_get slots at_other ≡ Some other
    → IsTrue (value one.usage choice) → IsTrue (value other.usage choice) → one.coupler.0 ≡ other.coupler.0
    → slice_get pins at ≡ Some pin → slice_get pins at_other ≡ Some pin → at ≡ at_other

-- each slot has one of its coupler's pins, counted from 1, that isn't reserved
abbrev pub PinsAreOpen : Type 0
PinsAreOpen =
    (couplers : List CouplerPins) (slots : List Slot) (pins : List ℕ) (at pin : ℕ) (slot : Slot) (coupler : CouplerPins)
    → ArePins couplers slots pins → slice_get slots at ≡ Some slot → slice_get couplers slot.coupler.0 ≡ Some coupler
    → slice_get pins at ≡ Some pin → (1 ≤ pin) × (pin ≤ coupler.pins) × (Contains coupler.reserved pin → ⊥)

-- first fit leaves no choice: the slots have one list of pins at most
abbrev pub PinsAreUnique : Type 0
PinsAreUnique =
    (couplers : List CouplerPins) (slots : List Slot) (pins others : List ℕ) → HaveCouplers couplers slots
    → ArePins couplers slots pins → ArePins couplers slots others → pins ≡ others

-- where a slot is the first without a pin, the slots have no pins, and no other slot is the first
abbrev pub FirstWithoutIsUnique : Type 0
FirstWithoutIsUnique =
    (couplers : List CouplerPins) (slots : List Slot) (at : ℕ) → HaveCouplers couplers slots → IsFirstWithout couplers slots at
    → ((pins : List ℕ) → ArePins couplers slots pins → ⊥) × ((other : ℕ) → IsFirstWithout couplers slots other → at ≡ other)
