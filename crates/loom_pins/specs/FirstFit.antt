use Rattle.std.specs.Prelude.{ℕ, List, Some, ◌≡◌, ◌<◌, ◌≤◌, Contains, length, slice_get}
use Rattle.loom_rows.specs.Condition.{value}
use Rattle.loom_rows.specs.Meet.{Meet}
use Rattle.loom_pins.specs.declared.slot.Slot.{Slot}
use Rattle.loom_pins.specs.declared.slot.CouplerPins.{CouplerPins}

-- the slot at a place is one of the coupler, and has the pin
pub record Holds (slots : List Slot) (pins : List ℕ) (coupler pin at : ℕ) (slot : Slot) : Type 0 where
  pub stands : slice_get slots at ≡ Some slot
  pub of_coupler : slot.coupler.0 ≡ coupler
  pub has : slice_get pins at ≡ Some pin

-- the pin is taken for a slot at a place: an earlier slot of its coupler has it, and some choice makes both used
pub record IsTaken (slots : List Slot) (pins : List ℕ) (at : ℕ) (slot : Slot) (pin : ℕ) : Type 0 where
  pub earlier : ℕ
  pub before : earlier < at
  pub holder : Slot
  pub holds : Holds slots pins slot.coupler.0 pin earlier holder
  pub together : Meet (value holder.usage) (value slot.usage)

-- a pin that the slot may have: one of its coupler's, counted from 1, that isn't reserved and isn't taken
pub record IsFree (coupler : CouplerPins) (slots : List Slot) (pins : List ℕ) (at : ℕ) (slot : Slot) (pin : ℕ) : Type 0 where
  pub from_one : 1 ≤ pin
  pub within : pin ≤ coupler.pins
  pub open_to_all : Contains coupler.reserved pin → ⊥
  pub untaken : IsTaken slots pins at slot pin → ⊥

-- the pin that first fit gives a slot: the least that it may have
pub record IsFirstFit (coupler : CouplerPins) (slots : List Slot) (pins : List ℕ) (at : ℕ) (slot : Slot) (pin : ℕ) : Type 0 where
  pub free : IsFree coupler slots pins at slot pin
  pub least : (other : ℕ) → IsFree coupler slots pins at slot other → pin ≤ other

-- the slot may have no pin
abbrev pub HasNone : CouplerPins → List Slot → List ℕ → ℕ → Slot → Type 0
HasNone coupler slots pins at slot = (pin : ℕ) → IsFree coupler slots pins at slot pin → ⊥

-- as many of the slots as there are pins, in order, have the pin that first fit gives
abbrev pub AreFirstFit : List CouplerPins → List Slot → List ℕ → Type 0
AreFirstFit couplers slots pins =
    (at pin : ℕ) (slot : Slot) (coupler : CouplerPins) → slice_get pins at ≡ Some pin → slice_get slots at ≡ Some slot
    → slice_get couplers slot.coupler.0 ≡ Some coupler → IsFirstFit coupler slots pins at slot pin

-- each slot has the pin that first fit gives
pub record ArePins (couplers : List CouplerPins) (slots : List Slot) (pins : List ℕ) : Type 0 where
  pub each : length pins ≡ length slots
  pub fitted : AreFirstFit couplers slots pins

-- the slot at a place is the first without a pin: first fit gives one to each slot before it, and then none is left for it
pub record IsFirstWithout (couplers : List CouplerPins) (slots : List Slot) (at : ℕ) : Type 0 where
  pub pins : List ℕ
  pub before : length pins ≡ at
  pub fitted : AreFirstFit couplers slots pins
  pub slot : Slot
  pub stands : slice_get slots at ≡ Some slot
  pub coupler : CouplerPins
  pub is_its : slice_get couplers slot.coupler.0 ≡ Some coupler
  pub none : HasNone coupler slots pins at slot
