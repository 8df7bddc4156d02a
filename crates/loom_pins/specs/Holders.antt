use Rattle.std.specs.Prelude.{ℕ, Bool, true, List, Option, None, Some, ◌≡◌, ◌<◌, ◌≤◌, ◌==◌, ◌&&◌, ◌↔◌, Contains, length, slice_get}
use Rattle.std.specs.HashMap.{get}
use Rattle.std.specs.HashSet.{HashSet, contains}
use Rattle.loom_pins.specs.declared.slot.Slot.{Slot}
use Rattle.loom_pins.specs.declared.slot.CouplerPins.{CouplerPins}
use Rattle.loom_pins.specs.declared.holders.Holders.{Holders}
use Rattle.loom_pins.specs.FirstFit.{Holds, IsFree}

-- what `==` of two pairs of numbers returns
abbrev pub pair_eq : ℕ × ℕ → ℕ × ℕ → Bool
pair_eq x y = x.0 == y.0 && x.1 == y.1

-- the last of the first n slots that is one of the coupler and has the pin, if there is one
abbrev pub IsLast : List Slot → List ℕ → ℕ → ℕ → ℕ → Option ℕ → Type 0
IsLast slots pins coupler pin n None = (at : ℕ) (slot : Slot) → at < n → Holds slots pins coupler pin at slot → ⊥
IsLast slots pins coupler pin n (Some last) =
    (last < n) × ((slot : Slot) × Holds slots pins coupler pin last slot)
    × ((at : ℕ) (slot : Slot) → at < n → Holds slots pins coupler pin at slot → at ≤ last)

-- each pin of a coupler leads to the last slot that has it, and from each slot on to the one before it that has its pin
pub record AreHolders (slots : List Slot) (holders : Holders) : Type 0 where
  pub apiece : length holders.earlier ≡ length holders.pins
  pub within : length holders.pins ≤ length slots
  pub newest : (coupler pin : ℕ) → IsLast slots holders.pins coupler pin (length holders.pins) (get pair_eq holders.newest (coupler, pin))
  pub earlier : (at coupler pin : ℕ) (slot : Slot) (link : Option ℕ) → Holds slots holders.pins coupler pin at slot
      → slice_get holders.earlier at ≡ Some link → IsLast slots holders.pins coupler pin at link

-- under the coupler's number the set has exactly its reserved pins
abbrev pub IsReservedAt : {S : Type 0} → CouplerPins → ℕ → HashSet (ℕ × ℕ) S → Type 0
IsReservedAt coupler number reserved = (pin : ℕ) → (contains pair_eq reserved (number, pin) ≡ true) ↔ Contains coupler.reserved pin

-- so for each of the couplers
abbrev pub AreReserved : {S : Type 0} → List CouplerPins → HashSet (ℕ × ℕ) S → Type 0
AreReserved couplers reserved =
    (number : ℕ) (coupler : CouplerPins) → slice_get couplers number ≡ Some coupler → IsReservedAt coupler number reserved

-- the slot may have no pin before this one
abbrev pub ArePassed : CouplerPins → List Slot → List ℕ → ℕ → Slot → ℕ → Type 0
ArePassed coupler slots pins at slot first = (pin : ℕ) → IsFree coupler slots pins at slot pin → first ≤ pin
