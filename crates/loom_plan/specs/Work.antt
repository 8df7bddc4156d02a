use Rattle.std.specs.Prelude.{ℕ, List, [], ◌∷◌, ◌≡◌, ◌==◌, ◌&&◌, map, filter, AllPairs, Contains}
use Rattle.std.specs.List.{list_any, flat_map}
use Rattle.loom_project.specs.declared.draft.Draft.{Draft}
use Rattle.loom_project.specs.Draft.{pins_of}
use Rattle.loom_project.specs.Project.{topology_of, cavities_of}
use Rattle.loom_rows.specs.Condition.{Meaning, value}
use Rattle.loom_rows.specs.Disjunction.{some_hold, any_worked}
use Rattle.loom_rows.specs.Leftovers.{AreSame}
use Rattle.loom_types.specs.declared.plan.PinLine.{PinLine}
use Rattle.loom_types.specs.declared.plan.SetLine.{SetLine}
use Rattle.loom_types.specs.declared.wire.Wire.{Wire}
use Rattle.loom_types.specs.Laws.{set_wires}
use Rattle.loom_types.specs.PinLines.{pin_in}
use Rattle.loom_types.specs.Slots.{Slot, IsSlotOf, has_slot, IsSlotBefore}
use Rattle.loom_types.specs.WireOrder.{IsWireBefore}
use Rattle.loom_active.specs.Needs.{is_valid_for}
use Rattle.loom_active.specs.LiveSets.{need_mask}
use Rattle.loom_laid.specs.declared.laid_set.LaidSet.{LaidSet}
use Rattle.loom_pins.specs.declared.slot.Slot.{Slot as PinSlot}
use Rattle.loom_pins.specs.declared.slot.CouplerPins.{CouplerPins}
use Rattle.loom_wires.specs.Wires.{is_same_wire}

-- a laid set as it is printed, but for its row
abbrev pub line_of : LaidSet → SetLine
line_of set = record { net = set.net; mask = set.mask; cost = set.cost; row = 0; layout = set.layout }

-- the slots of the layouts, in order
pub record AreSlots (draft : Draft) (laid : List LaidSet) (slots : List Slot) : Type 0 where
  pub order : AllPairs IsSlotBefore slots
  pub each : (slot : Slot) → Contains slots slot → IsSlotOf (topology_of draft) (map line_of laid) slot
  pub all : (slot : Slot) → IsSlotOf (topology_of draft) (map line_of laid) slot → Contains slots slot

-- that the choice is valid and the net needs exactly this set
abbrev pub set_live : Draft → LaidSet → Meaning
set_live draft set choice = is_valid_for draft choice && need_mask draft choice set.net.0 == set.mask

-- when the sets are live whose layouts have a slot, set by set
abbrev pub users_of_slot : Draft → List LaidSet → Slot → List Meaning
users_of_slot draft laid slot = map (set_live draft) (filter (λ set. has_slot (line_of set) slot) laid)

-- what is worked out for slots, in order: for each the disjunctions of its sets' conditions
abbrev pub usages_worked : Draft → List LaidSet → List Slot → List Meaning
usages_worked draft laid slots = flat_map (λ slot. any_worked (users_of_slot draft laid slot)) slots

-- a slot as first fit takes it, without its condition
abbrev pub slot_at : PinSlot → Slot
slot_at slot = record { net = slot.net.0; coupler = slot.coupler.0; ordinal = slot.ordinal }

-- the slots with conditions that hold exactly where some set is live whose layout has the slot
pub record AreUsages (draft : Draft) (laid : List LaidSet) (slots : List Slot) (used : List PinSlot) : Type 0 where
  pub slots_are : map slot_at used ≡ slots
  pub usage : (slot : PinSlot) → Contains used slot → AreSame (value slot.usage) (some_hold (users_of_slot draft laid (slot_at slot)))

-- the pins of each segment, and which are reserved
abbrev pub couplers_of : Draft → List CouplerPins
couplers_of draft = map (λ segment. record { pins = pins_of segment.kind; reserved = segment.reserved }) draft.segments

abbrev pub pin_line : Slot → ℕ → PinLine
pin_line slot pin =
    record { net = record { 0 = slot.net }; coupler = record { 0 = slot.coupler }; ordinal = slot.ordinal; pin = pin }

-- the printed lines of slots and their pins
abbrev pub pin_lines : List Slot → List ℕ → List PinLine
pin_lines [] pins = []
pin_lines (slot ∷ slots) [] = []
pin_lines (slot ∷ slots) (pin ∷ pins) = pin_line slot pin ∷ pin_lines slots pins

-- the wires of a set's layout, with the pins of these lines
abbrev pub wires_of_layout : Draft → List PinLine → LaidSet → List Wire
wires_of_layout draft lines set =
    set_wires (topology_of draft) set.net.0 (pin_in lines set.net.0) (cavities_of draft set.net.0) set.mask set.layout

-- the wires of the layouts, each once, by net, from, to and route
pub record AreWiresOf (draft : Draft) (lines : List PinLine) (laid : List LaidSet) (wires : List Wire) : Type 0 where
  pub order : AllPairs IsWireBefore wires
  pub each : (w : Wire) → Contains wires w → (set : LaidSet) × Contains laid set × Contains (wires_of_layout draft lines set) w
  pub all : (set : LaidSet) (w : Wire) → Contains laid set → Contains (wires_of_layout draft lines set) w → Contains wires w

-- when the sets are live whose layouts have a wire, set by set
abbrev pub users_of_wire : Draft → List PinLine → List LaidSet → Wire → List Meaning
users_of_wire draft lines laid w =
    map (set_live draft) (filter (λ set. list_any (is_same_wire w) (wires_of_layout draft lines set)) laid)

-- what is worked out for wires, in order: for each the disjunctions of its sets' conditions
abbrev pub wires_worked : Draft → List PinLine → List LaidSet → List Wire → List Meaning
wires_worked draft lines laid wires = flat_map (λ w. any_worked (users_of_wire draft lines laid w)) wires
