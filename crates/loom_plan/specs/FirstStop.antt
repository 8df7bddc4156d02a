use Rattle.std.specs.Prelude.{ℕ, List, Some, ◌≡◌, ◌<◌, ◌≤◌, ◌++◌, ◌⊎◌, length, slice_get}
use Rattle.loom_base.specs.declared.limits.Which.{Which}
use Rattle.loom_base.specs.declared.limits.Which.TheVariants as limits
use Rattle.loom_project.specs.declared.draft.Draft.{Draft}
use Rattle.loom_rows.specs.Condition.{Meaning}
use Rattle.loom_types.specs.declared.plan.TableLine.{TableLine}
use Rattle.loom_types.specs.declared.stop.PlanStop.{PlanStop}
use Rattle.loom_types.specs.declared.stop.PlanStop.TheVariants.{NoChoice, Clash, Unreachable, NoPin, Limit, NoMemory}
use Rattle.loom_types.specs.declared.wire.Wire.{Wire}
use Rattle.loom_types.specs.Slots.{Slot}
use Rattle.loom_active.specs.declared.live.LiveSet.{LiveSet}
use Rattle.loom_active.specs.declared.stop.ActiveStop.TheVariants as active
use Rattle.loom_active.specs.Valid.{SomeIsValid, NeedTooManyRows}
use Rattle.loom_active.specs.Clash.{HasNoClash}
use Rattle.loom_active.specs.LiveWork.{live_worked}
use Rattle.loom_active.specs.LiveStops.{IsLiveStop, HaveMoreSets}
use Rattle.loom_laid.specs.declared.laid_set.LaidSet.{LaidSet}
use Rattle.loom_laid.specs.declared.stop.LaidStop.{LaidStop}
use Rattle.loom_laid.specs.declared.stop.LaidStop.TheVariants as laid
use Rattle.loom_laid.specs.LaidSets.{AreTheLiveSets, AreTables, AreLaid, steps_of}
use Rattle.loom_laid.specs.LaidStops.{FitCells, AreAllReached, IsLaidStop}
use Rattle.loom_pins.specs.declared.slot.Slot.{Slot as PinSlot}
use Rattle.loom_pins.specs.FirstFit.{ArePins, IsFirstWithout}
use Rattle.loom_plan.specs.Work.{AreSlots, AreUsages, usages_worked, couplers_of, pin_lines, AreWiresOf, wires_worked}

-- the live sets are found: some choice is valid, there is no clash, and neither sets nor rows are too many
pub record FindsSets (draft : Draft) : Type 0 where
  pub some_choice : SomeIsValid draft
  pub clear : HasNoClash draft
  pub few_sets : HaveMoreSets draft (length draft.nets) 16384 → ⊥
  pub few_rows : NeedTooManyRows (live_worked draft) → ⊥

-- the live sets are laid out: neither cells nor steps are too many, and each set is reached
pub record LaysSets (draft : Draft) (laid : List LaidSet) : Type 0 where
  pub found : FindsSets draft
  pub few_cells : FitCells draft
  pub reached : AreAllReached draft
  pub sets : List LiveSet
  pub are_sets : AreTheLiveSets draft sets
  pub tables : List TableLine
  pub are_tables : AreTables draft tables
  pub are_laid : AreLaid draft tables sets laid
  pub few_steps : steps_of laid ≤ 1000000

-- what is worked out up to the usages of the slots
abbrev pub worked_for_pins : Draft → List LaidSet → List Slot → List Meaning
worked_for_pins draft laid slots = live_worked draft ++ usages_worked draft laid slots

-- the usages of the slots are worked out
pub record WorksUsages (draft : Draft) (laid : List LaidSet) (slots : List Slot) : Type 0 where
  pub lays : LaysSets draft laid
  pub are_slots : AreSlots draft laid slots
  pub few_rows : NeedTooManyRows (worked_for_pins draft laid slots) → ⊥

-- first fit has a pin for each slot
pub record FindsPins (draft : Draft) (laid : List LaidSet) (slots : List Slot) (pins : List ℕ) : Type 0 where
  pub works : WorksUsages draft laid slots
  pub used : List PinSlot
  pub are_used : AreUsages draft laid slots used
  pub are_pins : ArePins (couplers_of draft) used pins

-- the wires are cut, and there are not too many
pub record CutsWires (draft : Draft) (laid : List LaidSet) (slots : List Slot) (pins : List ℕ) (wires : List Wire) : Type 0 where
  pub found : FindsPins draft laid slots pins
  pub are_wires : AreWiresOf draft (pin_lines slots pins) laid wires
  pub few_wires : length wires ≤ 65536

-- what is worked out up to the conditions of the wires
abbrev pub worked_for_wires : Draft → List LaidSet → List Slot → List ℕ → List Wire → List Meaning
worked_for_wires draft laid slots pins wires = worked_for_pins draft laid slots ++ wires_worked draft (pin_lines slots pins) laid wires

-- nothing stops the planning
pub record HasPlan (draft : Draft) : Type 0 where
  pub laid : List LaidSet
  pub slots : List Slot
  pub pins : List ℕ
  pub wires : List Wire
  pub cuts : CutsWires draft laid slots pins wires
  pub few_rows : NeedTooManyRows (worked_for_wires draft laid slots pins wires) → ⊥

-- the layouts of the live sets stop so
pub record StopsLaying (draft : Draft) (stop : LaidStop) : Type 0 where
  pub found : FindsSets draft
  pub sets : List LiveSet
  pub are_sets : AreTheLiveSets draft sets
  pub stops : IsLaidStop draft sets stop

-- the usages of slots need too many rows
pub record PassesRowsForPins (draft : Draft) : Type 0 where
  pub laid : List LaidSet
  pub slots : List Slot
  pub lays : LaysSets draft laid
  pub are_slots : AreSlots draft laid slots
  pub many : NeedTooManyRows (worked_for_pins draft laid slots)

-- the slot is the first for which first fit has no pin
pub record LacksPin (draft : Draft) (slot : Slot) : Type 0 where
  pub laid : List LaidSet
  pub slots : List Slot
  pub works : WorksUsages draft laid slots
  pub used : List PinSlot
  pub are_used : AreUsages draft laid slots used
  pub at : ℕ
  pub is_first : IsFirstWithout (couplers_of draft) used at
  pub stands : slice_get slots at ≡ Some slot

-- there are more wires than a plan may have
pub record PassesWires (draft : Draft) : Type 0 where
  pub laid : List LaidSet
  pub slots : List Slot
  pub pins : List ℕ
  pub wires : List Wire
  pub found : FindsPins draft laid slots pins
  pub are_wires : AreWiresOf draft (pin_lines slots pins) laid wires
  pub many : 65536 < length wires

-- the conditions of the wires need too many rows
pub record PassesRowsForWires (draft : Draft) : Type 0 where
  pub laid : List LaidSet
  pub slots : List Slot
  pub pins : List ℕ
  pub wires : List Wire
  pub cuts : CutsWires draft laid slots pins wires
  pub many : NeedTooManyRows (worked_for_wires draft laid slots pins wires)

-- a limit that is passed once the live sets are found
abbrev pub PassesLimit : Draft → Which → ℕ → Type 0
PassesLimit draft which count =
    ((which ≡ limits.Cells) × (count ≡ 2097153) × StopsLaying draft laid.TooManyCells)
    ⊎ ((which ≡ limits.Steps) × (count ≡ 1000001) × StopsLaying draft laid.TooManySteps)
    ⊎ ((which ≡ limits.Wires) × (count ≡ 65537) × PassesWires draft)
    ⊎ ((which ≡ limits.Rows) × (count ≡ 262145) × (PassesRowsForPins draft ⊎ PassesRowsForWires draft))

-- the planning of a project stops so, at the first of these: a stop of the search for live sets; too many cells; the first live set with a
-- cavity that isn't reached; too many steps; too many rows for the slots' usages; the first slot without a pin; too many wires; too many
-- rows for the wires. Memory may run out at any time
abbrev pub FirstStop : Draft → PlanStop → Type 0
FirstStop draft NoChoice = IsLiveStop draft active.NoChoice
FirstStop draft (Clash cavity first second choice) = IsLiveStop draft (active.Clash cavity first second choice)
FirstStop draft (Unreachable net cavity reached) = StopsLaying draft (laid.Unreachable net cavity reached)
FirstStop draft (NoPin net coupler ordinal) = LacksPin draft (record { net = net.0; coupler = coupler.0; ordinal = ordinal })
FirstStop draft (Limit which count) = IsLiveStop draft (active.Limit which count) ⊎ PassesLimit draft which count
FirstStop draft NoMemory = Unit {0}
