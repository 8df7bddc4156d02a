use Rattle.std.specs.Prelude.{ℕ, List, [], ◌∷◌, ◌++◌, ◌≡◌, ◌<◌, ◌≤◌, map, take, drop, length, AllPairs, Contains}
use Rattle.std.specs.List.{All}
use Rattle.loom_base.specs.declared.positions.CavityNo.{CavityNo}
use Rattle.loom_topology.specs.Legal.{chosen}
use Rattle.loom_project.specs.declared.draft.Draft.{Draft}
use Rattle.loom_project.specs.Project.{topology_of, cavities_of}
use Rattle.loom_rows.specs.declared.cond.Cond.{Cond}
use Rattle.loom_rows.specs.Condition.{Meaning, value}
use Rattle.loom_rows.specs.Table.{Table, Has, IsSound}
use Rattle.loom_rows.specs.Leftovers.{AreSame, StandsFor}
use Rattle.loom_rows.specs.RowLists.{AreOptionsBelow}
use Rattle.loom_rows.specs.Printed.{IsPrinted}
use Rattle.loom_types.specs.declared.plan.Plan.{Plan}
use Rattle.loom_types.specs.declared.plan.PinLine.{PinLine}
use Rattle.loom_types.specs.declared.plan.SetLine.{SetLine}
use Rattle.loom_types.specs.declared.wire.Wire.{Wire}
use Rattle.loom_types.specs.Modules.{modules_of}
use Rattle.loom_types.specs.Slots.{Slot}
use Rattle.loom_active.specs.declared.live.LiveSet.{LiveSet}
use Rattle.loom_active.specs.Valid.{NeedTooManyRows}
use Rattle.loom_active.specs.LiveWork.{live_worked}
use Rattle.loom_active.specs.LiveSets.{IsLiveSet, IsListedBefore}
use Rattle.loom_active.specs.FoundSets.{AreLiveSets}
use Rattle.loom_laid.specs.declared.laid_set.LaidSet.{LaidSet}
use Rattle.loom_laid.specs.declared.laid_set.Laid.{Laid}
use Rattle.loom_laid.specs.LaidSets.{AreTables, IsLaid}
use Rattle.loom_pins.specs.declared.slot.Slot.{Slot as PinSlot}
use Rattle.loom_pins.specs.FirstFit.{ArePins}
use Rattle.loom_wires.specs.declared.cut_wire.CutWire.{CutWire}
use Rattle.loom_wires.specs.declared.laid_set.LaidSet.{LaidSet as WireSet}
use Rattle.loom_wires.specs.Wires.{bare_of, AreCut}
use Rattle.loom_plan.specs.Work.{AreUsages, couplers_of, pin_lines, slot_at, set_live}
use Rattle.loom_plan.specs.FirstStop.{FindsSets, LaysSets, WorksUsages, FindsPins, CutsWires, worked_for_pins, worked_for_wires}

-- the rows of the job, which stand for what was worked out
pub record IsJob (draft : Draft) (t : Table) (worked : List Meaning) : Type 0 where
  pub options : t.options ≡ length draft.options
  pub limit : t.limit ≡ 262144
  pub sound : IsSound t
  pub stands : StandsFor t worked

-- after the search: the live sets are found
pub record HasFound (draft : Draft) (t : Table) (sets : List LiveSet) : Type 0 where
  pub found : FindsSets draft
  pub job : IsJob draft t (live_worked draft)
  pub live : AreLiveSets draft t sets
  pub few : length sets ≤ 16384

-- the laid sets are the live sets, each once, by net, then mask, with a condition of the table that holds exactly where the set is live
pub record AreLiveLaid (draft : Draft) (t : Table) (laid : List LaidSet) : Type 0 where
  pub order : AllPairs (λ one other. IsListedBefore one.net.0 one.mask other.net.0 other.mask) laid
  pub each : (set : LaidSet) → Contains laid set → IsLiveSet draft set.net.0 set.mask
  pub all : (net mask : ℕ) → IsLiveSet draft net mask → (set : LaidSet) × Contains laid set × (set.net.0 ≡ net) × (set.mask ≡ mask)
  pub has : (set : LaidSet) → Contains laid set → Has t set.cond
  pub condition : (set : LaidSet) → Contains laid set → AreSame (value set.cond) (set_live draft set)

-- the live sets are laid out, with the tables of their nets
pub record HasLaid (draft : Draft) (t : Table) (laid : Laid) : Type 0 where
  pub live : AreLiveLaid draft t laid.sets
  pub lays : LaysSets draft laid.sets
  pub tables : AreTables draft laid.tables
  pub each : All (IsLaid draft laid.tables) laid.sets
  pub few : length laid.sets ≤ 16384

-- the slots have conditions of the table, which hold exactly where they are used
pub record HasUsed (draft : Draft) (t : Table) (laid : List LaidSet) (used : List PinSlot) : Type 0 where
  pub job : IsJob draft t (worked_for_pins draft laid (map slot_at used))
  pub works : WorksUsages draft laid (map slot_at used)
  pub usages : AreUsages draft laid (map slot_at used) used
  pub has : All (λ slot. Has t slot.usage) used
  pub couplers : All (λ slot. slot.coupler.0 < length draft.segments) used
  pub few : length used ≤ 1000000

-- the lines give the slots the pins of first fit
pub record ArePinLines (draft : Draft) (used : List PinSlot) (lines : List PinLine) : Type 0 where
  pub pins : List ℕ
  pub are_pins : ArePins (couplers_of draft) used pins
  pub lines_are : lines ≡ pin_lines (map slot_at used) pins

-- each slot of the layouts has its pin, by these lines
pub record HasPinned (draft : Draft) (t : Table) (laid : List LaidSet) (lines : List PinLine) : Type 0 where
  pub slots : List Slot
  pub pins : List ℕ
  pub job : IsJob draft t (worked_for_pins draft laid slots)
  pub found : FindsPins draft laid slots pins
  pub lines_are : lines ≡ pin_lines slots pins

abbrev pub cavity_no : ℕ → CavityNo
cavity_no c = record { 0 = c }

-- a laid set as it is cut into wires: with the cavities of the set
abbrev pub wired_of : Draft → LaidSet → WireSet
wired_of draft set =
    record {
      net = set.net;
      mask = set.mask;
      cond = set.cond;
      cavities = map cavity_no (chosen (cavities_of draft set.net.0) set.mask);
      layout = set.layout;
    }

-- the layouts are cut into wires, and nothing stops the planning
pub record HasCut (draft : Draft) (t : Table) (laid : List LaidSet) (lines : List PinLine) (wires : List CutWire) : Type 0 where
  pub slots : List Slot
  pub pins : List ℕ
  pub cuts : CutsWires draft laid slots pins (map bare_of wires)
  pub few_rows : NeedTooManyRows (worked_for_wires draft laid slots pins (map bare_of wires)) → ⊥
  pub lines_are : lines ≡ pin_lines slots pins
  pub are_cut : AreCut (topology_of draft) lines (map (wired_of draft) laid) t wires

-- the conditions that are printed: those of the sets, then those of the wires
abbrev pub conditions_of : List LaidSet → List CutWire → List Cond
conditions_of laid wires = map (λ set. set.cond) laid ++ map (λ w. w.cond) wires

-- a laid set and a wire as they are printed, with the number of their condition
abbrev pub set_line : LaidSet → ℕ → SetLine
set_line set number = record { net = set.net; mask = set.mask; cost = set.cost; row = number; layout = set.layout }

abbrev pub wire_line : CutWire → ℕ → Wire
wire_line w number = record { net = w.net; from = w.from; to = w.to; route = w.route; length = w.length; row = number }

-- each element as it is printed with the number at its place
abbrev pub numbered : {A B : Type 0} → (A → ℕ → B) → List A → List ℕ → List B
numbered line [] numbers = []
numbered line (x ∷ xs) [] = []
numbered line (x ∷ xs) (number ∷ numbers) = line x number ∷ numbered line xs numbers

-- the plan prints these sets, tables, pins and wires, with their conditions' rows and the wires' modules
pub record Prints (draft : Draft) (options : ℕ) (laid : Laid) (lines : List PinLine) (wires : List CutWire) (plan : Plan) : Type 0 where
  pub numbers : List ℕ
  pub printed : IsPrinted (map value (conditions_of laid.sets wires)) plan.rows numbers
  pub options_below : AreOptionsBelow options plan.rows
  pub sets_are : plan.sets ≡ numbered set_line laid.sets (take (length laid.sets) numbers)
  pub wires_are : plan.wires ≡ numbered wire_line wires (drop (length laid.sets) numbers)
  pub tables_are : plan.tables ≡ laid.tables
  pub pins_are : plan.pins ≡ lines
  pub modules_are : plan.modules ≡ modules_of (topology_of draft) plan.wires
