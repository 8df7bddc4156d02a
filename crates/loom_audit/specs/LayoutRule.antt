-- Each set's layout is a wiring tree of its cost; the pins' lines are the slots of the layouts; the wires rise; those that a layout gives are
-- its set's; and the modules are those of the wires.
use Rattle.std.specs.Prelude.{ℕ, List, Some, ◌≡◌, ◌+◌, AllPairs, Contains, IsPermutation, map, slice_get}
use Rattle.loom_project.specs.declared.draft.Draft.{Draft}
use Rattle.loom_project.specs.Project.{topology_of, net_topology, cavities_of}
use Rattle.loom_types.specs.declared.plan.Plan.{Plan}
use Rattle.loom_types.specs.declared.plan.Module.{Module}
use Rattle.loom_types.specs.declared.plan.PinLine.{PinLine}
use Rattle.loom_types.specs.declared.plan.SetLine.{SetLine}
use Rattle.loom_types.specs.declared.wire.Wire.{Wire}
use Rattle.loom_types.specs.Laws.{set_wires}
use Rattle.loom_types.specs.LayoutTree.{IsLaidOut, layout_cost}
use Rattle.loom_types.specs.LayoutWires.{bare}
use Rattle.loom_types.specs.Modules.{modules_of}
use Rattle.loom_types.specs.PinLines.{pin_in}
use Rattle.loom_types.specs.Slots.{Slot, IsSlotOf, IsSlotBefore, slot_of}
use Rattle.loom_types.specs.WireOrder.{IsWireBefore}
use Rattle.loom_audit.specs.declared.spot.PlanPart.TheVariants.{Sets, Pins, Wires, Modules}
use Rattle.loom_audit.specs.declared.spot.Spot.{Spot}
use Rattle.loom_audit.specs.FirstFailure.{Each, IsFirstWithout, Agree, DifferFirst}
use Rattle.loom_audit.specs.SetWires.{AreWiresOf}
use Rattle.loom_audit.specs.Spots.{line_at}

-- the set's steps and hangs are a wiring tree without a point of degree 1, of the printed cost
pub record IsLaidAtCost (draft : Draft) (set : SetLine) : Type 0 where
  pub laid : IsLaidOut (net_topology draft set.net.0) (cavities_of draft set.net.0) set.mask set.layout
  pub cost : layout_cost (net_topology draft set.net.0) (cavities_of draft set.net.0) set.mask set.layout ≡ set.cost

abbrev pub AreLaidAtCost : Draft → Plan → Type 0
AreLaidAtCost draft plan = Each (λ i set. IsLaidAtCost draft set) plan.sets

-- the slots of the printed layouts, in order
pub record AreSlotsOf (draft : Draft) (plan : Plan) (slots : List Slot) : Type 0 where
  pub order : AllPairs IsSlotBefore slots
  pub each : (slot : Slot) → Contains slots slot → IsSlotOf (topology_of draft) plan.sets slot
  pub all : (slot : Slot) → IsSlotOf (topology_of draft) plan.sets slot → Contains slots slot

abbrev pub IsLineOfSlot : Slot → PinLine → Type 0
IsLineOfSlot slot line = slot_of line ≡ slot

pub record HasPinLines (draft : Draft) (plan : Plan) : Type 0 where
  pub slots : List Slot
  pub are_slots : AreSlotsOf draft plan slots
  pub lines : Agree IsLineOfSlot slots plan.pins

-- each wire but the first comes after the one before it
abbrev pub IsAfterLast : Plan → ℕ → Wire → Type 0
IsAfterLast plan i w = (before : ℕ) (v : Wire) → before + 1 ≡ i → slice_get plan.wires before ≡ Some v → IsWireBefore v w

abbrev pub DoWiresRise : Plan → Type 0
DoWiresRise plan = Each (IsAfterLast plan) plan.wires

-- the wires that a set's layout gives with the printed pins
abbrev pub wires_of_layout : Draft → Plan → SetLine → List Wire
wires_of_layout draft plan set =
    set_wires (topology_of draft) set.net.0 (pin_in plan.pins set.net.0) (cavities_of draft set.net.0) set.mask set.layout

-- they are the set's wires, but for their rows
pub record AreOfLayout (draft : Draft) (plan : Plan) (set : SetLine) : Type 0 where
  pub wires : List Wire
  pub are_its : AreWiresOf plan set wires
  pub same : IsPermutation (wires_of_layout draft plan set) (map bare wires)

abbrev pub AreWiresOfLayouts : Draft → Plan → Type 0
AreWiresOfLayouts draft plan = Each (λ i set. AreOfLayout draft plan set) plan.sets

abbrev pub IsSameModule : Module → Module → Type 0
IsSameModule stated printed = stated ≡ printed

abbrev pub HasModules : Draft → Plan → Type 0
HasModules draft plan = Agree IsSameModule (modules_of (topology_of draft) plan.wires) plan.modules

pub record AreLayoutsTrue (draft : Draft) (plan : Plan) : Type 0 where
  pub laid : AreLaidAtCost draft plan
  pub pins : HasPinLines draft plan
  pub rise : DoWiresRise plan
  pub wires : AreWiresOfLayouts draft plan
  pub modules : HasModules draft plan

-- the first failure, in this order
pub data LayoutsFailAt (draft : Draft) (plan : Plan) : Spot → Type 0 where
  laid : (at : ℕ) → IsFirstWithout (λ i set. IsLaidAtCost draft set) plan.sets at → LayoutsFailAt draft plan (line_at Sets at)
  pin : (at : ℕ) (slots : List Slot) → AreLaidAtCost draft plan → AreSlotsOf draft plan slots
      → DifferFirst IsLineOfSlot slots plan.pins at → LayoutsFailAt draft plan (line_at Pins at)
  order : (at : ℕ) → AreLaidAtCost draft plan → HasPinLines draft plan
      → IsFirstWithout (IsAfterLast plan) plan.wires at → LayoutsFailAt draft plan (line_at Wires at)
  wires : (at : ℕ) → AreLaidAtCost draft plan → HasPinLines draft plan → DoWiresRise plan
      → IsFirstWithout (λ i set. AreOfLayout draft plan set) plan.sets at → LayoutsFailAt draft plan (line_at Sets at)
  module_ : (at : ℕ) → AreLaidAtCost draft plan → HasPinLines draft plan → DoWiresRise plan → AreWiresOfLayouts draft plan
      → DifferFirst IsSameModule (modules_of (topology_of draft) plan.wires) plan.modules at → LayoutsFailAt draft plan (line_at Modules at)
