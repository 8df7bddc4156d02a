use Rattle.std.specs.Prelude.{ℕ, Bool, Some, ◌≡◌, ◌<◌, ◌≤◌, map, AllPairs, Contains, slice_get}
use Rattle.loom_project.specs.declared.draft.Draft.{Draft}
use Rattle.loom_project.specs.Project.{topology_of}
use Rattle.loom_types.specs.declared.plan.Plan.{Plan}
use Rattle.loom_types.specs.declared.plan.PinLine.{PinLine}
use Rattle.loom_types.specs.Slots.{Slot, IsSlotOf, IsSlotBefore, slot_of}
use Rattle.loom_active.specs.RightPlan.{IsFreePin}
use Rattle.loom_active.specs.Usages.{IsUsed}

-- a pin is taken for the slot of a line: an earlier line gives it to a slot of the same coupler, and some choice makes both used
pub record IsTakenPin (draft : Draft) (plan : Plan) (at : ℕ) (line : PinLine) (pin : ℕ) : Type 0 where
  pub earlier : ℕ
  pub before : earlier < at
  pub holder : PinLine
  pub stands : slice_get plan.pins earlier ≡ Some holder
  pub of_coupler : holder.coupler.0 ≡ line.coupler.0
  pub has_pin : holder.pin ≡ pin
  pub choice : ℕ → Bool
  pub uses_holder : IsUsed draft plan choice (slot_of holder)
  pub uses_this : IsUsed draft plan choice (slot_of line)

-- the pin of a line is the least one of its coupler that isn't reserved and isn't taken
pub record IsFittedPin (draft : Draft) (plan : Plan) (at : ℕ) (line : PinLine) : Type 0 where
  pub free : IsFreePin draft line.coupler.0 line.pin
  pub untaken : IsTakenPin draft plan at line line.pin → ⊥
  pub least : (pin : ℕ) → IsFreePin draft line.coupler.0 pin → (IsTakenPin draft plan at line pin → ⊥) → line.pin ≤ pin

-- the printed pins: a line for each slot of the printed layouts, in order of slots, with its pin by first fit
pub record ArePlanPins (draft : Draft) (plan : Plan) : Type 0 where
  pub order : AllPairs IsSlotBefore (map slot_of plan.pins)
  pub each : (slot : Slot) → IsSlotOf (topology_of draft) plan.sets slot → (line : PinLine) × Contains plan.pins line × (slot_of line ≡ slot)
  pub only : (line : PinLine) → Contains plan.pins line → IsSlotOf (topology_of draft) plan.sets (slot_of line)
  pub fitted : (at : ℕ) (line : PinLine) → slice_get plan.pins at ≡ Some line → IsFittedPin draft plan at line
