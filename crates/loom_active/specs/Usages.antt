use Rattle.std.specs.Prelude.{ℕ, Bool, IsTrue, Contains}
use Rattle.loom_project.specs.declared.draft.Draft.{Draft}
use Rattle.loom_types.specs.declared.plan.Plan.{Plan}
use Rattle.loom_types.specs.declared.plan.SetLine.{SetLine}
use Rattle.loom_types.specs.Slots.{Slot, has_slot}
use Rattle.loom_active.specs.LiveSets.{IsLiveUnder}

-- the slot is used under a choice: a printed set that is live under it has the slot
pub record IsUsed (draft : Draft) (plan : Plan) (choice : ℕ → Bool) (slot : Slot) : Type 0 where
  pub set : SetLine
  pub printed : Contains plan.sets set
  pub live : IsLiveUnder draft choice set.net.0 set.mask
  pub has : IsTrue (has_slot set slot)
