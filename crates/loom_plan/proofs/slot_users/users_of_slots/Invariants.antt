use Rattle.std.proofs.Common.{take}
use Rattle.loom_plan.specs.SlotUsers.{AreUsers}
use Rattle.loom_plan.proofs.slot_users.users_of_slots.Given as goal

abbrev pub invariant-loop-set : goal.invariant-loop-set
invariant-loop-set l = AreUsers l.topology (take l.set-index l.laid) l.users
