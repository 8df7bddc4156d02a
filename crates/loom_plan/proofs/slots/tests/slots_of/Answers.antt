-- The table has the conditions of the sets.
use Rattle.loom_plan.proofs.SlotFacts.{users-had}
use Rattle.loom_plan.proofs.slots.tests.slots_of.Goals as goal

pub with_usages-requires-clause-has : goal.with_usages-requires-clause-has
with_usages-requires-clause-has c = users-had c.in_ok-topology.topology c.args.laid.now c.in_ok-users.users c.in_ok-users.ensures c.args.rows.now c.requires.has
