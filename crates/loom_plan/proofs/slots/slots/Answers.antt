-- The slots with their conditions, and then the usages.
use Rattle.std.proofs.Common.{◌<◌, ◌≤◌, ℕ, List, length, map, sym, subst}
use Rattle.std.specs.List.{All}
use Rattle.std.proofs.lemmas.Result.{IfOk-weaker}
use Rattle.loom_topology.specs.Topology.{TopologyView}
use Rattle.loom_pins.specs.declared.slot.Slot.{Slot}
use Rattle.loom_plan.specs.SlotUsers.{AreUsers, AreJoined}
use Rattle.loom_plan.specs.Work.{AreSlots, AreUsages, slot_at}
use Rattle.loom_plan.proofs.SlotFacts.{users-had, slots-are, usages-are, few-slots, couplers-within}
use Rattle.loom_plan.proofs.SlotRows.{usages-stand, usages-fit, usages-many}
use Rattle.loom_plan.proofs.slots.slots.Goals as goal

pub with_usages-requires-clause-has : goal.with_usages-requires-clause-has
with_usages-requires-clause-has c = users-had c.topology.result.now c.args.laid.now c.in_ok-users.users c.in_ok-users.ensures c.args.rows.now c.requires.has

pub returns-clause-slots : goal.returns-clause-slots
returns-clause-slots c =
    IfOk-weaker c.with_usages.result (AreJoined c.in_ok-users.users.entries) (λ used. AreSlots c.args.project.now c.args.laid.now (map slot_at used))
    (slots-are c.args.project.now c.args.laid.now c.in_ok-users.users
    (subst (λ (t : TopologyView). AreUsers t c.args.laid.now c.in_ok-users.users) c.topology.ensures.topology c.in_ok-users.ensures))
    c.with_usages.ensures.joined

pub returns-clause-usages : goal.returns-clause-usages
returns-clause-usages c =
    IfOk-weaker c.with_usages.result (AreJoined c.in_ok-users.users.entries) (λ used. AreUsages c.args.project.now c.args.laid.now (map slot_at used) used)
    (λ used joined.
    usages-are c.args.project.now c.args.laid.now c.in_ok-users.users
    (subst (λ (t : TopologyView). AreUsers t c.args.laid.now c.in_ok-users.users) c.topology.ensures.topology c.in_ok-users.ensures)
    used joined c.requires.conditions)
    c.with_usages.ensures.joined

pub returns-clause-few : goal.returns-clause-few
returns-clause-few c =
    IfOk-weaker c.with_usages.result (AreJoined c.in_ok-users.users.entries) (λ (used : List Slot). length used ≤ 1000000)
    (λ used joined.
    few-slots c.args.project.now c.args.laid.now c.in_ok-users.users
    (subst (λ (t : TopologyView). AreUsers t c.args.laid.now c.in_ok-users.users) c.topology.ensures.topology c.in_ok-users.ensures)
    used joined c.requires.few_steps)
    c.with_usages.ensures.joined

pub returns-clause-couplers : goal.returns-clause-couplers
returns-clause-couplers c =
    IfOk-weaker c.with_usages.result (AreJoined c.in_ok-users.users.entries) (All (λ (slot : Slot). slot.coupler.0 < length c.args.project.now.segments))
    (λ used joined.
    subst (λ (n : ℕ). All (λ (slot : Slot). slot.coupler.0 < n) used) c.topology.ensures.segments
    (subst (λ (t : TopologyView). All (λ (slot : Slot). slot.coupler.0 < length t.segments) used) (sym c.topology.ensures.topology)
    (couplers-within c.args.project.now c.args.laid.now c.in_ok-users.users
    (subst (λ (t : TopologyView). AreUsers t c.args.laid.now c.in_ok-users.users) c.topology.ensures.topology c.in_ok-users.ensures)
    used joined)))
    c.with_usages.ensures.joined

pub returns-clause-stands : goal.returns-clause-stands
returns-clause-stands c worked stands =
    usages-stand c.args.project.now c.args.laid.now c.in_ok-users.users
    (subst (λ (t : TopologyView). AreUsers t c.args.laid.now c.in_ok-users.users) c.topology.ensures.topology c.in_ok-users.ensures)
    c.requires.conditions worked c.args.rows.now c.with_usages.new.rows stands c.with_usages.result c.with_usages.ensures.joined c.with_usages.ensures.works

pub returns-clause-few_rows : goal.returns-clause-few_rows
returns-clause-few_rows c worked stands =
    usages-fit c.args.project.now c.args.laid.now c.in_ok-users.users
    (subst (λ (t : TopologyView). AreUsers t c.args.laid.now c.in_ok-users.users) c.topology.ensures.topology c.in_ok-users.ensures)
    c.requires.conditions worked c.args.rows.now c.with_usages.new.rows stands c.with_usages.result c.with_usages.ensures.joined c.with_usages.ensures.works

pub returns-clause-many_rows : goal.returns-clause-many_rows
returns-clause-many_rows c worked stands many =
    usages-many c.args.project.now c.args.laid.now c.in_ok-users.users
    (subst (λ (t : TopologyView). AreUsers t c.args.laid.now c.in_ok-users.users) c.topology.ensures.topology c.in_ok-users.ensures)
    c.requires.conditions worked c.args.rows.now c.with_usages.new.rows stands c.with_usages.result many c.with_usages.ensures.works
