-- Each set is added in turn.
use Rattle.std.proofs.Common.{◌<◌, List, length, sym, subst, arith}
use Rattle.std.specs.List.{All}
use Rattle.std.proofs.lemmas.List.{take_all}
use Rattle.loom_laid.specs.declared.laid_set.LaidSet.{LaidSet}
use Rattle.loom_plan.specs.SlotUsers.{AreUsers}
use Rattle.loom_plan.proofs.SlotUserSteps.{users-init, set-few, users-next}
use Rattle.loom_plan.proofs.slot_users.users_of_slots.Goals as goal

pub loop-set-init : goal.loop-set-init
loop-set-init c = users-init c.args.topology.now c.new-users.result c.new-users.ensures.empty c.new-users.ensures.ordered

pub add_set-requires-clause-segments : goal.add_set-requires-clause-segments
add_set-requires-clause-segments c =
    subst (λ (s : LaidSet). All (λ step. step.1.0 < length c.args.topology.now.segments) s.layout.steps) (sym c.set-item.is)
    (c.requires.segments c.loop-set.set-index c.set-item.result c.loop-set-test.true)

pub add_set-requires-clause-few : goal.add_set-requires-clause-few
add_set-requires-clause-few c = set-few c.args.laid.now c.loop-set.set-index c.set-item.result c.loop-set-test.true c.set-item.is c.requires.few_steps

pub loop-set-preserved : goal.loop-set-preserved
loop-set-preserved c =
    users-next c.args.topology.now c.args.laid.now c.loop-set.set-index c.set-item.result c.loop-set-test.true c.set-item.is c.loop-set.users c.add_set.new.users c.loop-set.invariant c.in_ok-add_set.ensures

pub returns : goal.returns
returns c =
    subst (λ (l : List LaidSet). AreUsers c.args.topology.now l c.loop-set.users)
    (take_all c.loop-set.set-index c.args.laid.now (omega (arith, c.loop-set-test.false))) c.loop-set.invariant
