-- The cavities are gone over in order.
use Rattle.std.proofs.Common.{List, length, sym, ap, subst, arith}
use Rattle.loom_project.specs.declared.draft.Draft.{Draft}
use Rattle.loom_rows.specs.Table.{Table}
use Rattle.loom_active.specs.declared.clash.User.{User}
use Rattle.loom_active.specs.Users.{HasUsers, IsFirstPair}
use Rattle.loom_active.proofs.ClashLemmas.{users-have, pair-has, first-clash, no-clash}
use Rattle.loom_active.proofs.UserSteps.{found-users}
use Rattle.loom_active.proofs.clash.first_clash.Goals as goal

pub users_of-requires-clause-in_range : goal.users_of-requires-clause-in_range
users_of-requires-clause-in_range c = λ net k terminals terminal at_net at.
    omega (arith, (c.requires.terminals net terminals at_net).in_range k terminal at, c.len.ensures, ap (λ (d : Draft). length d.cavities) c.draft.ensures.value)

pub first_pair-requires : goal.first_pair-requires
first_pair-requires c =
    subst (λ (t : Table). HasUsers t c.as_slice.result.now) (sym c.loop-cavity.invariant.unchanged)
    (subst (λ (l : List User). HasUsers c.args.rows.now l) (sym (found-users c.args.nets.now c.len.result c.in_ok-users.users.items c.deref-users-items.result.now c.deref-users-items.ensures.value c.in_ok-users.ensures.counted c.in_ok-users.ensures.users c.loop-cavity.cavity c.loop-cavity-test.true c.users-item.result c.as_slice.result.now c.users-item.is c.as_slice.ensures)) (users-have c.args.project.now c.args.rows.now c.args.nets.now c.requires.terminals c.requires.counted c.loop-cavity.cavity))

pub meets-requires-clause-has_a : goal.meets-requires-clause-has_a
meets-requires-clause-has_a c = (pair-has c.args.project.now c.args.rows.now c.args.nets.now c.requires.terminals c.requires.counted c.loop-cavity.cavity c.in-Some.first c.in-Some.second (subst (λ (l : List User). IsFirstPair l c.in-Some.first c.in-Some.second) (found-users c.args.nets.now c.len.result c.in_ok-users.users.items c.deref-users-items.result.now c.deref-users-items.ensures.value c.in_ok-users.ensures.counted c.in_ok-users.ensures.users c.loop-cavity.cavity c.loop-cavity-test.true c.users-item.result c.as_slice.result.now c.users-item.is c.as_slice.ensures) (rw c.in-Some.is at c.in_ok-first.ensures.some))).0

pub meets-requires-clause-has_b : goal.meets-requires-clause-has_b
meets-requires-clause-has_b c = (pair-has c.args.project.now c.args.rows.now c.args.nets.now c.requires.terminals c.requires.counted c.loop-cavity.cavity c.in-Some.first c.in-Some.second (subst (λ (l : List User). IsFirstPair l c.in-Some.first c.in-Some.second) (found-users c.args.nets.now c.len.result c.in_ok-users.users.items c.deref-users-items.result.now c.deref-users-items.ensures.value c.in_ok-users.ensures.counted c.in_ok-users.ensures.users c.loop-cavity.cavity c.loop-cavity-test.true c.users-item.result c.as_slice.result.now c.users-item.is c.as_slice.ensures) (rw c.in-Some.is at c.in_ok-first.ensures.some))).1

pub returns-in-Some-clause-some : goal.returns-in-Some-clause-some
returns-in-Some-clause-some c =
    first-clash c.args.project.now c.args.rows.now c.args.nets.now c.requires.terminals c.requires.counted c.loop-cavity.cavity c.in-Some.first c.in-Some.second (subst (λ (l : List User). IsFirstPair l c.in-Some.first c.in-Some.second) (found-users c.args.nets.now c.len.result c.in_ok-users.users.items c.deref-users-items.result.now c.deref-users-items.ensures.value c.in_ok-users.ensures.counted c.in_ok-users.ensures.users c.loop-cavity.cavity c.loop-cavity-test.true c.users-item.result c.as_slice.result.now c.users-item.is c.as_slice.ensures) (rw c.in-Some.is at c.in_ok-first.ensures.some))
    _ (rw c.in-Some-2.is at c.in_ok-choice.ensures.least) c.loop-cavity.invariant.apart

pub returns-clause-none : goal.returns-clause-none
returns-clause-none c =
    no-clash c.args.project.now c.args.rows.now c.args.nets.now c.requires.terminals c.requires.counted
    (λ cavity lt. c.loop-cavity.invariant.apart cavity (omega (arith, lt, c.loop-cavity-test.false, ap length c.deref-users-items.ensures.value, c.in_ok-users.ensures.counted, c.len.ensures, ap (λ (d : Draft). length d.cavities) c.draft.ensures.value)))
