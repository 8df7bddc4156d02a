-- Each slot is looked at in turn.
use Rattle.std.proofs.Common.{map, List, refl, sym, ap, subst, ◌∙◌, Result, Ok, Err}
use Rattle.std.specs.List.{flat_map}
use Rattle.std.proofs.lemmas.Result.{err_from_is_err_and}
use Rattle.loom_rows.specs.declared.cond.Cond.{Cond}
use Rattle.loom_rows.specs.declared.stop.RowsStop.{RowsStop}
use Rattle.loom_rows.specs.Condition.{value}
use Rattle.loom_rows.specs.Disjunction.{some_hold, any_worked}
use Rattle.loom_rows.specs.Leftovers.{AreSame, Works}
use Rattle.loom_rows.specs.Printing.{AreHad}
use Rattle.loom_pins.specs.declared.slot.Slot.{Slot}
use Rattle.loom_plan.specs.SlotUsers.{usage_worked}
use Rattle.loom_plan.proofs.UsageSteps.{Entry, UsagesSoFar, usages-init, usages-had, usages-stop, usages-no_memory, usages-next, usages-joined, usages-works}
use Rattle.loom_plan.proofs.slots.with_usages.Goals as goal

pub loop-key-init : goal.loop-key-init
loop-key-init c =
    subst (λ (l : List Entry). UsagesSoFar c.args.users.now.entries l c.args.rows.now c.args.rows.now c.new-slots.result) (sym c.into_iter-key-iterator.ensures.into_iter_gives.0)
    (subst (λ (l : List Slot). UsagesSoFar c.args.users.now.entries c.args.users.now.entries c.args.rows.now c.args.rows.now l) (sym c.new-slots.ensures)
    (usages-init c.args.users.now.entries c.args.rows.now c.requires.sound))

pub any_of-requires : goal.any_of-requires
any_of-requires c =
    subst (AreHad c.loop-key.rows) (sym c.as_slice.ensures)
    (usages-had c.args.users.now.entries c.loop-key.key-iterator c.next.new.self c.args.rows.now c.loop-key.rows c.loop-key.slots c.loop-key.invariant (c.in-Some.key.now, c.in-Some.conds.now) c.in-Some.ensures.steps c.requires.has)

pub returns-in_err-usage-clause-works : goal.returns-in_err-usage-clause-works
returns-in_err-usage-clause-works c =
    let e = err_from_is_err_and c.from_residual.result c.from_residual.ensures.1 in
    subst (λ (r : Result (List Slot) RowsStop). Works (flat_map usage_worked c.args.users.now.entries) c.args.rows.now c.any_of.new.self r) (sym (e.1 ∙ ap Err e.2))
    (usages-stop c.args.users.now.entries c.loop-key.key-iterator c.next.new.self c.args.rows.now c.loop-key.rows c.loop-key.slots c.loop-key.invariant (c.in-Some.key.now, c.in-Some.conds.now) c.in-Some.ensures.steps c.any_of.new.self c.in_err-usage.field-0.0
    (subst (λ l. Works {A = Cond} (any_worked (map value l)) c.loop-key.rows c.any_of.new.self (Err c.in_err-usage.field-0.0)) c.as_slice.ensures c.in_err-usage.ensures.works))

pub loop-key-preserved : goal.loop-key-preserved
loop-key-preserved c =
    usages-next c.args.users.now.entries c.loop-key.key-iterator c.next.new.self c.args.rows.now c.loop-key.rows c.loop-key.slots c.loop-key.invariant (c.in-Some.key.now, c.in-Some.conds.now) c.in-Some.ensures.steps c.any_of.new.self c.in_ok-usage.usage
    (subst (λ l. Works {A = Cond} (any_worked (map value l)) c.loop-key.rows c.any_of.new.self (Ok c.in_ok-usage.usage)) c.as_slice.ensures c.in_ok-usage.ensures.works)
    _ refl refl c.in_ok-usage.ensures.value.0
    (subst (λ l. AreSame (value c.in_ok-usage.usage) (some_hold (map value l))) c.as_slice.ensures c.in_ok-usage.ensures.value.1)
    c.push.new.self c.in_ok-push.ensures.ok

pub returns-in_err-push-clause-works : goal.returns-in_err-push-clause-works
returns-in_err-push-clause-works c =
    let e = err_from_is_err_and c.from_residual-in_err-push.result c.from_residual-in_err-push.ensures.1 in
    subst (λ (r : Result (List Slot) RowsStop). Works (flat_map usage_worked c.args.users.now.entries) c.args.rows.now c.any_of.new.self r) (sym (e.1 ∙ ap Err e.2))
    (usages-no_memory c.args.users.now.entries c.loop-key.key-iterator c.next.new.self c.args.rows.now c.loop-key.rows c.loop-key.slots c.loop-key.invariant (c.in-Some.key.now, c.in-Some.conds.now) c.in-Some.ensures.steps c.any_of.new.self c.in_ok-usage.usage
    (subst (λ l. Works {A = Cond} (any_worked (map value l)) c.loop-key.rows c.any_of.new.self (Ok c.in_ok-usage.usage)) c.as_slice.ensures c.in_ok-usage.ensures.works))

pub returns-clause-joined : goal.returns-clause-joined
returns-clause-joined c = usages-joined c.args.users.now.entries c.loop-key.key-iterator c.args.rows.now c.loop-key.rows c.loop-key.slots c.loop-key.invariant c.in-None.ensures.steps.0

pub returns-clause-has : goal.returns-clause-has
returns-clause-has c = c.loop-key.invariant.has

pub returns-clause-works : goal.returns-clause-works
returns-clause-works c = usages-works c.args.users.now.entries c.loop-key.key-iterator c.args.rows.now c.loop-key.rows c.loop-key.slots c.loop-key.invariant c.in-None.ensures.steps.0
