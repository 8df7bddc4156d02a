-- Each row is made of the conditions of its parts.
use Rattle.std.proofs.Common.{◌<◌, sym, ap, subst, ◌∙◌, arith, Ok, Err, Result}
use Rattle.std.proofs.lemmas.Result.{err_from_is_err_and}
use Rattle.loom_rows.specs.declared.cond.Cond.{Cond}
use Rattle.loom_rows.specs.declared.stop.RowsStop.{RowsStop}
use Rattle.loom_rows.specs.Condition.{value, first_option}
use Rattle.loom_rows.specs.Table.{IsSound, Has}
use Rattle.loom_rows.specs.Leftovers.{Works}
use Rattle.loom_rows.specs.Outcome.{Outcome, branch}
use Rattle.loom_rows.specs.RowLists.{meanings_of}
use Rattle.loom_rows.specs.Taken.{cond_at}
use Rattle.std.proofs.Common.{List, ◌+◌}
use Rattle.loom_rows.proofs.TakeIn.{TakenIn, row-told, taken-init, low-part, high-part, taken-stop, taken-no_memory, taken-next, taken-done}
use Rattle.loom_rows.proofs.rows.Rows.take_in.Goals as goal

pub loop-at-init : goal.loop-at-init
loop-at-init c = λ below reduced. subst (λ (l : List Cond). TakenIn c.args.list.now below reduced 0 c.args.self.now c.args.self.now l) (sym c.new-conds.ensures) (taken-init c.args.list.now below reduced c.args.self.now (subst IsSound c.self.view_is c.self.invariant.sound))

pub taken-low-requires : goal.taken-low-requires
taken-low-requires c = omega (arith, (c.loop-at.invariant c.count-at-end.ensures.below c.requires.reduced).counted, c.count-at-end.ensures.below.low (c.loop-at.at + 2) (record { option = c.in-Some.option; low = c.in-Some.low; high = c.in-Some.high }) (row-told _ c.in-Some.option c.in-Some.low c.in-Some.high c.in-Some.ensures.row))

pub taken-high-requires : goal.taken-high-requires
taken-high-requires c = omega (arith, (c.loop-at.invariant c.count-at-end.ensures.below c.requires.reduced).counted, c.count-at-end.ensures.below.high (c.loop-at.at + 2) (record { option = c.in-Some.option; low = c.in-Some.low; high = c.in-Some.high }) (row-told _ c.in-Some.option c.in-Some.low c.in-Some.high c.in-Some.ensures.row))

pub make-requires-clause-has_low : goal.make-requires-clause-has_low
make-requires-clause-has_low c = subst (Has c.loop-at.self) (sym c.taken-low.ensures) (low-part c.args.list.now c.count-at-end.ensures.below c.requires.reduced c.loop-at.at c.args.self.now c.loop-at.self c.loop-at.conds (c.loop-at.invariant c.count-at-end.ensures.below c.requires.reduced) (record { option = c.in-Some.option; low = c.in-Some.low; high = c.in-Some.high }) (row-told _ c.in-Some.option c.in-Some.low c.in-Some.high c.in-Some.ensures.row) c.requires.options).has

pub make-requires-clause-has_high : goal.make-requires-clause-has_high
make-requires-clause-has_high c = subst (Has c.loop-at.self) (sym c.taken-high.ensures) (high-part c.args.list.now c.count-at-end.ensures.below c.requires.reduced c.loop-at.at c.args.self.now c.loop-at.self c.loop-at.conds (c.loop-at.invariant c.count-at-end.ensures.below c.requires.reduced) (record { option = c.in-Some.option; low = c.in-Some.low; high = c.in-Some.high }) (row-told _ c.in-Some.option c.in-Some.low c.in-Some.high c.in-Some.ensures.row) c.requires.options).has

pub make-requires-clause-low_rises : goal.make-requires-clause-low_rises
make-requires-clause-low_rises c = subst (λ (x : Cond). c.in-Some.option < first_option c.loop-at.self.options x) (sym c.taken-low.ensures) (low-part c.args.list.now c.count-at-end.ensures.below c.requires.reduced c.loop-at.at c.args.self.now c.loop-at.self c.loop-at.conds (c.loop-at.invariant c.count-at-end.ensures.below c.requires.reduced) (record { option = c.in-Some.option; low = c.in-Some.low; high = c.in-Some.high }) (row-told _ c.in-Some.option c.in-Some.low c.in-Some.high c.in-Some.ensures.row) c.requires.options).rises

pub make-requires-clause-high_rises : goal.make-requires-clause-high_rises
make-requires-clause-high_rises c = subst (λ (x : Cond). c.in-Some.option < first_option c.loop-at.self.options x) (sym c.taken-high.ensures) (high-part c.args.list.now c.count-at-end.ensures.below c.requires.reduced c.loop-at.at c.args.self.now c.loop-at.self c.loop-at.conds (c.loop-at.invariant c.count-at-end.ensures.below c.requires.reduced) (record { option = c.in-Some.option; low = c.in-Some.low; high = c.in-Some.high }) (row-told _ c.in-Some.option c.in-Some.low c.in-Some.high c.in-Some.ensures.row) c.requires.options).rises

pub returns-in_err-cond-clause-works : goal.returns-in_err-cond-clause-works
returns-in_err-cond-clause-works c =
    let e = err_from_is_err_and c.from_residual.result c.from_residual.ensures.1 in
    subst (λ (r : Result (List Cond) RowsStop). Works (meanings_of c.args.list.now) c.args.self.now c.make.new.self r) (sym (e.1 ∙ ap Err e.2))
    (taken-stop c.args.list.now c.count-at-end.ensures.below c.requires.reduced c.loop-at.at c.args.self.now c.loop-at.self c.loop-at.conds (c.loop-at.invariant c.count-at-end.ensures.below c.requires.reduced) (record { option = c.in-Some.option; low = c.in-Some.low; high = c.in-Some.high }) (row-told _ c.in-Some.option c.in-Some.low c.in-Some.high c.in-Some.ensures.row) c.requires.options c.make.new.self c.in_err-cond.field-0.0 (subst (λ (x : Cond). Outcome (branch c.in-Some.option (value x) (value (cond_at c.loop-at.conds c.in-Some.high))) c.in-Some.option c.loop-at.self c.make.new.self (Err c.in_err-cond.field-0.0)) c.taken-low.ensures (subst (λ (x : Cond). Outcome (branch c.in-Some.option (value c.taken-low.result) (value x)) c.in-Some.option c.loop-at.self c.make.new.self (Err c.in_err-cond.field-0.0)) c.taken-high.ensures c.in_err-cond.ensures)))

pub returns-in_err-push-clause-works : goal.returns-in_err-push-clause-works
returns-in_err-push-clause-works c =
    let e = err_from_is_err_and c.from_residual-in_err-push.result c.from_residual-in_err-push.ensures.1 in
    subst (λ (r : Result (List Cond) RowsStop). Works (meanings_of c.args.list.now) c.args.self.now c.make.new.self r) (sym (e.1 ∙ ap Err e.2))
    (taken-no_memory c.args.list.now c.count-at-end.ensures.below c.requires.reduced c.loop-at.at c.args.self.now c.loop-at.self c.loop-at.conds (c.loop-at.invariant c.count-at-end.ensures.below c.requires.reduced) (record { option = c.in-Some.option; low = c.in-Some.low; high = c.in-Some.high }) (row-told _ c.in-Some.option c.in-Some.low c.in-Some.high c.in-Some.ensures.row) c.requires.options c.make.new.self c.in_ok-cond.cond (subst (λ (x : Cond). Outcome (branch c.in-Some.option (value x) (value (cond_at c.loop-at.conds c.in-Some.high))) c.in-Some.option c.loop-at.self c.make.new.self (Ok c.in_ok-cond.cond)) c.taken-low.ensures (subst (λ (x : Cond). Outcome (branch c.in-Some.option (value c.taken-low.result) (value x)) c.in-Some.option c.loop-at.self c.make.new.self (Ok c.in_ok-cond.cond)) c.taken-high.ensures c.in_ok-cond.ensures)))

pub loop-at-preserved : goal.loop-at-preserved
loop-at-preserved c = λ below reduced.
    taken-next c.args.list.now below reduced c.loop-at.at c.args.self.now c.loop-at.self c.loop-at.conds (c.loop-at.invariant below reduced) (record { option = c.in-Some.option; low = c.in-Some.low; high = c.in-Some.high }) (row-told _ c.in-Some.option c.in-Some.low c.in-Some.high c.in-Some.ensures.row) c.requires.options
    c.make.new.self c.in_ok-cond.cond (subst (λ (x : Cond). Outcome (branch c.in-Some.option (value x) (value (cond_at c.loop-at.conds c.in-Some.high))) c.in-Some.option c.loop-at.self c.make.new.self (Ok c.in_ok-cond.cond)) c.taken-low.ensures (subst (λ (x : Cond). Outcome (branch c.in-Some.option (value c.taken-low.result) (value x)) c.in-Some.option c.loop-at.self c.make.new.self (Ok c.in_ok-cond.cond)) c.taken-high.ensures c.in_ok-cond.ensures)) c.push.new.self c.in_ok-push.ensures.ok

pub returns-clause-conds : goal.returns-clause-conds
returns-clause-conds c = (c.loop-at.invariant c.count-at-end.ensures.below c.requires.reduced).conditions

pub returns-clause-counted : goal.returns-clause-counted
returns-clause-counted c = omega (arith, (c.loop-at.invariant c.count-at-end.ensures.below c.requires.reduced).counted, (c.loop-at.invariant c.count-at-end.ensures.below c.requires.reduced).in_range, c.loop-at-test.false, c.count-at-end.ensures.count)

pub returns-clause-works : goal.returns-clause-works
returns-clause-works c = taken-done c.args.list.now c.count-at-end.ensures.below c.requires.reduced c.loop-at.at c.args.self.now c.loop-at.self c.loop-at.conds (c.loop-at.invariant c.count-at-end.ensures.below c.requires.reduced) (omega (arith, c.loop-at-test.false, c.count-at-end.ensures.count))
