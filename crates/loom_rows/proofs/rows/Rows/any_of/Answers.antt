-- Each condition is joined in turn.
use Rattle.std.proofs.Common.{sym, ap, subst, ◌∙◌, List, map, Result, Err}
use Rattle.std.proofs.lemmas.Result.{err_from_is_err_and}
use Rattle.loom_rows.specs.declared.cond.Cond.{Cond}
use Rattle.loom_rows.specs.declared.stop.RowsStop.{RowsStop}
use Rattle.loom_rows.specs.Condition.{value}
use Rattle.loom_rows.specs.Table.{IsSound}
use Rattle.loom_rows.specs.Leftovers.{Works}
use Rattle.loom_rows.specs.Disjunction.{any_worked}
use Rattle.loom_rows.proofs.Disjunctions.{joined-init, joined-has, joined-stop, joined-next, joined-works, joined-value}
use Rattle.loom_rows.proofs.rows.Rows.any_of.Goals as goal

pub loop-cond-init : goal.loop-cond-init
loop-cond-init c = joined-init c.args.conds.now c.args.self.now (subst IsSound c.self.view_is c.self.invariant.sound)

pub or-requires-clause-has_b : goal.or-requires-clause-has_b
or-requires-clause-has_b c = joined-has c.args.conds.now c.loop-cond.cond-index c.cond-item.result c.loop-cond-test.true c.cond-item.is c.args.self.now c.loop-cond.self c.loop-cond.any c.loop-cond.invariant c.requires

pub returns-in_err-any-clause-works : goal.returns-in_err-any-clause-works
returns-in_err-any-clause-works c =
    let e = err_from_is_err_and c.from_residual.result c.from_residual.ensures.1 in
    subst (λ (r : Result Cond RowsStop). Works (any_worked (map value c.args.conds.now)) c.args.self.now c.or.new.self r) (sym (e.1 ∙ ap Err e.2))
    (joined-stop c.args.conds.now c.loop-cond.cond-index c.cond-item.result c.loop-cond-test.true c.cond-item.is c.args.self.now c.loop-cond.self c.loop-cond.any c.loop-cond.invariant c.or.new.self c.in_err-any.field-0.0 c.in_err-any.ensures.works)

pub loop-cond-preserved : goal.loop-cond-preserved
loop-cond-preserved c =
    joined-next c.args.conds.now c.loop-cond.cond-index c.cond-item.result c.loop-cond-test.true c.cond-item.is c.args.self.now c.loop-cond.self c.loop-cond.any c.loop-cond.invariant c.or.new.self c.in_ok-any.any c.in_ok-any.ensures.works c.in_ok-any.ensures.value.0 c.in_ok-any.ensures.value.1

pub returns-clause-value : goal.returns-clause-value
returns-clause-value c = (c.loop-cond.invariant.has, joined-value c.args.conds.now c.loop-cond.cond-index c.loop-cond-test.false c.args.self.now c.loop-cond.self c.loop-cond.any c.loop-cond.invariant)

pub returns-clause-works : goal.returns-clause-works
returns-clause-works c = joined-works c.args.conds.now c.loop-cond.cond-index c.loop-cond-test.false c.args.self.now c.loop-cond.self c.loop-cond.any c.loop-cond.invariant
