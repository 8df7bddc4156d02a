-- Each formula is worked out in turn, and joined to those before.
use Rattle.std.proofs.Common.{sym, ap, subst, ◌∙◌, Result, Err}
use Rattle.std.proofs.lemmas.Result.{err_from_is_err_and}
use Rattle.loom_rows.specs.declared.cond.Cond.{Cond}
use Rattle.loom_rows.specs.declared.stop.RowsStop.{RowsStop}
use Rattle.loom_rows.specs.Leftovers.{Works}
use Rattle.loom_active.specs.Valid.{conjunction_worked}
use Rattle.loom_active.proofs.FormulaSteps.{formulas-init, formula-stop, formula-stop_join, formula-next, formulas-works, formulas-value}
use Rattle.loom_active.proofs.rules.conjunction.Goals as goal

pub loop-formula-init : goal.loop-formula-init
loop-formula-init c = formulas-init c.args.options.now c.args.formulas.now c.args.rows.now c.requires.sound

pub returns-in_err-cond-clause-works : goal.returns-in_err-cond-clause-works
returns-in_err-cond-clause-works c =
    let e = err_from_is_err_and c.from_residual.result c.from_residual.ensures.1 in
    subst (λ (r : Result Cond RowsStop). Works (conjunction_worked c.args.options.now c.args.formulas.now) c.args.rows.now c.of_formula.new.self r) (sym (e.1 ∙ ap Err e.2))
    (formula-stop c.args.options.now c.args.formulas.now c.loop-formula.formula-index c.formula-item.result c.loop-formula-test.true c.formula-item.is c.args.rows.now c.loop-formula.rows c.loop-formula.all c.loop-formula.invariant
    c.of_formula.new.self c.in_err-cond.field-0.0 c.in_err-cond.ensures.works)

pub returns-in_err-all-clause-works : goal.returns-in_err-all-clause-works
returns-in_err-all-clause-works c =
    let e = err_from_is_err_and c.from_residual-in_err-all.result c.from_residual-in_err-all.ensures.1 in
    subst (λ (r : Result Cond RowsStop). Works (conjunction_worked c.args.options.now c.args.formulas.now) c.args.rows.now c.and.new.self r) (sym (e.1 ∙ ap Err e.2))
    (formula-stop_join c.args.options.now c.args.formulas.now c.loop-formula.formula-index c.formula-item.result c.loop-formula-test.true c.formula-item.is c.args.rows.now c.loop-formula.rows c.loop-formula.all c.loop-formula.invariant
    c.of_formula.new.self c.in_ok-cond.cond c.in_ok-cond.ensures.works c.in_ok-cond.ensures.value.1 c.and.new.self c.in_err-all.field-0.0 c.in_err-all.ensures.works)

pub loop-formula-preserved : goal.loop-formula-preserved
loop-formula-preserved c =
    formula-next c.args.options.now c.args.formulas.now c.loop-formula.formula-index c.formula-item.result c.loop-formula-test.true c.formula-item.is c.args.rows.now c.loop-formula.rows c.loop-formula.all c.loop-formula.invariant
    c.of_formula.new.self c.in_ok-cond.cond c.in_ok-cond.ensures.works c.in_ok-cond.ensures.value.1 c.and.new.self c.in_ok-all.all c.in_ok-all.ensures.works c.in_ok-all.ensures.value.0 c.in_ok-all.ensures.value.1

pub returns-clause-value : goal.returns-clause-value
returns-clause-value c = (
  c.loop-formula.invariant.has,
  formulas-value c.args.options.now c.args.formulas.now c.loop-formula.formula-index c.loop-formula-test.false c.args.rows.now c.loop-formula.rows c.loop-formula.all c.loop-formula.invariant,
)

pub returns-clause-works : goal.returns-clause-works
returns-clause-works c = formulas-works c.args.options.now c.args.formulas.now c.loop-formula.formula-index c.loop-formula-test.false c.args.rows.now c.loop-formula.rows c.loop-formula.all c.loop-formula.invariant
