use Rattle.std.proofs.Common.{sym, ap, subst, ◌∙◌, Err}
use Rattle.std.proofs.lemmas.Result.{err_from_is_err_and}
use Rattle.loom_rows.specs.Condition.{value}
use Rattle.loom_rows.specs.Formulas.{one_worked}
use Rattle.loom_rows.specs.Leftovers.{Works}
use Rattle.loom_rows.specs.declared.rows.formula.Counted.{Counted}
use Rattle.std.proofs.Common.{Result}
use Rattle.loom_rows.specs.declared.stop.RowsStop.{RowsStop}
use Rattle.loom_rows.specs.declared.stop.RowsStop.TheVariants.{NoMemory}
use Rattle.loom_rows.proofs.Progress.{count-stop1, count-stop2, count-stop3, count-stop4, count-stop5, count-done}
use Rattle.loom_rows.proofs.rows.Rows.count_one.Goals as goal

pub returns-in_err-without-clause-works : goal.returns-in_err-without-clause-works
returns-in_err-without-clause-works c =
    let e = err_from_is_err_and c.from_residual.result c.from_residual.ensures.1 in
    subst (λ (r : Result Counted RowsStop). Works (one_worked (value c.args.one) (value c.args.none) (value c.args.member)) c.args.self.now c.not.new.self r) (sym (e.1 ∙ ap Err e.2))
    (count-stop1 (value c.args.one) (value c.args.none) (value c.args.member) c.args.self.now c.not.new.self c.not.new.self c.not.new.self c.not.new.self c.not.new.self c.in_err-without.field-0.0 c.in_err-without.ensures.works)

pub returns-in_err-still_one-clause-works : goal.returns-in_err-still_one-clause-works
returns-in_err-still_one-clause-works c =
    let e = err_from_is_err_and c.from_residual-in_err-still_one.result c.from_residual-in_err-still_one.ensures.1 in
    subst (λ (r : Result Counted RowsStop). Works (one_worked (value c.args.one) (value c.args.none) (value c.args.member)) c.args.self.now c.and.new.self r) (sym (e.1 ∙ ap Err e.2))
    (count-stop2 (value c.args.one) (value c.args.none) (value c.args.member) c.args.self.now c.not.new.self c.and.new.self c.and.new.self c.and.new.self c.and.new.self c.in_err-still_one.field-0.0 c.in_ok-without.without c.in_ok-without.ensures.works c.in_ok-without.ensures.value.1 c.in_err-still_one.ensures.works)

pub returns-in_err-new_one-clause-works : goal.returns-in_err-new_one-clause-works
returns-in_err-new_one-clause-works c =
    let e = err_from_is_err_and c.from_residual-in_err-new_one.result c.from_residual-in_err-new_one.ensures.1 in
    subst (λ (r : Result Counted RowsStop). Works (one_worked (value c.args.one) (value c.args.none) (value c.args.member)) c.args.self.now c.and-2.new.self r) (sym (e.1 ∙ ap Err e.2))
    (count-stop3 (value c.args.one) (value c.args.none) (value c.args.member) c.args.self.now c.not.new.self c.and.new.self c.and-2.new.self c.and-2.new.self c.and-2.new.self c.in_err-new_one.field-0.0 c.in_ok-without.without c.in_ok-without.ensures.works c.in_ok-without.ensures.value.1 c.in_ok-still_one.still_one c.in_ok-still_one.ensures.works c.in_ok-still_one.ensures.value.1 c.in_err-new_one.ensures.works)

pub returns-in_err-one-clause-works : goal.returns-in_err-one-clause-works
returns-in_err-one-clause-works c =
    let e = err_from_is_err_and c.from_residual-in_err-one.result c.from_residual-in_err-one.ensures.1 in
    subst (λ (r : Result Counted RowsStop). Works (one_worked (value c.args.one) (value c.args.none) (value c.args.member)) c.args.self.now c.or.new.self r) (sym (e.1 ∙ ap Err e.2))
    (count-stop4 (value c.args.one) (value c.args.none) (value c.args.member) c.args.self.now c.not.new.self c.and.new.self c.and-2.new.self c.or.new.self c.or.new.self c.in_err-one.field-0.0 c.in_ok-without.without c.in_ok-without.ensures.works c.in_ok-without.ensures.value.1 c.in_ok-still_one.still_one c.in_ok-still_one.ensures.works c.in_ok-still_one.ensures.value.1 c.in_ok-new_one.new_one c.in_ok-new_one.ensures.works c.in_ok-new_one.ensures.value.1 c.in_err-one.ensures.works)

pub returns-in_err-none-clause-works : goal.returns-in_err-none-clause-works
returns-in_err-none-clause-works c =
    let e = err_from_is_err_and c.from_residual-in_err-none.result c.from_residual-in_err-none.ensures.1 in
    subst (λ (r : Result Counted RowsStop). Works (one_worked (value c.args.one) (value c.args.none) (value c.args.member)) c.args.self.now c.and-3.new.self r) (sym (e.1 ∙ ap Err e.2))
    (count-stop5 (value c.args.one) (value c.args.none) (value c.args.member) c.args.self.now c.not.new.self c.and.new.self c.and-2.new.self c.or.new.self c.and-3.new.self c.in_err-none.field-0.0 c.in_ok-without.without c.in_ok-without.ensures.works c.in_ok-without.ensures.value.1 c.in_ok-still_one.still_one c.in_ok-still_one.ensures.works c.in_ok-still_one.ensures.value.1 c.in_ok-new_one.new_one c.in_ok-new_one.ensures.works c.in_ok-new_one.ensures.value.1 c.in_ok-one.one c.in_ok-one.ensures.works c.in_err-none.ensures.works)

pub returns-clause-works : goal.returns-clause-works
returns-clause-works c =
    count-done (value c.args.one) (value c.args.none) (value c.args.member) c.args.self.now c.not.new.self c.and.new.self c.and-2.new.self c.or.new.self c.and-3.new.self NoMemory c.in_ok-without.without c.in_ok-without.ensures.works c.in_ok-without.ensures.value.1 c.in_ok-still_one.still_one c.in_ok-still_one.ensures.works c.in_ok-still_one.ensures.value.1 c.in_ok-new_one.new_one c.in_ok-new_one.ensures.works c.in_ok-new_one.ensures.value.1 c.in_ok-one.one c.in_ok-one.ensures.works c.in_ok-none.none c.in_ok-none.ensures.works _
