use Rattle.std.proofs.Common.{sym, ap, subst, ◌∙◌, Result, Ok, Err, IfErr}
use Rattle.std.proofs.lemmas.Bool.{true≢false}
use Rattle.std.proofs.lemmas.Result.{err_from_is_err_and}
use Rattle.loom_rows.specs.declared.cond.Cond.{Cond}
use Rattle.loom_active.specs.declared.stop.ActiveStop.{ActiveStop}
use Rattle.loom_active.specs.Valid.{IsStopOf}
use Rattle.loom_active.proofs.RuleStops.{of_rules, holds_of_rules, some_valid, none_valid, rules-stop, rules-fit, rules-stand}
use Rattle.loom_active.proofs.rules.valid.Goals as goal

pub returns-in_err-valid-clause-stop : goal.returns-in_err-valid-clause-stop
returns-in_err-valid-clause-stop c =
    let e = err_from_is_err_and c.from_residual.result c.from_residual.ensures.1 in
    let w = of_rules c.args.project.now c.options.result.now c.rules.result.now c.args.rows.now c.conjunction.new.rows (Err c.in_err-valid.field-0.0) c.options.ensures c.rules.ensures c.in_err-valid.ensures.works in
    subst (λ (r : Result Cond ActiveStop). IfErr r (IsStopOf c.args.project.now)) (sym (e.1 ∙ ap Err e.2))
    (rules-stop c.args.project.now c.args.rows.now c.conjunction.new.rows c.requires.limit c.requires.empty c.in_err-valid.field-0.0 w)

pub returns-then-same-clause-stop : goal.returns-then-same-clause-stop
returns-then-same-clause-stop c =
    let w = of_rules c.args.project.now c.options.result.now c.rules.result.now c.args.rows.now c.conjunction.new.rows (Ok c.in_ok-valid.valid) c.options.ensures c.rules.ensures c.in_ok-valid.ensures.works in
    let v = holds_of_rules c.args.project.now c.options.result.now c.rules.result.now c.in_ok-valid.valid c.options.ensures c.rules.ensures c.in_ok-valid.ensures.value.1 in (
      none_valid c.args.project.now c.conjunction.new.rows c.in_ok-valid.valid v (c.same.ensures.same.0 c.if-same.true),
      rules-fit c.args.project.now c.args.rows.now c.conjunction.new.rows c.requires.limit c.requires.empty c.in_ok-valid.valid w,
    )

pub returns-then-same-clause-stands_without_choice : goal.returns-then-same-clause-stands_without_choice
returns-then-same-clause-stands_without_choice c =
    let w = of_rules c.args.project.now c.options.result.now c.rules.result.now c.args.rows.now c.conjunction.new.rows (Ok c.in_ok-valid.valid) c.options.ensures c.rules.ensures c.in_ok-valid.ensures.works in
    λ _. rules-stand c.args.project.now c.args.rows.now c.conjunction.new.rows c.requires.limit c.requires.empty c.in_ok-valid.valid w

pub returns-clause-some_choice : goal.returns-clause-some_choice
returns-clause-some_choice c =
    let v = holds_of_rules c.args.project.now c.options.result.now c.rules.result.now c.in_ok-valid.valid c.options.ensures c.rules.ensures c.in_ok-valid.ensures.value.1 in
    some_valid c.args.project.now c.conjunction.new.rows c.in_ok-valid.valid v c.in_ok-valid.ensures.value.0 (λ none. true≢false (sym (c.same.ensures.number.1 none) ∙ c.if-same.false))

pub returns-clause-few_rows : goal.returns-clause-few_rows
returns-clause-few_rows c =
    let w = of_rules c.args.project.now c.options.result.now c.rules.result.now c.args.rows.now c.conjunction.new.rows (Ok c.in_ok-valid.valid) c.options.ensures c.rules.ensures c.in_ok-valid.ensures.works in
    rules-fit c.args.project.now c.args.rows.now c.conjunction.new.rows c.requires.limit c.requires.empty c.in_ok-valid.valid w

pub returns-clause-stands : goal.returns-clause-stands
returns-clause-stands c =
    let w = of_rules c.args.project.now c.options.result.now c.rules.result.now c.args.rows.now c.conjunction.new.rows (Ok c.in_ok-valid.valid) c.options.ensures c.rules.ensures c.in_ok-valid.ensures.works in
    rules-stand c.args.project.now c.args.rows.now c.conjunction.new.rows c.requires.limit c.requires.empty c.in_ok-valid.valid w
