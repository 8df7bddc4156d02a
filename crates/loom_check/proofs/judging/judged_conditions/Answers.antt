use Rattle.std.proofs.Common.{Result, Err, IfErr, sym, ap, subst, ◌∙◌}
use Rattle.std.proofs.lemmas.Result.{err_from_is_err_and}
use Rattle.loom_active.specs.declared.stop.ActiveStop.{ActiveStop}
use Rattle.loom_active.specs.declared.stop.ActiveStop.TheVariants.{NoMemory}
use Rattle.loom_check.specs.declared.verdict.Verdict.{Verdict}
use Rattle.loom_check.specs.ConditionAnswers.{ConditionsFailAt}
use Rattle.loom_check.specs.Verdict.{StopsCheck, seeking}
use Rattle.loom_check.proofs.FoundPlaces.{found-some}
use Rattle.loom_check.proofs.JudgedStages.{has-sets, wires-stop, condition-fails}
use Rattle.loom_check.proofs.judging.judged_conditions.Goals as goal

pub returns-in_err-met-clause-stop : goal.returns-in_err-met-clause-stop
returns-in_err-met-clause-stop c =
    let e = err_from_is_err_and c.from_residual.result c.from_residual.ensures.1 in
    subst (λ (r : Result Verdict ActiveStop). IfErr r (StopsCheck c.args.project.now c.args.plan.now)) (sym (e.1 ∙ ap Err e.2))
    (seeking NoMemory tt)

pub returns-in_err-place-clause-stop : goal.returns-in_err-place-clause-stop
returns-in_err-place-clause-stop c =
    let e = err_from_is_err_and c.from_residual-in_err-place.result c.from_residual-in_err-place.ensures.1 in
    subst (λ (r : Result Verdict ActiveStop). IfErr r (StopsCheck c.args.project.now c.args.plan.now)) (sym (e.1 ∙ ap Err e.2))
    (wires-stop c.args.project.now c.args.plan.now c.in_err-place.field-0.0 c.in_err-place.ensures.stop)

pub returns-in-Some-clause-verdict : goal.returns-in-Some-clause-verdict
returns-in-Some-clause-verdict c =
    condition-fails c.args.project.now c.args.plan.now c.in-Some.place
    (found-some (ConditionsFailAt c.args.project.now c.args.plan.now) c.in_ok-place.field-0 c.in-Some.place c.in-Some.is c.in_ok-place.ensures.fails)

pub returns-in_err-members-clause-stop : goal.returns-in_err-members-clause-stop
returns-in_err-members-clause-stop c =
    let e = err_from_is_err_and c.from_residual-in_err-members.result c.from_residual-in_err-members.ensures.1 in
    subst (λ (r : Result Verdict ActiveStop). IfErr r (StopsCheck c.args.project.now c.args.plan.now)) (sym (e.1 ∙ ap Err e.2))
    (seeking NoMemory tt)

pub judged_wires-requires-clause-sets : goal.judged_wires-requires-clause-sets
judged_wires-requires-clause-sets c =
    has-sets c.args.project.now c.args.plan.now c.draft-sound.ensures.sound c.has_sound_topologies.ensures c.requires.sets.sets

pub returns-in_err-verdict-clause-stop : goal.returns-in_err-verdict-clause-stop
returns-in_err-verdict-clause-stop c =
    let e = err_from_is_err_and c.from_residual-in_err-verdict.result c.from_residual-in_err-verdict.ensures.1 in
    subst (λ (r : Result Verdict ActiveStop). IfErr r (StopsCheck c.args.project.now c.args.plan.now)) (sym (e.1 ∙ ap Err e.2))
    (seeking NoMemory tt)
