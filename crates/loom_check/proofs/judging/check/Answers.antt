use Rattle.std.proofs.Common.{Result, Err, IfErr, sym, ap, subst, ◌∙◌}
use Rattle.std.proofs.lemmas.Result.{err_from_is_err_and}
use Rattle.loom_active.specs.declared.stop.ActiveStop.{ActiveStop}
use Rattle.loom_check.specs.declared.verdict.Verdict.{Verdict}
use Rattle.loom_check.specs.Verdict.{StopsCheck, seeking}
use Rattle.loom_check.proofs.JudgedStages.{no-more-sets}
use Rattle.loom_check.proofs.judging.check.Goals as goal

pub returns-in_err-sets-clause-stop : goal.returns-in_err-sets-clause-stop
returns-in_err-sets-clause-stop c =
    let e = err_from_is_err_and c.from_residual.result c.from_residual.ensures.1 in
    subst (λ (r : Result Verdict ActiveStop). IfErr r (StopsCheck c.args.project.now c.args.plan.now)) (sym (e.1 ∙ ap Err e.2))
    (seeking c.in_err-sets.field-0.0 c.in_err-sets.ensures.stop)

pub judged_rows-requires-clause-found : goal.judged_rows-requires-clause-found
judged_rows-requires-clause-found c = record {
  some_choice = c.in_ok-sets.ensures.some_choice;
  clear = c.in_ok-sets.ensures.no_clash;
  few_sets = no-more-sets c.args.project.now c.live_sets.new.rows c.in_ok-sets.sets.list c.in_ok-sets.ensures.sets c.in_ok-sets.ensures.few_sets;
  few_rows = c.in_ok-sets.ensures.few_rows;
}
