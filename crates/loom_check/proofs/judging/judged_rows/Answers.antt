use Rattle.std.proofs.Common.{List, Result, Err, IfErr, sym, ap, subst, ◌∙◌}
use Rattle.std.proofs.lemmas.Result.{err_from_is_err_and}
use Rattle.loom_rows.specs.declared.cond.Cond.{Cond}
use Rattle.loom_rows.specs.RowLists.{meanings_of}
use Rattle.loom_rows.proofs.Outcomes.{keeps}
use Rattle.loom_rows.proofs.Worked.{stands-after}
use Rattle.loom_active.specs.declared.stop.ActiveStop.{ActiveStop}
use Rattle.loom_active.specs.declared.stop.ActiveStop.TheVariants.{NoMemory}
use Rattle.loom_active.specs.LiveWork.{live_worked}
use Rattle.loom_audit.specs.Rows.{AreRowsSound, RowsFailAt}
use Rattle.loom_audit.specs.LiveLines.{AreSetsLive, SetsFailAt}
use Rattle.loom_check.specs.declared.verdict.Verdict.{Verdict}
use Rattle.loom_check.specs.Verdict.{StopsCheck, seeking, rows, sets}
use Rattle.loom_check.proofs.FoundPlaces.{found-some, found-none}
use Rattle.loom_check.proofs.JudgedStages.{live-kept, takes-rows, rows-stop}
use Rattle.loom_check.proofs.judging.judged_rows.Goals as goal

pub returns-in_err-place-clause-stop : goal.returns-in_err-place-clause-stop
returns-in_err-place-clause-stop c =
    let e = err_from_is_err_and c.from_residual.result c.from_residual.ensures.1 in
    subst (λ (r : Result Verdict ActiveStop). IfErr r (StopsCheck c.args.project.now c.args.plan.now)) (sym (e.1 ∙ ap Err e.2))
    (seeking NoMemory tt)

pub returns-in-Some-clause-verdict : goal.returns-in-Some-clause-verdict
returns-in-Some-clause-verdict c =
    rows c.in-Some.place c.requires.found
    (found-some (RowsFailAt c.args.project.now c.args.plan.now) c.in_ok-place.field-0 c.in-Some.place c.in-Some.is c.in_ok-place.ensures.fails)

pub returns-in_err-conds-clause-stop : goal.returns-in_err-conds-clause-stop
returns-in_err-conds-clause-stop c =
    let sound = found-none (AreRowsSound c.args.project.now c.args.plan.now) c.in_ok-place.field-0 c.in_default.not-Some c.in_ok-place.ensures.holds in
    let e = err_from_is_err_and c.from_residual-in_err-conds.result c.from_residual-in_err-conds.ensures.1 in
    subst (λ (r : Result Verdict ActiveStop). IfErr r (StopsCheck c.args.project.now c.args.plan.now)) (sym (e.1 ∙ ap Err e.2))
    (rows-stop c.args.project.now c.args.plan.now c.args.rows.now c.take_in.new.self (List Cond) c.in_err-conds.field-0.0 c.requires.limit c.requires.stands
    c.requires.found sound c.in_err-conds.ensures.works)

pub sets_failure-requires-clause-live : goal.sets_failure-requires-clause-live
sets_failure-requires-clause-live c =
    live-kept c.args.project.now c.args.rows.now c.take_in.new.self c.args.live.now (λ x has. keeps c.in_ok-conds.ensures.works.gains x has) c.requires.live

pub returns-in_err-place-2-clause-stop : goal.returns-in_err-place-2-clause-stop
returns-in_err-place-2-clause-stop c =
    let e = err_from_is_err_and c.from_residual-in_err-place-2.result c.from_residual-in_err-place-2.ensures.1 in
    subst (λ (r : Result Verdict ActiveStop). IfErr r (StopsCheck c.args.project.now c.args.plan.now)) (sym (e.1 ∙ ap Err e.2))
    (seeking NoMemory tt)

pub returns-in-Some-2-clause-verdict : goal.returns-in-Some-2-clause-verdict
returns-in-Some-2-clause-verdict c =
    let sound = found-none (AreRowsSound c.args.project.now c.args.plan.now) c.in_ok-place.field-0 c.in_default.not-Some c.in_ok-place.ensures.holds in
    sets c.in-Some-2.place
    (takes-rows c.args.project.now c.args.plan.now c.args.rows.now c.take_in.new.self c.in_ok-conds.conds c.requires.limit c.requires.stands
    c.requires.found sound c.in_ok-conds.ensures.works)
    (found-some (SetsFailAt c.args.project.now c.args.plan.now) c.in_ok-place-2.field-0 c.in-Some-2.place c.in-Some-2.is c.in_ok-place-2.ensures.fails)

pub judged_conditions-requires-clause-sets : goal.judged_conditions-requires-clause-sets
judged_conditions-requires-clause-sets c =
    let sound = found-none (AreRowsSound c.args.project.now c.args.plan.now) c.in_ok-place.field-0 c.in_default.not-Some c.in_ok-place.ensures.holds in
    record {
      takes =
          takes-rows c.args.project.now c.args.plan.now c.args.rows.now c.take_in.new.self c.in_ok-conds.conds c.requires.limit c.requires.stands
          c.requires.found sound c.in_ok-conds.ensures.works;
      sets = found-none (AreSetsLive c.args.project.now c.args.plan.now) c.in_ok-place-2.field-0 c.in_default-2.not-Some c.in_ok-place-2.ensures.holds;
    }

pub judged_conditions-requires-clause-stands : goal.judged_conditions-requires-clause-stands
judged_conditions-requires-clause-stands c =
    stands-after (live_worked c.args.project.now) (meanings_of c.args.plan.now.rows) c.args.rows.now c.take_in.new.self c.requires.stands
    c.in_ok-conds.conds c.in_ok-conds.ensures.works
