use Rattle.std.proofs.Common.{List, sym, subst, arith}
use Rattle.loom_active.specs.declared.live.LiveSet.{LiveSet}
use Rattle.loom_laid.specs.Kept.{KeepsLiveKeys}
use Rattle.loom_laid.specs.LaidSets.{AreTheLiveSets, AreLaid}
use Rattle.loom_plan.proofs.KeptKeys.{keeps_after_err, rises-by_none, rises-after_drop, rises_after_err, on_answer}
use Rattle.loom_plan.proofs.LaidLive.{the_live_sets, laid_from}
use Rattle.loom_plan.proofs.planning.plan_kept.Goals as goal

pub laid_sets-requires-clause-sets : goal.laid_sets-requires-clause-sets
laid_sets-requires-clause-sets g c =
    subst (λ (l : List LiveSet). AreTheLiveSets c.args.project.now l) (sym c.as_slice.ensures)
    (the_live_sets c.args.project.now c.found_sets.new.rows c.in_ok-sets.sets c.in_ok-sets.ensures.found.live)

pub plan_of_laid-requires-clause-laid : goal.plan_of_laid-requires-clause-laid
plan_of_laid-requires-clause-laid g c =
    laid_from c.args.project.now c.found_sets.new.rows c.in_ok-sets.sets c.in_ok-laid.laid c.in_ok-sets.ensures.found c.in_ok-laid.ensures.lays c.in_ok-laid.ensures.tables
    (subst (λ (l : List LiveSet). AreLaid c.args.project.now c.in_ok-laid.laid.tables l c.in_ok-laid.laid.sets) c.as_slice.ensures c.in_ok-laid.ensures.laid)

pub returns-in_err-or_stop-clause-keeps_all : goal.returns-in_err-or_stop-clause-keeps_all
returns-in_err-or_stop-clause-keeps_all g c =
    keeps_after_err c.args.project.now c.args.kept.now c.laid_sets.new.kept c.keep_planned.new.kept c.keep_planned.result c.from_residual-in_err-or_stop.result
    c.in_err-or_stop.ensures.err c.keep_planned.ensures.refused c.laid_sets.ensures.keeps

pub returns-in_err-sets-clause-built : goal.returns-in_err-sets-clause-built
returns-in_err-sets-clause-built g c = rises-by_none c.args.kept.now _ (omega (arith, c.built-count.ensures, c.built-count.auto))

pub returns-in_err-or_stop-clause-built : goal.returns-in_err-or_stop-clause-built
returns-in_err-or_stop-clause-built g c =
    rises_after_err c.args.kept.now c.laid_sets.new.kept c.keep_planned.new.kept _ _ c.keep_planned.result c.in_err-or_stop.ensures.err
    c.keep_planned.ensures.refused c.laid_sets.ensures.built

pub returns-clause-built : goal.returns-clause-built
returns-clause-built g c =
    rises-after_drop c.args.project.now c.args.kept.now c.laid_sets.new.kept c.keep_planned.new.kept _ _ c.laid_sets.ensures.keeps c.in_ok-laid.ensures.has_live
    (on_answer (KeepsLiveKeys c.args.project.now c.keep_planned.new.kept) c.keep_planned.result c.in_ok-or_stop.field-0 c.in_ok-or_stop.ensures.ok c.keep_planned.ensures.keeps)
    c.laid_sets.ensures.built
