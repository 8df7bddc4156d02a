use Rattle.std.proofs.Common.{List, Result, Err, Contains, get_or, sym, ap, subst, ◌∙◌, arith}
use Rattle.std.specs.Prelude.{IfErr}
use Rattle.std.proofs.lemmas.Result.{err_from_is_err_and}
use Rattle.loom_laid.specs.declared.laid_set.LaidSet.{LaidSet}
use Rattle.loom_laid.specs.declared.stop.LaidStop.{LaidStop}
use Rattle.loom_laid.specs.Kept.{key_of}
use Rattle.loom_laid.specs.SetStops.{IsReachStop}
use Rattle.loom_laid.proofs.LiveNets.{no_set, set-there, net-in_range}
use Rattle.loom_laid.proofs.LaidSteps.{laid-more, reached-all, has-line, reach-stop}
use Rattle.loom_laid.proofs.laying.laid_sets.Goals as goal

pub laid_set-requires-clause-in_range : goal.laid_set-requires-clause-in_range
laid_set-requires-clause-in_range c = net-in_range c.args.project.now c.args.sets.now c.loop-set.set-index no_set c.requires.sets c.loop-set-test.true

pub laid_set-requires-clause-line : goal.laid_set-requires-clause-line
laid_set-requires-clause-line c =
    has-line c.args.project.now c.args.tables.now (get_or c.args.sets.now c.loop-set.set-index no_set).net
    (get_or c.args.sets.now c.loop-set.set-index no_set).mask c.requires.tables
    (set-there c.args.project.now c.args.sets.now c.loop-set.set-index no_set c.requires.sets c.loop-set-test.true)

pub laid_set-requires-clause-has : goal.laid_set-requires-clause-has
laid_set-requires-clause-has c =
    let set = get_or c.args.sets.now c.loop-set.set-index no_set in
    subst (λ keys. Contains keys (key_of c.args.project.now set.net.0)) (sym c.loop-set.invariant.keys)
    (c.requires.has set.net.0 set.mask (set-there c.args.project.now c.args.sets.now c.loop-set.set-index no_set c.requires.sets c.loop-set-test.true))

pub returns-in_err-laid_set-clause-stop : goal.returns-in_err-laid_set-clause-stop
returns-in_err-laid_set-clause-stop c =
    let e = err_from_is_err_and c.from_residual.result c.from_residual.ensures.1 in
    subst (λ (r : Result (List LaidSet) LaidStop). IfErr r (IsReachStop c.args.project.now)) (sym (e.1 ∙ ap Err e.2))
    (reach-stop c.args.project.now c.args.sets.now c.loop-set.set-index no_set c.in_err-laid_set.field-0.0 c.requires.sets c.loop-set-test.true
    c.loop-set.invariant.reached c.in_err-laid_set.ensures.stop)

pub loop-set-preserved : goal.loop-set-preserved
loop-set-preserved c =
    laid-more c.args.project.now c.args.tables.now c.args.sets.now c.loop-set.set-index c.loop-set.made c.laid_set.new.made c.args.kept.now c.loop-set.kept
    c.laid_set.new.kept c.loop-set.laid c.push.new.self c.in_ok-laid_set.field-0 no_set c.loop-set.invariant c.loop-set-test.true c.laid_set.ensures.made
    c.laid_set.ensures.kept c.laid_set.ensures.keys c.in_ok-push.ensures.ok
    c.in_ok-laid_set.ensures.same c.in_ok-laid_set.ensures.laid c.in_ok-laid_set.ensures.reached

pub returns-clause-reached : goal.returns-clause-reached
returns-clause-reached c =
    reached-all c.args.project.now c.args.tables.now c.args.sets.now c.loop-set.set-index c.loop-set.made c.args.kept.now c.loop-set.kept c.loop-set.laid
    c.requires.sets c.loop-set.invariant (omega (arith, c.loop-set-test.false))
