-- Each net's terminals are worked out in turn.
use Rattle.std.proofs.Common.{List, sym, ap, subst, ◌∙◌, arith, Result, Err}
use Rattle.std.proofs.lemmas.Result.{err_from_is_err_and}
use Rattle.loom_rows.specs.declared.stop.RowsStop.{RowsStop}
use Rattle.loom_rows.specs.Condition.{value}
use Rattle.loom_rows.specs.Leftovers.{Works}
use Rattle.loom_rows.proofs.Outcomes.{keeps}
use Rattle.loom_active.specs.declared.terminals.Terminal.{Terminal}
use Rattle.loom_active.specs.LiveWork.{terminals_worked}
use Rattle.loom_active.proofs.TerminalSteps.{net-stop, net-no_memory, net-next, nets-works}
use Rattle.loom_active.proofs.terminals.terminals_of.Goals as goal

pub terminals_of_net-requires-clause-has : goal.terminals_of_net-requires-clause-has
terminals_of_net-requires-clause-has c = keeps c.loop-net.invariant.progress.gains c.args.valid c.requires.has

pub returns-in_err-terminals-clause-works : goal.returns-in_err-terminals-clause-works
returns-in_err-terminals-clause-works c =
    let e = err_from_is_err_and c.from_residual.result c.from_residual.ensures.1 in
    subst (λ (r : Result (List (List Terminal)) RowsStop). Works (terminals_worked c.args.project.now.options (value c.args.valid) c.args.project.now.nets) c.args.rows.now c.terminals_of_net.new.rows r) (sym (e.1 ∙ ap Err e.2))
    (net-stop c.args.project.now (value c.args.valid) c.loop-net.net (omega (arith, c.loop-net-test.true, c.net_count-net-end.ensures.count)) c.args.rows.now c.loop-net.rows c.loop-net.nets c.loop-net.invariant c.terminals_of_net.new.rows c.in_err-terminals.field-0.0 c.in_err-terminals.ensures.works)

pub returns-in_err-push-clause-works : goal.returns-in_err-push-clause-works
returns-in_err-push-clause-works c =
    let e = err_from_is_err_and c.from_residual-in_err-push.result c.from_residual-in_err-push.ensures.1 in
    subst (λ (r : Result (List (List Terminal)) RowsStop). Works (terminals_worked c.args.project.now.options (value c.args.valid) c.args.project.now.nets) c.args.rows.now c.terminals_of_net.new.rows r) (sym (e.1 ∙ ap Err e.2))
    (net-no_memory c.args.project.now (value c.args.valid) c.loop-net.net (omega (arith, c.loop-net-test.true, c.net_count-net-end.ensures.count)) c.args.rows.now c.loop-net.rows c.loop-net.nets c.loop-net.invariant c.terminals_of_net.new.rows c.in_ok-terminals.terminals c.in_ok-terminals.ensures.works)

pub loop-net-preserved : goal.loop-net-preserved
loop-net-preserved c = net-next c.args.project.now (value c.args.valid) c.loop-net.net (omega (arith, c.loop-net-test.true, c.net_count-net-end.ensures.count)) c.args.rows.now c.loop-net.rows c.loop-net.nets c.loop-net.invariant c.terminals_of_net.new.rows c.in_ok-terminals.terminals c.in_ok-terminals.ensures.works c.in_ok-terminals.ensures.terminals c.push.new.self c.in_ok-push.ensures.ok

pub returns-clause-works : goal.returns-clause-works
returns-clause-works c = nets-works c.args.project.now (value c.args.valid) c.loop-net.net (omega (arith, c.loop-net-test.false, c.net_count-net-end.ensures.count)) c.args.rows.now c.loop-net.rows c.loop-net.nets c.loop-net.invariant
