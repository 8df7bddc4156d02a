use Rattle.std.proofs.Common.{arith, ◌∙◌}
use Rattle.loom_rules.proofs.JudgedLists.{judged-limits, judged-next, judged-reports, judged-start, looked-up, not-yet, stopped-front, stopped-kinds}
use Rattle.loom_rules.proofs.judging.judge.Goals as goal

pub loop-i-init : goal.loop-i-init
loop-i-init g c = judged-start _ _ _ _ _ c.args.limits.now c.new-reports.result c.new-reports.ensures

pub judged-requires-clause-unseen : goal.judged-requires-clause-unseen
judged-requires-clause-unseen g c =
    not-yet _ _ _ _ _ c.loop-i.i c.loop-i.rules.items c.index_mut.result.now
    (omega (arith, c.loop-i.invariant.shown.same_length)) c.index_mut.ensures.value c.loop-i.invariant.shown c.requires.unseen

pub loop-i-preserved : goal.loop-i-preserved
loop-i-preserved g c =
    judged-next _ _ _ _ _ c.args.limits.now c.loop-i.i c.loop-i.rules.items c.loop-i.reports c.push.new.self
    c.index_mut.result.now c.judged.new.rule c.in_ok-report.report c.copied.result
    (c.copied.ensures ∙ looked-up c.args.limits.now c.loop-i.i c.get.result c.get.ensures.lookup) c.in_ok-push.ensures.ok
    (omega (arith, c.loop-i.invariant.shown.same_length)) c.index_mut.ensures.value c.loop-i.invariant
    c.judged.ensures.kind c.judged.ensures.front c.in_ok-report.ensures.seen c.in_ok-report.ensures.limit
    c.in_ok-report.ensures.report

pub returns-in_err-report-clause-kinds : goal.returns-in_err-report-clause-kinds
returns-in_err-report-clause-kinds g c =
    stopped-kinds _ _ _ _ _ c.loop-i.i c.loop-i.rules.items c.index_mut.result.now c.judged.new.rule
    (omega (arith, c.loop-i.invariant.shown.same_length)) c.index_mut.ensures.value c.loop-i.invariant.shown
    c.judged.ensures.kind c.judged.ensures.front

pub returns-in_err-report-clause-front : goal.returns-in_err-report-clause-front
returns-in_err-report-clause-front g c =
    stopped-front _ _ _ _ _ c.loop-i.i c.loop-i.rules.items c.index_mut.result.now c.judged.new.rule
    (omega (arith, c.loop-i.invariant.shown.same_length)) c.index_mut.ensures.value c.loop-i.invariant.shown
    c.judged.ensures.kind c.judged.ensures.front c.requires.unseen

pub returns-in_err-push-clause-kinds : goal.returns-in_err-push-clause-kinds
returns-in_err-push-clause-kinds g c =
    stopped-kinds _ _ _ _ _ c.loop-i.i c.loop-i.rules.items c.index_mut.result.now c.judged.new.rule
    (omega (arith, c.loop-i.invariant.shown.same_length)) c.index_mut.ensures.value c.loop-i.invariant.shown
    c.judged.ensures.kind c.judged.ensures.front

pub returns-in_err-push-clause-front : goal.returns-in_err-push-clause-front
returns-in_err-push-clause-front g c =
    stopped-front _ _ _ _ _ c.loop-i.i c.loop-i.rules.items c.index_mut.result.now c.judged.new.rule
    (omega (arith, c.loop-i.invariant.shown.same_length)) c.index_mut.ensures.value c.loop-i.invariant.shown
    c.judged.ensures.kind c.judged.ensures.front c.requires.unseen

pub returns-clause-limits : goal.returns-clause-limits
returns-clause-limits g c =
    judged-limits _ _ _ _ _ c.args.limits.now c.loop-i.i c.loop-i.rules.items c.loop-i.reports
    (omega (arith, c.loop-i.invariant.shown.same_length)) c.loop-i.invariant

pub returns-clause-reports : goal.returns-clause-reports
returns-clause-reports g c =
    judged-reports _ _ _ _ _ c.args.limits.now c.loop-i.i c.loop-i.rules.items c.loop-i.reports
    (omega (arith, c.loop-i.invariant.shown.same_length)) c.loop-i.invariant
