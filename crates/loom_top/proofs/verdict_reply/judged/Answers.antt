use Rattle.std.proofs.Common.{Ok, ap}
use Rattle.loom_top.proofs.VerdictReplies.{JudgingLaws, told_replies, unjudged_replies}
use Rattle.loom_top.proofs.verdict_reply.judged.Goals as goal

pub returns-in-Ok : goal.returns-in-Ok
returns-in-Ok c =
    let laws : JudgingLaws = record { plans = c.plans_pass.ensures; fails = c.passing_is_yes.ensures.fails; stops = c.passing_is_yes.ensures.stops } in
    told_replies laws c.args.project.now c.draft-draft.ensures.sound c.has_sound_topologies.ensures c.args.plan.now c.in-Ok.verdict c.told.result
    c.in-Ok.ensures.verdict (λ same. c.in-Ok.ensures.right (ap Ok same)) c.told.ensures.kind c.told.ensures.line

pub returns-in_ok-stop-in-Err : goal.returns-in_ok-stop-in-Err
returns-in_ok-stop-in-Err c =
    let laws : JudgingLaws = record { plans = c.plans_pass.ensures; fails = c.passing_is_yes.ensures.fails; stops = c.passing_is_yes.ensures.stops } in
    unjudged_replies laws c.args.project.now c.draft-draft.ensures.sound c.has_sound_topologies.ensures c.args.plan.now c.in-Err.stop
    c.in_ok-stop-in-Err.stop c.refused.result c.in-Err.ensures.stop c.in_ok-stop-in-Err.ensures.other c.in_ok-stop-in-Err.ensures.nameable
    c.in_ok-stop-in-Err.ensures.named c.refused.ensures.kind c.refused.ensures.line
