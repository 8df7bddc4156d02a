use Rattle.std.proofs.Common.{ap, ◌∙◌}
use Rattle.loom_json.specs.Text.{line_of}
use Rattle.loom_top.proofs.TrialReplies.{summary_replies, stops_reply}
use Rattle.loom_top.proofs.trial_reply.planned_reply.Goals as goal

pub returns-in_ok-line-in-Ok : goal.returns-in_ok-line-in-Ok
returns-in_ok-line-in-Ok c =
    summary_replies c.args.trial c.args.project.now c.in-Ok.plan _ c.requires.draft c.requires.sound c.in-Ok.ensures.plan c.in-Ok.ensures.right
    (c.in_ok-line-in-Ok.ensures ∙ ap line_of c.in_ok-summary-in-Ok.ensures.value)

pub returns-in-Err : goal.returns-in-Err
returns-in-Err c =
    stops_reply c.args.trial c.args.project.now c.stopped.result c.requires.draft c.requires.sound c.stopped.ensures
