use Rattle.loom_top.proofs.PlanReplies.{stop_reply}
use Rattle.loom_top.proofs.plan_reply.stopped.Goals as goal

pub returns : goal.returns
returns c =
    stop_reply c.args.project.now c.args.stop.now c.in_ok-stop.stop c.refused.result c.requires c.in_ok-stop.ensures.nameable c.in_ok-stop.ensures.named
    c.refused.ensures.kind c.refused.ensures.line
