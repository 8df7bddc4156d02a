use Rattle.loom_top.proofs.PlanReplies.{new_over}
use Rattle.loom_top.proofs.VerdictReplies.{made_judged, replies_to_judged}
use Rattle.loom_top.proofs.verdict_reply.verdict_reply.Goals as goal

pub returns : goal.returns
returns c =
    replies_to_judged c.project.result.now c.unwrap-plan.result c.args.document c.judged.result
    (made_judged c.args.document c.new-session.result.changes c.make_all.new.session.changes c.as_slice.result.now c.project.result.now
    c.unwrap-plan.result (new_over c.new-session.result c.args.document.project c.new-session.ensures) c.as_slice.ensures
    c.in_ok-make_all.ensures c.project.ensures c.unwrap-plan.ensures)
    c.judged.ensures
