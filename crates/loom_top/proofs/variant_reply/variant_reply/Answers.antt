use Rattle.loom_top.proofs.PlanReplies.{new_over}
use Rattle.loom_top.proofs.Variants.{made_choice, replies_to_it}
use Rattle.loom_top.proofs.variant_reply.variant_reply.Goals as goal

pub returns : goal.returns
returns c =
    replies_to_it c.project.result.now c.unwrap-plan.result c.as_slice-2.result.now c.args.document c.named_reply.result
    (made_choice c.args.document c.new-session.result.changes c.make_all.new.session.changes c.as_slice.result.now c.project.result.now
    c.unwrap-plan.result c.as_slice-2.result.now (new_over c.new-session.result c.args.document.project c.new-session.ensures) c.as_slice.ensures
    c.in_ok-make_all.ensures c.project.ensures c.unwrap-plan.ensures c.as_slice-2.ensures)
    c.named_reply.ensures
