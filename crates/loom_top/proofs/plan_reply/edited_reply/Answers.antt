use Rattle.loom_top.proofs.PlanReplies.{edited_replies, edited_stops}
use Rattle.loom_top.proofs.plan_reply.edited_reply.Goals as goal

pub returns-in-Ok : goal.returns-in-Ok
returns-in-Ok g c =
    edited_replies c.args.session.now.changes c.outcomes_of.new.session.changes c.plan.new.self.changes c.project-project.result.now c.args.entries.now
    c.requires.fresh c.in_ok-outcomes.ensures.changes c.plan.ensures.same c.project-project.ensures
    _ c.args.version c.args.limits.now c.in_ok-outcomes.outcomes c.as_slice-outcomes.result.now c.in-Ok.plan _
    c.in_ok-outcomes.ensures.outcomes c.as_slice-outcomes.ensures c.in-Ok.ensures.plan c.in-Ok.ensures.right c.in-Ok.ensures.has_plan
    c.in_ok-plan_line-in-Ok.ensures

pub returns : goal.returns
returns g c =
    edited_stops c.args.session.now.changes c.outcomes_of.new.session.changes c.plan.new.self.changes c.project.result.now c.args.entries.now
    c.requires.fresh c.in_ok-outcomes.ensures.changes c.plan.ensures.same c.project.ensures
    _ c.args.version c.args.limits.now c.stopped.result c.stopped.ensures
