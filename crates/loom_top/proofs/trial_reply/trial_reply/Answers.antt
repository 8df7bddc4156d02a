use Rattle.std.proofs.Common.{rules, ap, sym, ◌∙◌}
use Rattle.loom_project.specs.Sound.{draft_check}
use Rattle.loom_top.proofs.TrialReplies.{fault_replies}
use Rattle.loom_top.proofs.trial_reply.trial_reply.Goals as goal

pub returns-in-Err : goal.returns-in-Err
returns-in-Err c =
    fault_replies c.args.trial c.in-Err.fault c.refused.result
    (ap draft_check (sym c.in_ok-trial_project.ensures) ∙ c.in-Err.ensures.gives (search rules))
    c.refused.ensures.kind c.refused.ensures.line
