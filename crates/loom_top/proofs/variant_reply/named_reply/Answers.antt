use Rattle.std.proofs.Common.{rules}
use Rattle.loom_top.specs.RepliesInside.{RepliesToChoice}
use Rattle.loom_top.specs.declared.refusal.Refusal.TheVariants.{Choice}
use Rattle.loom_top.specs.declared.job.DocumentJob.TheVariants.{Extract}
use Rattle.loom_top.proofs.Documents.{of_refusing, refuses_document}
use Rattle.loom_top.proofs.Variants.{choice_refuses, of_choice}
use Rattle.loom_top.proofs.variant_reply.named_reply.Goals as goal

pub returns-in-Ok : goal.returns-in-Ok
returns-in-Ok c =
    of_choice c.args.project.now c.args.plan.now c.options.result.now c.args.names.now c.in-Ok.choice.values c.chosen.result
    c.options.ensures c.in-Ok.ensures c.chosen.ensures

pub returns-in-Err : goal.returns-in-Err
returns-in-Err c =
    of_refusing (RepliesToChoice c.args.project.now c.args.plan.now c.args.names.now)
    (Choice c.in-Err.fault) c.refused.result
    (λ reply refuses line_is document has.
    refuses_document Extract (Choice c.in-Err.fault) reply refuses line_is document
    (choice_refuses c.args.project.now c.args.plan.now c.options.result.now c.args.names.now c.in-Err.fault
    c.options.ensures (search rules) c.in-Err.ensures document has))
    c.refused.ensures.kind c.refused.ensures.line
