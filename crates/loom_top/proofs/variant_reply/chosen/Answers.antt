use Rattle.std.proofs.Common.{◌≡◌, ℕ, List, Ok, ap, ◌∙◌}
use Rattle.loom_json.specs.Text.{line_of}
use Rattle.loom_top.specs.Variants.{variant_shown}
use Rattle.loom_top.specs.RepliesInside.{RepliesToChoice}
use Rattle.loom_formula.specs.Choice.{choice_of}
use Rattle.loom_top.specs.declared.refusal.Refusal.TheVariants.{BrokenRule}
use Rattle.loom_top.specs.declared.job.DocumentJob.TheVariants.{Extract}
use Rattle.loom_top.proofs.Documents.{of_refusing, refuses_document}
use Rattle.loom_top.proofs.Variants.{broken_refuses, variant_answers}
use Rattle.loom_top.proofs.variant_reply.chosen.Goals as goal

pub returns-in_ok-line-in-Ok : goal.returns-in_ok-line-in-Ok
returns-in_ok-line-in-Ok c = λ names made document has asked input read.
    variant_answers c.args.project.now c.args.plan.now c.options.result.now names c.rules.result.now c.args.choice.now.values c.in-Ok.variant.numbers _
    c.options.ensures c.rules.ensures made c.in-Ok.ensures.variant
    (c.in_ok-line-in-Ok.ensures ∙ ap line_of (c.in_ok-value-in-Ok.ensures.value ∙ ap (variant_shown c.args.plan.now) c.as_slice.ensures))
    document has asked input read

pub returns-in-Err-BrokenRule : goal.returns-in-Err-BrokenRule
returns-in-Err-BrokenRule c =
    of_refusing
    (λ reply. (names : List (List ℕ)) → choice_of c.args.project.now.options names ≡ Ok c.args.choice.now.values
    → RepliesToChoice c.args.project.now c.args.plan.now names reply)
    (BrokenRule c.in-Err-BrokenRule.rule) c.refused.result
    (λ reply refuses line_is names made document has.
    refuses_document Extract (BrokenRule c.in-Err-BrokenRule.rule) reply refuses line_is document
    (broken_refuses c.args.project.now c.args.plan.now c.options.result.now names c.rules.result.now c.args.choice.now.values c.in-Err-BrokenRule.rule
    c.options.ensures c.rules.ensures made (rw c.in-Err-BrokenRule.field-0-is at c.in-Err-BrokenRule.ensures.variant) document has))
    c.refused.ensures.kind c.refused.ensures.line
