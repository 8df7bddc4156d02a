use Rattle.std.proofs.Common.{[], ◌∙◌}
use Rattle.std.proofs.lemmas.List.{get_or_default}
use Rattle.loom_formula.specs.Choice.{choice_at}
use Rattle.loom_answer.specs.Stops.{name_at}
use Rattle.loom_answer.proofs.StopNames.{options_next}
use Rattle.loom_answer.proofs.named_stop.true_options.Goals as goal

pub loop-i-preserved : goal.loop-i-preserved
loop-i-preserved c =
    options_next (choice_at c.args.choice.now.values) (name_at c.args.options.now) _ _ _ _ _ c.loop-i.invariant c.get-is_true.ensures
    (c.index-options-i.is ∙ get_or_default c.args.options.now c.loop-i.i c.index-options-i.result [] c.loop-i-test.true)
    c.in_ok-push_if.ensures
