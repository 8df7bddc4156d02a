use Rattle.std.proofs.Common.{[], ◌++◌, take, sym, ap, ◌∙◌}
use Rattle.std.specs.List.{cons_option}
use Rattle.loom_project.specs.Classes.{barred_numbers}
use Rattle.loom_project.proofs.ClassLemmas.{numbers_next}
use Rattle.loom_project.proofs.classes.numbers_of_bars.Goals as goal

pub loop-bar-preserved : goal.loop-bar-preserved
loop-bar-preserved c =
    let before = barred_numbers c.args.classes.now (take c.loop-bar.bar-index c.args.bars.now) in
    c.in_ok-push_some.ensures ∙ ap (λ ns. ns ++ cons_option c.position.result []) c.loop-bar.invariant
    ∙ ap (λ o. before ++ cons_option o []) c.position.ensures.value
    ∙ sym (numbers_next _ _ _ _ c.bar-item.is c.loop-bar-test.true)
