use Rattle.std.proofs.Common.{◌∙◌, sym, ap}
use Rattle.loom_formula.specs.Choice.{choice_at}
use Rattle.loom_formula.specs.Formula.{is_chosen, holds_of}
use Rattle.loom_formula.proofs.Folds.{holds_where-And, holds_where-Or, holds_where-One}
use Rattle.loom_formula.proofs.formula.+holds.Goals as goal

pub Formula::holds-returns-in-And : goal.Formula::holds-returns-in-And
Formula::holds-returns-in-And t c =
    let options = c.args.options.now in
    let choice = choice_at c.args.choice.now.values in
    c.all_hold.ensures ∙ sym (ap (λ f. holds_of f options choice) c.in-And.is ∙ holds_where-And (is_chosen options choice) c.in-And.members)

pub Formula::holds-returns-in-Or : goal.Formula::holds-returns-in-Or
Formula::holds-returns-in-Or t c =
    let options = c.args.options.now in
    let choice = choice_at c.args.choice.now.values in
    c.some_holds.ensures ∙ sym (ap (λ f. holds_of f options choice) c.in-Or.is ∙ holds_where-Or (is_chosen options choice) c.in-Or.members)

pub Formula::holds-returns-in-One : goal.Formula::holds-returns-in-One
Formula::holds-returns-in-One t c =
    let options = c.args.options.now in
    let choice = choice_at c.args.choice.now.values in
    c.one_holds.ensures ∙ sym (ap (λ f. holds_of f options choice) c.in-One.is ∙ holds_where-One (is_chosen options choice) c.in-One.members)
