use Rattle.std.proofs.Common.{◌∙◌, ap, false}
use Rattle.std.specs.Option.{unwrap_or}
use Rattle.std.proofs.lemmas.Option.{unwrap_or-slice_get}
use Rattle.loom_formula.proofs.choice.Choice.get.Goals as goal

pub returns-in-None : goal.returns-in-None
returns-in-None c =
    ap (λ found. unwrap_or found false) c.in-None.ensures.value ∙ unwrap_or-slice_get c.args.self.now.values c.args.option.0 false
