use Rattle.std.proofs.Common.{sym}
use Rattle.loom_formula.proofs.NameLemmas.{position-stored}
use Rattle.loom_formula.proofs.name_index.NameIndex.position.Goals as goal

pub returns-clause-stored : goal.returns-clause-stored
returns-clause-stored c =
    rw (← c.self.view_is) (position-stored c.self.inside.names.keys c.args.name.now c.in_ok-at.at (sym c.in_ok-at.ensures.index))
