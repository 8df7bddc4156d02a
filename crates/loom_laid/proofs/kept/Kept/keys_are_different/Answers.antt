use Rattle.std.proofs.Common.{List, subst}
use Rattle.loom_laid.specs.Kept.{KeptTable, AreDifferent}
use Rattle.loom_laid.proofs.KeyLemmas.{pairs-different}
use Rattle.loom_laid.proofs.kept.Kept.keys_are_different.Goals as goal

pub returns : goal.returns
returns c = subst (λ (l : List KeptTable). AreDifferent l) c.self.view_is (pairs-different c.self.inside.entries.entries c.len-count.ensures.unique)
