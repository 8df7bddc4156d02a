use Rattle.std.proofs.Common.{List, sym, subst, ◌∙◌, Contains}
use Rattle.loom_laid.specs.Kept.{KeptTable, keys_of}
use Rattle.loom_laid.specs.Keys.{pair_of}
use Rattle.loom_laid.proofs.KeyLemmas.{has-of_lookup, lookup-of_has}
use Rattle.loom_laid.proofs.kept.Kept.has.Goals as goal

pub returns : goal.returns
returns c = (
  (λ found. subst (λ (l : List KeptTable). Contains (keys_of l) (pair_of c.args.key.now)) c.self.view_is
      (has-of_lookup c.args.key.now c.self.inside.entries.entries (sym c.contains_key.ensures ∙ found))),
  (λ at. c.contains_key.ensures ∙ lookup-of_has c.args.key.now c.self.inside.entries.entries
      (subst (λ (l : List KeptTable). Contains (keys_of l) (pair_of c.args.key.now)) (sym c.self.view_is) at)),
)
