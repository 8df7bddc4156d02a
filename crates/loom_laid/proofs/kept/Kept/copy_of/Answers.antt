use Rattle.std.proofs.Common.{◌≡◌, List, is_some, map, sym, ap, subst, ◌∙◌, Contains}
use Rattle.std.specs.Prelude.{option_copied}
use Rattle.loom_topology.specs.Table.{TableView}
use Rattle.loom_laid.specs.Kept.{KeptTable, keys_of}
use Rattle.loom_laid.specs.Keys.{pair_of}
use Rattle.loom_laid.specs.KeptInside.{kept_of}
use Rattle.loom_laid.specs.Growth.{HasTable}
use Rattle.loom_laid.proofs.KeyLemmas.{lookup-of_has, table-of_lookup, if_ok-weaker}
use Rattle.loom_laid.proofs.CopiedLemmas.{some_copied}
use Rattle.loom_laid.proofs.kept.Kept.copy_of.Goals as goal

pub unwrap-requires : goal.unwrap-requires
unwrap-requires c =
    some_copied c.get.result
    (ap is_some c.get.ensures.value
    ∙ lookup-of_has c.args.key.now c.self.inside.entries.entries
    (subst (λ (l : List KeptTable). Contains (keys_of l) (pair_of c.args.key.now)) (sym c.self.view_is) c.requires))

pub returns : goal.returns
returns c =
    if_ok-weaker c.copy.result (λ table. table ≡ c.unwrap.result.now.table) (HasTable c.args.self.now (pair_of c.args.key.now))
    (λ table e. subst (λ (l : List KeptTable). HasTable l (pair_of c.args.key.now) table) c.self.view_is
    (subst (λ (t : TableView). HasTable (map kept_of c.self.inside.entries.entries) (pair_of c.args.key.now) t) (sym e)
    (table-of_lookup c.args.key.now c.self.inside.entries.entries c.unwrap.result.now (sym c.get.ensures.value ∙ ap option_copied c.unwrap.ensures))))
    c.copy.ensures
