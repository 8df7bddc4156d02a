use Rattle.std.proofs.Common.{List, sym, refl, subst, ◌∙◌, Contains}
use Rattle.loom_laid.specs.Kept.{KeptTable, keys_of}
use Rattle.loom_laid.specs.Keys.{pair_of}
use Rattle.loom_laid.proofs.KeyLemmas.{lookup-of_has}
use Rattle.loom_laid.proofs.LayoutsKept.{gains-at, holds-inserted, holds-same}
use Rattle.loom_laid.proofs.kept.Kept.keep_layout.Goals as goal

pub unwrap-at-requires : goal.unwrap-at-requires
unwrap-at-requires c =
    c.get_index_of.ensures.found
    ∙ lookup-of_has c.args.key.now c.self.inside.entries.entries
    (subst (λ (l : List KeptTable). Contains (keys_of l) (pair_of c.args.key.now)) (sym c.self.view_is) c.requires)

pub returns-in_err-insert : goal.returns-in_err-insert
returns-in_err-insert c =
    gains-at c.args.key.now c.args.self.now c.self.inside.entries.entries c.unwrap-at.result c.index_mut.result.now
    (record { table = c.index_mut.result.now.table; layouts = c.insert.new.self }) c.args.mask c.args.layout c.get_index_of.result c.self.view_is
    c.get_index_of.ensures.index c.unwrap-at.ensures c.index_mut.ensures.value refl
    (holds-same c.index_mut.result.now.layouts.entries c.insert.new.self.entries c.args.mask c.args.layout c.in_err-insert.ensures.err)

pub returns : goal.returns
returns c =
    gains-at c.args.key.now c.args.self.now c.self.inside.entries.entries c.unwrap-at.result c.index_mut.result.now
    (record { table = c.index_mut.result.now.table; layouts = c.insert.new.self }) c.args.mask c.args.layout c.get_index_of.result c.self.view_is
    c.get_index_of.ensures.index c.unwrap-at.ensures c.index_mut.ensures.value refl
    (holds-inserted c.index_mut.result.now.layouts.entries c.insert.new.self.entries c.args.mask c.args.layout c.in_ok-insert.ensures.entries)
