-- The list of the live sets, from the one that has their conditions as well.
use Rattle.std.proofs.Common.{◌≡◌, List, sym, subst}
use Rattle.loom_project.specs.declared.draft.Draft.{Draft}
use Rattle.loom_rows.specs.Table.{Table}
use Rattle.loom_active.specs.declared.live.LiveSet.{LiveSet}
use Rattle.loom_active.specs.FoundSets.{AreLiveSets}
use Rattle.loom_laid.specs.LaidSets.{AreTheLiveSets}

pub are-the-live-sets : (draft : Draft) (t : Table) (sets slice : List LiveSet) → AreLiveSets draft t sets → slice ≡ sets → AreTheLiveSets draft slice
are-the-live-sets draft t sets slice live same = subst (AreTheLiveSets draft) (sym same) (record { order = live.order; each = live.each; all = live.all })
