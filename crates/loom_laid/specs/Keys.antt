use Rattle.std.specs.Prelude.{ℕ, List, ◌≡◌, ◌↔◌, Contains}
use Rattle.loom_base.specs.declared.positions.NetNo.{NetNo}
use Rattle.loom_project.specs.declared.draft.Draft.{Draft}
use Rattle.loom_laid.specs.declared.key.TableKey.{TableKey}
use Rattle.loom_laid.specs.Kept.{key_of}

-- a key as its class and its nodes
abbrev pub pair_of : TableKey → List ℕ × List ℕ
pair_of key = (key.class, key.nodes)

-- the keys of these nets
abbrev pub AreKeysOf : Draft → List NetNo → List TableKey → Type 0
AreKeysOf draft nets keys =
    (key : TableKey) → Contains keys key ↔ ((net : NetNo) × Contains nets net × (pair_of key ≡ key_of draft net.0))
