use Rattle.std.specs.Prelude.{ℕ, List, [], ◌∷◌, ◌++◌, ◌≡◌, ◌≢◌, ◌⊎◌, ◌+◌, ◌-◌, ◌^◌, min, length, AllPairs, Contains}
use Rattle.loom_topology.specs.Topology.{TopologyView}
use Rattle.loom_topology.specs.Table.{TableView, IsWhole}
use Rattle.loom_types.specs.declared.layout.Layout.{Layout}
use Rattle.loom_steiner.specs.LeastTable.{IsLeastTable}
use Rattle.loom_project.specs.declared.draft.Draft.{Draft}
use Rattle.loom_laid.specs.Kept.{KeptTable, keys_of, IsLiveKey}

-- the table is kept under the key
pub record HasTable (kept : List KeptTable) (key : List ℕ × List ℕ) (table : TableView) : Type 0 where
  pub entry : KeptTable
  pub there : Contains kept entry
  pub of_key : (entry.class, entry.nodes) ≡ key
  pub is_table : entry.table ≡ table

-- the layout of a set is kept under the key
pub record HasLayout (kept : List KeptTable) (key : List ℕ × List ℕ) (mask : ℕ) (layout : Layout) : Type 0 where
  pub entry : KeptTable
  pub there : Contains kept entry
  pub of_key : (entry.class, entry.nodes) ≡ key
  pub has : Contains entry.layouts (mask, layout)

-- the same but for its layouts, each of which was there or is this one, which is of the key
pub record IsSameBut (before after : KeptTable) (key : List ℕ × List ℕ) (mask : ℕ) (layout : Layout) : Type 0 where
  pub class : after.class ≡ before.class
  pub nodes : after.nodes ≡ before.nodes
  pub table : after.table ≡ before.table
  pub layouts : (m : ℕ) (l : Layout) → Contains after.layouts (m, l)
      → Contains before.layouts (m, l) ⊎ (((before.class, before.nodes) ≡ key) × (m ≡ mask) × (l ≡ layout))

-- the keys and tables stay, and the layouts but for this one, which may have been added under the key
pub record GainsLayout (old new : List KeptTable) (key : List ℕ × List ℕ) (mask : ℕ) (layout : Layout) : Type 0 where
  pub keys : keys_of new ≡ keys_of old
  pub each : (after : KeptTable) → Contains new after
      → (before : KeptTable) × Contains old before × IsSameBut before after key mask layout

-- a table, without layouts, under a key
abbrev pub kept_under : List ℕ × List ℕ → TableView → KeptTable
kept_under key table = record { class = key.0; nodes = key.1; table = table; layouts = [] }

-- a table of least costs was put behind what was kept, under the key
pub record IsFilled (topology : TopologyView) (terminals : List ℕ) (key : List ℕ × List ℕ) (old new : List KeptTable) : Type 0 where
  pub table : TableView
  pub least : IsLeastTable topology terminals table
  pub whole : IsWhole table
  pub added : new ≡ old ++ kept_under key table ∷ []

-- what is kept grew by keys of nets that have a live set, which weren't there, and a count rose by their number
pub record Grew (draft : Draft) (old new : List KeptTable) (before after : ℕ) : Type 0 where
  pub keys : List (List ℕ × List ℕ)
  pub added : keys_of new ≡ keys_of old ++ keys
  pub different : AllPairs (λ one other. one ≢ other) keys
  pub are_new : (key : List ℕ × List ℕ) → Contains keys key → Contains (keys_of old) key → ⊥
  pub are_live : (key : List ℕ × List ℕ) → Contains keys key → IsLiveKey draft key
  pub count : after ≡ min (before + length keys) (2 ^ 64 - 1)
