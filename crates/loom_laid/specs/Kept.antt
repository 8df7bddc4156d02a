use Rattle.std.specs.Prelude.{ℕ, List, ◌≡◌, ◌≢◌, ◌<◌, ◌⊎◌, ◌↔◌, ◌-◌, ◌^◌, ◌+◌, map, min, length, All, AllPairs, Contains}
use Rattle.std.specs.List.{range_with_len}
use Rattle.loom_topology.specs.Topology.{TopologyView, node_of}
use Rattle.loom_topology.specs.Table.{TableView, cell_at, IsWhole}
use Rattle.loom_project.specs.declared.draft.Draft.{Draft}
use Rattle.loom_project.specs.Project.{topology_of, class_topology, net_at, cavities_of}
use Rattle.loom_types.specs.declared.layout.Layout.{Layout}
use Rattle.loom_types.specs.SetMask.{stem_of}
use Rattle.loom_steiner.specs.LeastTable.{IsLeastTable}
use Rattle.loom_layout.specs.Laws.{AreAlike}
use Rattle.loom_layout.specs.Layout.{IsLayoutOf}
use Rattle.loom_active.specs.LiveSets.{IsLiveSet}

-- a list of numbers: a class by its bytes, or nodes
abbrev pub Codes : Type 0
Codes = List ℕ

-- what is kept under a class and a list of the nodes of terminals: the table, and the layouts of some sets by their masks
pub record KeptTable : Type 0 where
  pub class : List ℕ
  pub nodes : List ℕ
  pub table : TableView
  pub layouts : List (ℕ × Layout)

-- the topology with one cavity at each of these nodes, in order, in the place of its own
abbrev pub with_cavities_at : TopologyView → List ℕ → TopologyView
with_cavities_at topology nodes = record topology { cavities = nodes }

-- the cavities of such a topology, in order
abbrev pub all_of : List ℕ → List ℕ
all_of nodes = range_with_len 0 (length nodes)

-- the class's present topology, with cavities at the nodes under which something is kept
abbrev pub kept_topology : Draft → KeptTable → TopologyView
kept_topology draft kept = with_cavities_at (class_topology draft kept.class) kept.nodes

-- of a net whose terminals lie at its nodes it has the table, and layouts of sets, over the class's present topology,
-- whether the draft has such terminals or not
pub record IsTrueOf (draft : Draft) (kept : KeptTable) : Type 0 where
  pub whole : IsWhole kept.table
  pub table : IsLeastTable (kept_topology draft kept) (all_of kept.nodes) kept.table
  pub stems : (mask : ℕ) (layout : Layout) → Contains kept.layouts (mask, layout) → stem_of mask < length kept.nodes
  pub layouts : (mask : ℕ) (layout : Layout) → Contains kept.layouts (mask, layout)
      → IsLayoutOf (kept_topology draft kept) (all_of kept.nodes) (cell_at kept.table) mask layout

-- so is all that is kept
abbrev pub AreTrueOf : Draft → List KeptTable → Type 0
AreTrueOf draft kept = All (IsTrueOf draft) kept

-- what least costs and layouts rest on is the same in two drafts, whatever class a net has
abbrev pub IsSameGround : Draft → Draft → Type 0
IsSameGround one other = (class : List ℕ) → AreAlike (class_topology one class) (class_topology other class)

-- what is kept stays true as long as the ground is the same
abbrev pub KeptStaysTrue : Type 0
KeptStaysTrue = (one other : Draft) (kept : List KeptTable) → IsSameGround one other → AreTrueOf one kept → AreTrueOf other kept

-- under what a table is kept
abbrev pub keys_of : List KeptTable → List (List ℕ × List ℕ)
keys_of kept = map (λ k. (k.class, k.nodes)) kept

-- under what a net's table is kept: its class, and the nodes of its terminals
abbrev pub key_of : Draft → ℕ → List ℕ × List ℕ
key_of draft net = ((net_at draft net).class, map (node_of (topology_of draft)) (cavities_of draft net))

-- the key is that of a net that has a live set
abbrev pub IsLiveKey : Draft → List ℕ × List ℕ → Type 0
IsLiveKey draft key = (net : ℕ) × (mask : ℕ) × IsLiveSet draft net mask × (key ≡ key_of draft net)

-- each key once
abbrev pub AreDifferent : List KeptTable → Type 0
AreDifferent kept = AllPairs (λ one other. one ≢ other) (keys_of kept)

-- each live set's net has its key there
abbrev pub HasLiveKeys : Draft → List KeptTable → Type 0
HasLiveKeys draft kept = (net mask : ℕ) → IsLiveSet draft net mask → Contains (keys_of kept) (key_of draft net)

-- what is kept after a plan: exactly under the keys of nets that have a live set
abbrev pub KeepsLiveKeys : Draft → List KeptTable → Type 0
KeepsLiveKeys draft new = (key : List ℕ × List ℕ) → Contains (keys_of new) key ↔ IsLiveKey draft key

-- what is kept after a stop: all that was, and beside it only under keys of nets that have a live set
pub record KeepsAll (draft : Draft) (old new : List KeptTable) : Type 0 where
  pub all : (key : List ℕ × List ℕ) → Contains (keys_of old) key → Contains (keys_of new) key
  pub only : (key : List ℕ × List ℕ) → Contains (keys_of new) key → Contains (keys_of old) key ⊎ IsLiveKey draft key

-- keys that are kept now and weren't before, each once
pub record AreNewKeys (old new : List KeptTable) (keys : List (List ℕ × List ℕ)) : Type 0 where
  pub different : AllPairs (λ one other. one ≢ other) keys
  pub are_new : (key : List ℕ × List ℕ) → Contains keys key ↔ (Contains (keys_of new) key × (Contains (keys_of old) key → ⊥))

-- a count rose by the number of keys that are kept now and weren't before; it stops at the last value of a u64
pub record RisesByNewKeys (old new : List KeptTable) (before after : ℕ) : Type 0 where
  pub keys : List (List ℕ × List ℕ)
  pub are_new : AreNewKeys old new keys
  pub count : after ≡ min (before + length keys) (2 ^ 64 - 1)
