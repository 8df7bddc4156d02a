use Rattle.std.specs.Prelude.{ℕ, List, Some, ◌≡◌, ◌-◌, ◌*◌, ◌^◌, map, length, sum_by, AllPairs, Contains}
use Rattle.std.specs.List.{All}
use Rattle.std.specs.List.Sorted.{IsStrictlyIncreasing}
use Rattle.loom_topology.specs.Table.{cell_at, IsWhole}
use Rattle.loom_project.specs.declared.draft.Draft.{Draft}
use Rattle.loom_project.specs.Project.{net_topology, cavities_of}
use Rattle.loom_types.specs.declared.plan.TableLine.{TableLine}
use Rattle.loom_types.specs.SetMask.{rest_of, stem_node}
use Rattle.loom_steiner.specs.LeastTable.{IsLeastTable}
use Rattle.loom_layout.specs.Layout.{IsLayoutOf}
use Rattle.loom_active.specs.declared.live.LiveSet.{LiveSet}
use Rattle.loom_active.specs.FoundSets.{ComesBefore}
use Rattle.loom_active.specs.LiveSets.{IsLiveSet}
use Rattle.loom_laid.specs.declared.laid_set.LaidSet.{LaidSet}

-- the nets that have a live set, in order
pub record AreLiveNets (draft : Draft) (nets : List ℕ) : Type 0 where
  pub rising : IsStrictlyIncreasing nets
  pub each : (net : ℕ) → Contains nets net → (mask : ℕ) × IsLiveSet draft net mask
  pub all : (net mask : ℕ) → IsLiveSet draft net mask → Contains nets net

-- the cells of nets' tables: one for each mask of the terminals past the first and each node
abbrev pub cells_of_net : Draft → ℕ → ℕ
cells_of_net draft net = (2 ^ (length (cavities_of draft net) - 1) - 1) * length draft.nodes

abbrev pub cells_of : Draft → List ℕ → ℕ
cells_of draft nets = sum_by (cells_of_net draft) nets

-- the table of a net: the least costs over the net's topology
pub record IsNetTable (draft : Draft) (line : TableLine) : Type 0 where
  pub least : IsLeastTable (net_topology draft line.net.0) (cavities_of draft line.net.0) line.table
  pub whole : IsWhole line.table

-- a table for each net that has a live set, in order of nets
pub record AreTables (draft : Draft) (tables : List TableLine) : Type 0 where
  pub nets : AreLiveNets draft (map (λ line. line.net.0) tables)
  pub each : All (IsNetTable draft) tables

-- the set has the layout that the least costs of its net fix, and costs what its net's table says
pub record IsLaid (draft : Draft) (tables : List TableLine) (set : LaidSet) : Type 0 where
  pub line : TableLine
  pub has : Contains tables line
  pub of_net : line.net.0 ≡ set.net.0
  pub layout : IsLayoutOf (net_topology draft set.net.0) (cavities_of draft set.net.0) (cell_at line.table) set.mask set.layout
  pub cost : cell_at line.table (rest_of set.mask) (stem_node (net_topology draft set.net.0) (cavities_of draft set.net.0) set.mask)
      ≡ Some set.cost

-- the list has each live set once, by net, then mask
pub record AreTheLiveSets (draft : Draft) (sets : List LiveSet) : Type 0 where
  pub order : AllPairs ComesBefore sets
  pub each : (set : LiveSet) → Contains sets set → IsLiveSet draft set.net.0 set.mask
  pub all : (net mask : ℕ) → IsLiveSet draft net mask
      → (set : LiveSet) × Contains sets set × (set.net.0 ≡ net) × (set.mask ≡ mask)

-- a laid set as the live set that it is
abbrev pub live_of : LaidSet → LiveSet
live_of set = record { net = set.net; mask = set.mask; cond = set.cond }

-- the live sets, in their order, each with its layout
pub record AreLaid (draft : Draft) (tables : List TableLine) (sets : List LiveSet) (laid : List LaidSet) : Type 0 where
  pub same : map live_of laid ≡ sets
  pub each : All (IsLaid draft tables) laid

-- the steps of all layouts together
abbrev pub steps_of : List LaidSet → ℕ
steps_of laid = sum_by (λ set. length set.layout.steps) laid
