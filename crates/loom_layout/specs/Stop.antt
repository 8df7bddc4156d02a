use Rattle.std.specs.Prelude.{ℕ, List, ◌≡◌, ◌<◌, ◌↔◌, length, map, slice_index}
use Rattle.std.specs.List.{Contains}
use Rattle.std.specs.List.Sorted.{IsStrictlyIncreasing}
use Rattle.loom_topology.specs.Topology.{TopologyView, node_of}
use Rattle.loom_topology.specs.Legal.{chosen}
use Rattle.loom_topology.specs.Reach.{IsReached}
use Rattle.loom_types.specs.SetMask.{stem_node}
use Rattle.loom_layout.specs.declared.stop.LayoutStop.{LayoutStop}
use Rattle.loom_layout.specs.declared.stop.LayoutStop.TheVariants.{Unreachable, NoMemory}

-- the first of the cavities for which P doesn't hold
pub record IsFirstWithout (P : ℕ → Type 0) (cavities : List ℕ) (cavity : ℕ) : Type 0 where
  pub place : ℕ
  pub within : place < length cavities
  pub at : slice_index cavities place ≡ cavity
  pub without : P cavity → ⊥
  pub earlier : (k : ℕ) → k < place → P (slice_index cavities k)

-- exactly the nodes that are reached from v, rising
pub record AreTheReached (topology : TopologyView) (v : ℕ) (nodes : List ℕ) : Type 0 where
  pub rising : IsStrictlyIncreasing nodes
  pub reached : (u : ℕ) → Contains nodes u ↔ IsReached topology v u

-- want of memory may come at any time; else the stop names the set's first cavity that isn't reached from its first
-- one's node, and the nodes that are
abbrev pub StopIsDue : TopologyView → List ℕ → ℕ → LayoutStop → Type 0
StopIsDue topology terminals mask NoMemory = Unit {0}
StopIsDue topology terminals mask (Unreachable cavity reached) =
    IsFirstWithout (λ c. IsReached topology (stem_node topology terminals mask) (node_of topology c))
    (chosen terminals mask) cavity.0
    × AreTheReached topology (stem_node topology terminals mask) (map (λ node. node.0) reached)
