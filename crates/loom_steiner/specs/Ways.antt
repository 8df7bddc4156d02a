use Rattle.std.specs.Prelude.{ℕ, List, ◌≡◌, ◌<◌, ◌≤◌, length, slice_index_or}
use Rattle.std.specs.Borrow.{Bor}
use Rattle.loom_topology.specs.declared.ways.Way.{Way}
use Rattle.loom_topology.specs.Topology.{TopologyView, Leads, price_at}
use Rattle.loom_topology.specs.Ways.{way_at}

-- each way goes over an open segment from the node, and each such segment has a way to its other end that costs no more
pub record AreWaysFrom (topology : TopologyView) (v : ℕ) (from : List Way) : Type 0 where
  pub leads : (k : ℕ) → k < length from → (s : ℕ) × Leads topology s v (way_at from k).to.0 × ((way_at from k).price ≡ price_at topology s)
  pub covers : (s u : ℕ) → Leads topology s v u
      → (k : ℕ) × (k < length from) × ((way_at from k).to.0 ≡ u) × ((way_at from k).price ≤ price_at topology s)

-- the ways from each node of a topology
pub record AreWays (topology : TopologyView) (ways : List (Bor (List Way))) : Type 0 where
  pub from : (v : ℕ) (d : Bor (List Way)) → v < length ways → AreWaysFrom topology v (slice_index_or ways v d).now
