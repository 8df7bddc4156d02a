use Rattle.std.specs.Prelude.{ℕ, List, Bool, false, IsTrue, ◌≡◌, ◌⊎◌, ◌<◌, ◌≤◌, length, slice_index, slice_index_or}
use Rattle.loom_topology.specs.declared.ways.TheConstants.{NO_PRICE}
use Rattle.loom_topology.specs.Topology.{TopologyView, Leads, segment_at, price_at, open_at}
use Rattle.loom_topology.specs.WiringTree.{other_end}
use Rattle.loom_topology.specs.Ways.{IsCheapest}

-- the k-th open segment at a node, where it leads, and what it costs
abbrev pub nth_at : TopologyView → ℕ → ℕ → ℕ
nth_at topology v k = slice_index (open_at topology v) k

abbrev pub nth_end : TopologyView → ℕ → ℕ → ℕ
nth_end topology v k = other_end (segment_at topology (nth_at topology v k)) v

abbrev pub nth_price : TopologyView → ℕ → ℕ → ℕ
nth_price topology v k = price_at topology (nth_at topology v k)

-- nothing is noted at the n nodes
abbrev pub IsClear : ℕ → List ℕ → Type 0
IsClear n prices = (u : ℕ) → u < n → slice_index prices u ≡ NO_PRICE

-- at each node the least price of those of the first open segments that lead there
pub record NotesLeast (topology : TopologyView) (v done : ℕ) (prices : List ℕ) : Type 0 where
  pub below : (k : ℕ) → k < done → slice_index prices (nth_end topology v k) ≤ nth_price topology v k
  pub from : (u : ℕ) → u < length topology.nodes → (slice_index prices u ≡ NO_PRICE)
      ⊎ ((k : ℕ) × (k < done) × (nth_end topology v k ≡ u) × (nth_price topology v k ≡ slice_index prices u))

-- of the segments at a node the cheapest are marked too, and no others
pub record MarksAt (topology : TopologyView) (v : ℕ) (old new : List Bool) : Type 0 where
  pub kept : (s : ℕ) → IsTrue (slice_index_or old s false) → IsTrue (slice_index_or new s false)
  pub cheapest : (s : ℕ) → IsTrue (slice_index_or new s false) → IsTrue (slice_index_or old s false) ⊎ IsCheapest topology s
  pub there : (s u : ℕ) → Leads topology s v u → IsCheapest topology s → IsTrue (slice_index_or new s false)
