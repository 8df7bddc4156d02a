use Rattle.std.specs.Prelude.{ℕ, List, Bool, false, IsTrue, ◌↔◌, ◌≡◌, ◌⊎◌, ◌<◌, ◌≤◌, All, length, slice_index_or}
use Rattle.loom_topology.specs.declared.ways.Way.{Way}
use Rattle.loom_topology.specs.Topology.{TopologyView, Leads, segment_at, price_at}
use Rattle.loom_topology.specs.WiringTree.{other_end}

-- the way over segment s from node v to the segment's other end
abbrev pub way_from : TopologyView → ℕ → ℕ → Way
way_from topology v s =
    record { from = record { 0 = v }; to = record { 0 = other_end (segment_at topology s) v }; price = price_at topology s }

abbrev pub no_way : Way
no_way = record { from = record { 0 = 0 }; to = record { 0 = 0 }; price = 0 }

abbrev pub way_at : List Way → ℕ → Way
way_at ways k = slice_index_or ways k no_way

-- each way joins two of n nodes at the price of a segment
abbrev pub AreInRange : ℕ → List Way → Type 0
AreInRange n ways = All (λ way. (way.from.0 < n) × (way.to.0 < n) × (way.price ≤ 1000000)) ways

-- segment s is open, and of the open segments between its two nodes it is the first of those that cost least
pub record IsCheapest (topology : TopologyView) (s : ℕ) : Type 0 where
  pub is_open : IsTrue (segment_at topology s).is_open
  pub first : (t : ℕ) → Leads topology t (segment_at topology s).from (segment_at topology s).to
      → (price_at topology s < price_at topology t) ⊎ ((price_at topology s ≡ price_at topology t) × (s ≤ t))

-- exactly the cheapest segments are marked
abbrev pub MarksCheapest : TopologyView → List Bool → Type 0
MarksCheapest topology marks =
    (s : ℕ) → s < length topology.segments → IsTrue (slice_index_or marks s false) ↔ IsCheapest topology s
