use Rattle.std.specs.Prelude.{ℕ, List, Option, Some, ◌≡◌, ◌↔◌, map}
use Rattle.std.specs.List.{Contains}
use Rattle.std.specs.List.Sorted.{IsStrictlyIncreasing}
use Rattle.loom_topology.specs.declared.ways.Way.{Way}
use Rattle.loom_topology.specs.Topology.{TopologyView, segment_at}
use Rattle.loom_topology.specs.Ways.{IsCheapest, way_from}
use Rattle.loom_topology.specs.Legal.{IsAtMost, plus}

-- the way over a segment from its first end
abbrev pub way_over : TopologyView → ℕ → Way
way_over topology s = way_from topology (segment_at topology s).from s

-- the ways over exactly the cheapest segments, one for each
pub record AreWays (topology : TopologyView) (ways : List Way) : Type 0 where
  pub segments : List ℕ
  pub rising : IsStrictlyIncreasing segments
  pub cheapest : (s : ℕ) → Contains segments s ↔ IsCheapest topology s
  pub listed : ways ≡ map (way_over topology) segments

-- a table's number for a mask at each of the two nodes is at most its number at the other and the way's price
abbrev pub HoldsOver : (ℕ → ℕ → Option ℕ) → ℕ → Way → Type 0
HoldsOver P mask way =
    IsAtMost (P mask way.from.0) (plus (P mask way.to.0) (Some way.price))
    × IsAtMost (P mask way.to.0) (plus (P mask way.from.0) (Some way.price))
