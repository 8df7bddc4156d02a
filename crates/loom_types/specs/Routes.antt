use Rattle.std.specs.Prelude.{ℕ, List, [], ◌∷◌, ◌≡◌, ◌⊎◌, ◌<◌, ◌≤◌, ◌==◌, false, IsTrue, length, sum_by, if◌then◌else◌}
use Rattle.loom_base.specs.declared.positions.SegmentNo.{SegmentNo}
use Rattle.loom_topology.specs.Topology.{TopologyView, Leads, segment_at, price_at, node_of, is_coupler}
use Rattle.loom_types.specs.declared.wire.End.{End}
use Rattle.loom_types.specs.declared.wire.End.TheVariants.{Cavity, Splice, Pin}
use Rattle.loom_types.specs.declared.wire.Wire.{Wire}

-- the node at which an end lies; side 1 of a pin lies at its coupler's `from` node, any other side at its `to` node
abbrev pub node_of_end : TopologyView → End → ℕ
node_of_end topology (Cavity cavity) = node_of topology cavity.0
node_of_end topology (Splice node ordinal) = node.0
node_of_end topology (Pin coupler pin side) =
    if side == 1 then (segment_at topology coupler.0).from else (segment_at topology coupler.0).to

-- the end is in range: a cavity; a node, with an ordinal from 1; an open coupler, with side 1 or 2
abbrev pub IsEndInRange : TopologyView → End → Type 0
IsEndInRange topology (Cavity cavity) = cavity.0 < length topology.cavities
IsEndInRange topology (Splice node ordinal) = (node.0 < length topology.nodes) × (1 ≤ ordinal)
IsEndInRange topology (Pin coupler pin side) =
    IsTrue (segment_at topology coupler.0).is_open × IsTrue (is_coupler (segment_at topology coupler.0).kind)
    × ((side ≡ 1) ⊎ (side ≡ 2))

-- the segment is an open run that leads from v to u
abbrev pub RunLeads : TopologyView → ℕ → ℕ → ℕ → Type 0
RunLeads topology s v u = (is_coupler (segment_at topology s).kind ≡ false) × Leads topology s v u

-- the route is a chain of open runs that leads from v to u; it may have no run
abbrev pub IsChainOfRuns : TopologyView → ℕ → ℕ → List SegmentNo → Type 0
IsChainOfRuns topology v u [] = v ≡ u
IsChainOfRuns topology v u (s ∷ route) = (w : ℕ) × RunLeads topology s.0 v w × IsChainOfRuns topology w u route

-- the wire's ends are in range, its route is a chain of open runs from end to end, and its length is the sum of theirs
pub record IsRouted (topology : TopologyView) (w : Wire) : Type 0 where
  pub from : IsEndInRange topology w.from
  pub to : IsEndInRange topology w.to
  pub chain : IsChainOfRuns topology (node_of_end topology w.from) (node_of_end topology w.to) w.route
  pub length : w.length ≡ sum_by (λ s. price_at topology s.0) w.route
