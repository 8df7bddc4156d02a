-- Segments that are couplers, open to a net.
use Rattle.std.specs.Prelude.{ℕ, IsTrue}
use Rattle.loom_topology.specs.Topology.{TopologyView, segment_at, is_coupler}

abbrev pub IsOpenCoupler : TopologyView → ℕ → Type 0
IsOpenCoupler topology s = IsTrue (segment_at topology s).is_open × IsTrue (is_coupler (segment_at topology s).kind)
