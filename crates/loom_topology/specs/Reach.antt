use Rattle.std.specs.Prelude.{ℕ, List}
use Rattle.std.specs.List.{All}
use Rattle.loom_topology.specs.Topology.{TopologyView, Leads, node_of}

-- a chain of open segments leads from v to u; it may have no segment
pub data IsReached (topology : TopologyView) : ℕ → ℕ → Type 0 where
  here : {v : ℕ} → IsReached topology v v
  over : {v w : ℕ} (s u : ℕ) → Leads topology s v u → IsReached topology u w → IsReached topology v w

-- each of the cavities lies at a node that is reached from v
abbrev pub AreReached : TopologyView → List ℕ → ℕ → Type 0
AreReached topology cavities v = All (λ c. IsReached topology v (node_of topology c)) cavities
