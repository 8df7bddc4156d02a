use Rattle.std.specs.Prelude.{ℕ, List, ◌≡◌, ◌<◌, ◌≤◌, length, slice_index}
use Rattle.std.specs.List.{All}
use Rattle.std.specs.Borrow.{Bor}
use Rattle.loom_topology.specs.Topology.{TopologyView, branch_at}
use Rattle.loom_topology.specs.declared.ways.Way.{Way}
use Rattle.loom_topology.specs.Ways.{AreInRange}
use Rattle.loom_steiner.specs.Ways.{AreWays}

-- the ways from the nodes of a topology, and the branch costs there
pub record IsGround (topology : TopologyView) (ways : List (Bor (List Way))) (branches : List ℕ) : Type 0 where
  pub ways_len : length ways ≡ length topology.nodes
  pub branches_len : length branches ≡ length topology.nodes
  pub are_ways : AreWays topology ways
  pub range : All (λ from. AreInRange (length topology.nodes) from.now) ways
  pub branch : (v : ℕ) → v < length topology.nodes → slice_index branches v ≡ branch_at topology v
  pub cheap : (v : ℕ) → slice_index branches v ≤ 1000000
