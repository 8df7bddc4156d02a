-- How many things meet at the points of a tree.
use Rattle.std.specs.Prelude.{ℕ, List, ◌≡◌, ◌+◌, ◌<◌, ◌==◌, count_by, length, slice_index}
use Rattle.loom_topology.specs.WiringTree.{Tree}
use Rattle.loom_topology.specs.TreeCost.{degree_of}

-- each count has risen by how often its place is in the list
pub record AreCounted (old points new : List ℕ) : Type 0 where
  pub same : length new ≡ length old
  pub risen : (at : ℕ) → at < length old → slice_index new at ≡ slice_index old at + count_by (λ point. point == at) points

-- the degree of each point
pub record AreDegrees (tree : Tree) (degrees : List ℕ) : Type 0 where
  pub count : length degrees ≡ length tree.steps + 1
  pub each : (point : ℕ) → point < length degrees → slice_index degrees point ≡ degree_of tree point
