use Rattle.std.specs.Prelude.{ℕ, List, ◌≡◌, ◌+◌, ◌-◌, ◌<◌, ◌==◌, count_by, length, min, slice_index}
use Rattle.loom_topology.specs.WiringTree.{Tree}
use Rattle.loom_topology.specs.TreeCost.{degree_of}

-- each count has risen by how often its place is in the list, up to 255
pub record AreCounted (old points new : List ℕ) : Type 0 where
  pub same : length new ≡ length old
  pub risen : (at : ℕ) → at < length old
      → slice_index new at ≡ min (slice_index old at + count_by (λ point. point == at) points) 255

-- the things that meet at each point but for the one above it, up to 255
pub record AreDegrees (tree : Tree) (counts : List ℕ) : Type 0 where
  pub count : length counts ≡ length tree.steps + 1
  pub each : (point : ℕ) → point < length counts → slice_index counts point ≡ min (degree_of tree point - 1) 255
