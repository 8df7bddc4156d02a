use Rattle.std.specs.Prelude.{ℕ, List, Option, Some, Bool, false, IsSome, ◌≡◌, ◌+◌, ◌-◌, ◌*◌, ◌^◌, ◌<◌, nat_lt, count_by, length, map}
use Rattle.std.specs.List.{range_with_len}
use Rattle.loom_topology.specs.Topology.{TopologyView}
use Rattle.loom_topology.specs.Legal.{IsMask}
use Rattle.loom_types.specs.LayoutTree.{step_of}
use Rattle.loom_layout.specs.declared.walk.Walk.{Walk}
use Rattle.loom_layout.specs.Layout.{Laying}

-- what a walk has laid
abbrev pub laying_of : Walk → Laying
laying_of walk = record { steps = map step_of walk.steps.items; points = walk.points.items }

-- the first cost is a number, and less than the second
abbrev pub costs_less : Option ℕ → Option ℕ → Bool
costs_less (Some m) (Some n) = nat_lt m n
costs_less a b = false

-- how many nodes have a lower cost for the mask than v: each step comes to such a one
unfoldable pub nearer : TopologyView → (ℕ → ℕ → Option ℕ) → ℕ → ℕ → ℕ
nearer topology least mask v =
    count_by (λ u. costs_less (least mask u) (least mask v)) (range_with_len 0 (length topology.nodes))

-- more than the steps that are left to take for a mask at node v; it falls with each step and each split
abbrev pub left_of : TopologyView → (ℕ → ℕ → Option ℕ) → ℕ → ℕ → ℕ
left_of topology least mask v = 2 * mask * length topology.nodes + nearer topology least mask v

-- a mask can be laid at node v: it has a least cost there, and its cavities have their places and its steps their room
pub record CanLay (topology : TopologyView) (terminals : List ℕ) (least : ℕ → ℕ → Option ℕ) (mask v : ℕ) (laying : Laying)
    : Type 0 where
  pub range : IsMask terminals mask
  pub node : v < length topology.nodes
  pub cost : IsSome (least mask v)
  pub places : length laying.points ≡ length terminals - 1
  pub room : length laying.steps + left_of topology least mask v < 2 ^ 32
