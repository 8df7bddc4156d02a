use Rattle.std.specs.Prelude.{ℕ, List, [], ◌∷◌, ◌++◌, Bool, true, false, not, IsTrue, ◌↔◌, ◌≡◌, ◌+◌, length, map, slice_index_or, slice_set, count_by, if◌then◌else◌}
use Rattle.std.specs.List.{Contains}
use Rattle.loom_topology.specs.declared.spreading.Found.{Found}
use Rattle.loom_topology.specs.Topology.{TopologyView, Leads}
use Rattle.loom_topology.specs.Reach.{IsReached}

-- for each node whether it was found, and those that were, in the order in which they were
pub record FoundView : Type 0 where
  pub marks : List Bool
  pub nodes : List ℕ

abbrev pub view_of_found : Found → FoundView
view_of_found found = record { marks = found.marks.items; nodes = map (λ v. v.0) found.nodes.items }

abbrev pub is_marked : FoundView → ℕ → Bool
is_marked found u = slice_index_or found.marks u false

-- with node u behind the others, if it isn't there
abbrev pub with_found : FoundView → ℕ → FoundView
with_found found u =
    if is_marked found u then found
    else record { marks = slice_set found.marks u true; nodes = found.nodes ++ u ∷ [] }

-- the marked nodes are those that were found, each once, and they are reached from the start
pub record IsFound (topology : TopologyView) (start : ℕ) (found : FoundView) : Type 0 where
  pub count : length found.marks ≡ length topology.nodes
  pub marked : (u : ℕ) → IsTrue (is_marked found u) ↔ Contains found.nodes u
  pub once : length found.nodes + count_by not found.marks ≡ length topology.nodes
  pub reached : (u : ℕ) → Contains found.nodes u → IsReached topology start u

-- the other ends of the open segments at node v were added behind the others
pub record IsSpread (topology : TopologyView) (v : ℕ) (old new : FoundView) : Type 0 where
  pub front : (more : List ℕ) × (new.nodes ≡ old.nodes ++ more)
  pub kept : (start : ℕ) → IsReached topology start v → IsFound topology start old → IsFound topology start new
  pub ends : (start : ℕ) → IsReached topology start v → IsFound topology start old → (s u : ℕ) → Leads topology s v u
      → Contains new.nodes u
