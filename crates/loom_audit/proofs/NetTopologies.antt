-- A net's topology is the project's but for what is open.
use Rattle.std.proofs.Common.{◌≡◌, ℕ, ◌+◌, ◌-◌, ◌*◌, ◌==◌, Option, Some, None, List, [], ◌∷◌, ◌++◌, length, slice_index, refl, ap, ap₂}
use Rattle.std.specs.Prelude.{if◌then◌else◌}
use Rattle.std.specs.Int.{sum_through}
use Rattle.std.specs.List.{fold, sum_by}
use Rattle.loom_topology.specs.Topology.{segment_at, branch_at, price_at, price_of, other_end_at}
use Rattle.loom_topology.specs.WiringTree.{Step, Tree, other_end, places_of}
use Rattle.loom_topology.specs.TreeCost.{degree_of, cost_of}
use Rattle.loom_project.specs.declared.draft.Draft.{Draft}
use Rattle.loom_project.specs.Project.{topology_of, net_topology}
use Rattle.loom_active.proofs.Openings.{net_differs}

pub branch-same : (draft : Draft) (net v : ℕ) → branch_at (topology_of draft) v ≡ branch_at (net_topology draft net) v
unfolding net_topology
branch-same draft net v = refl

pub price-same : (draft : Draft) (net s : ℕ) → price_at (topology_of draft) s ≡ price_at (net_topology draft net) s
price-same draft net s = ap price_of ((net_differs draft net).kind s)

abbrev other_of : ℕ → ℕ → ℕ → Option ℕ
other_of from to v = if from == v then Some to else if to == v then Some from else None

pub other_end-same : (draft : Draft) (net s v : ℕ) → other_end_at (topology_of draft) s v ≡ other_end_at (net_topology draft net) s v
other_end-same draft net s v =
    λ i. other_of ((net_differs draft net).start s i) ((net_differs draft net).finish s i) v

end-same : (draft : Draft) (net s n : ℕ) → other_end (segment_at (topology_of draft) s) n ≡ other_end (segment_at (net_topology draft net) s) n
end-same draft net s n =
    ap₂ (λ (a b : ℕ). if a == n then b else a) ((net_differs draft net).start s) ((net_differs draft net).finish s)

pub places-same : (draft : Draft) (net v : ℕ) (steps : List Step) → places_of (topology_of draft) v steps ≡ places_of (net_topology draft net) v steps
unfolding places_of
places-same draft net v steps =
    ap (λ (f : List ℕ → Step → List ℕ). fold f (v ∷ []) steps)
    (λ i placed s. placed ++ end-same draft net s.segment (slice_index placed s.parent) i ∷ [])

pub cost-same : (draft : Draft) (net v : ℕ) (tree : Tree) → cost_of (topology_of draft) v tree ≡ cost_of (net_topology draft net) v tree
unfolding cost_of
cost-same draft net v tree =
    λ i. sum_by (λ (s : Step). price-same draft net s.segment i) tree.steps
    + sum_through (λ point. branch-same draft net (slice_index (places-same draft net v tree.steps i) point) i * (degree_of tree point - 2)) (length tree.steps)
