-- A legal table each number of which is the cost of some tree has the least costs; and these are unique.
use Rattle.std.proofs.Common.{ℕ, List, Option, Some, None, ◌≡◌, ◌<◌, ◌≤◌, length, refl, ap, arith}
use Rattle.loom_topology.specs.Topology.{TopologyView, IsSound}
use Rattle.loom_topology.specs.WiringTree.{Tree, IsWiringTree}
use Rattle.loom_topology.specs.TreeCost.{HasTree, cost_of}
use Rattle.loom_topology.specs.Legal.{IsLegal, IsMask, IsAtMost, cavities_of_mask}
use Rattle.loom_topology.specs.Least.{IsLeast, HasLeastCosts}
use Rattle.loom_topology.proofs.LowerBound.{legal_is_below_every_tree}

least_at : (topology : TopologyView) (cavities : List ℕ) (v : ℕ) (answer : Option ℕ)
    → ((m : ℕ) → answer ≡ Some m → HasTree topology cavities v m)
    → ((tree : Tree) → IsWiringTree topology cavities v tree → IsAtMost answer (Some (cost_of topology v tree)))
    → IsLeast topology cavities v answer
least_at topology cavities v None attained below = below
least_at topology cavities v (Some m) attained below = (attained m refl, below)

-- where it has no number there is no tree
pub attained_legal_is_least : (topology : TopologyView) (terminals : List ℕ) (P : ℕ → ℕ → Option ℕ)
    → IsSound topology → IsLegal topology terminals P
    → ((mask v m : ℕ) → IsMask terminals mask → v < length topology.nodes → P mask v ≡ Some m
    → HasTree topology (cavities_of_mask terminals mask) v m)
    → (mask v : ℕ) → IsMask terminals mask → v < length topology.nodes
    → IsLeast topology (cavities_of_mask terminals mask) v (P mask v)
attained_legal_is_least topology terminals P sound legal attained mask v range node =
    least_at topology (cavities_of_mask terminals mask) v (P mask v) (λ m e. attained mask v m range node e)
    (λ tree is_tree. legal_is_below_every_tree topology terminals P mask v tree sound legal range node is_tree)

-- what some tree costs is no less than a least cost
tree-above : (topology : TopologyView) (cavities : List ℕ) (v m n : ℕ)
    → ((tree : Tree) → IsWiringTree topology cavities v tree → m ≤ cost_of topology v tree) → HasTree topology cavities v n → m ≤ n
tree-above topology cavities v m n least (tree, is_tree, cost) = omega (arith, least tree is_tree, cost)

pub least_is_unique : (topology : TopologyView) (cavities : List ℕ) (v : ℕ) (one other : Option ℕ)
    → IsLeast topology cavities v one → IsLeast topology cavities v other → one ≡ other
least_is_unique topology cavities v None None first second = refl
least_is_unique topology cavities v None (Some n) first second = let (tree, is_tree, cost) = second.0 in absurd (first tree is_tree)
least_is_unique topology cavities v (Some m) None first second = let (tree, is_tree, cost) = first.0 in absurd (second tree is_tree)
least_is_unique topology cavities v (Some m) (Some n) first second =
    let same : m ≡ n =
    omega (arith, tree-above topology cavities v m n first.1 second.0, tree-above topology cavities v n m second.1 first.0) in
    ap Some same

pub least_costs_are_unique : (topology : TopologyView) (terminals : List ℕ) (P Q : ℕ → ℕ → Option ℕ)
    → HasLeastCosts topology terminals P → HasLeastCosts topology terminals Q
    → (mask v : ℕ) → IsMask terminals mask → v < length topology.nodes → P mask v ≡ Q mask v
least_costs_are_unique topology terminals P Q first second mask v range node =
    least_is_unique topology (cavities_of_mask terminals mask) v (P mask v) (Q mask v) (first mask v range node) (second mask v range node)
