use Rattle.std.specs.List.{All}
use Rattle.std.specs.Prelude.{ℕ, List, Option, Some, [], ◌∷◌, IsSome, ◌↔◌, ◌≡◌, ◌⊎◌, ◌+◌, ◌*◌, ◌^◌, ◌<◌, ◌≤◌, length, slice_index, bit_and}
use Rattle.loom_topology.specs.Topology.{TopologyView, IsSound, Leads, branch_at, price_at, node_of}
use Rattle.loom_topology.specs.WiringTree.{Tree, IsWiringTree}
use Rattle.loom_topology.specs.TreeCost.{HasTree, cost_of}
use Rattle.loom_topology.specs.Least.{IsLeast, HasLeastCosts}
use Rattle.loom_topology.specs.Ties.{IsOneAt, Splits, StepsTo}
use Rattle.loom_topology.specs.Reach.{AreReached}
use Rattle.loom_topology.specs.Legal.{IsLegal, IsMask, IsAtMost, HoldsFirst, SplitHolds, cavities_of_mask}

-- a legal table's number for a mask at a node is at most the cost of every wiring tree for the mask's cavities from the node
abbrev pub LegalIsBelowEveryTree : Type 0
LegalIsBelowEveryTree =
    (topology : TopologyView) (terminals : List ℕ) (P : ℕ → ℕ → Option ℕ) (mask v : ℕ) (tree : Tree)
    → IsSound topology → IsLegal topology terminals P → IsMask terminals mask → v < length topology.nodes
    → IsWiringTree topology (cavities_of_mask terminals mask) v tree
    → IsAtMost (P mask v) (Some (cost_of topology v tree))

-- a tree for one cavity at its own node costs nothing
abbrev pub OneCavityIsFree : Type 0
OneCavityIsFree =
    (topology : TopologyView) (terminals : List ℕ) (i : ℕ) → i + 1 < length terminals
    → HasTree topology (cavities_of_mask terminals (2 ^ i)) (node_of topology (slice_index terminals (i + 1))) 0

-- a step in front, over an open segment, adds its price
abbrev pub StepAddsPrice : Type 0
StepAddsPrice =
    (topology : TopologyView) (cavities : List ℕ) (s v u m : ℕ) → Leads topology s v u
    → HasTree topology cavities u m → HasTree topology cavities v (m + price_at topology s)

-- trees from one node for two disjoint masks that aren't empty make one tree for both, which costs the branch cost more
abbrev pub TreesJoin : Type 0
TreesJoin =
    (topology : TopologyView) (terminals : List ℕ) (a b v m n : ℕ)
    → 0 < a → 0 < b → bit_and a b ≡ 0 → IsMask terminals (a + b)
    → HasTree topology (cavities_of_mask terminals a) v m → HasTree topology (cavities_of_mask terminals b) v n
    → HasTree topology (cavities_of_mask terminals (a + b)) v (m + n + branch_at topology v)

-- the cavities of the mask of one terminal are its cavity alone
abbrev pub PowerIsOneCavity : Type 0
PowerIsOneCavity =
    (terminals : List ℕ) (i : ℕ) → i + 1 < length terminals
    → cavities_of_mask terminals (2 ^ i) ≡ slice_index terminals (i + 1) ∷ []

-- where the splits hold whose first part holds the first cavity, all splits hold
abbrev pub FirstCavitySuffices : Type 0
FirstCavitySuffices =
    (topology : TopologyView) (terminals : List ℕ) (P : ℕ → ℕ → Option ℕ)
    → ((a b v : ℕ) → 0 < a → 0 < b → bit_and a b ≡ 0 → HoldsFirst a (a + b) → IsMask terminals (a + b)
    → v < length topology.nodes → SplitHolds topology P a b v)
    → (a b v : ℕ) → 0 < a → 0 < b → bit_and a b ≡ 0 → IsMask terminals (a + b) → v < length topology.nodes
    → SplitHolds topology P a b v

-- where each number of a legal table is the cost of some tree, each cell is the least cost, and a cell without a number has no tree
abbrev pub AttainedLegalIsLeast : Type 0
AttainedLegalIsLeast =
    (topology : TopologyView) (terminals : List ℕ) (P : ℕ → ℕ → Option ℕ)
    → IsSound topology → IsLegal topology terminals P
    → ((mask v m : ℕ) → IsMask terminals mask → v < length topology.nodes → P mask v ≡ Some m
    → HasTree topology (cavities_of_mask terminals mask) v m)
    → (mask v : ℕ) → IsMask terminals mask → v < length topology.nodes
    → IsLeast topology (cavities_of_mask terminals mask) v (P mask v)

-- cavities that are reached have a wiring tree
abbrev pub ReachedIsTreed : Type 0
ReachedIsTreed =
    (topology : TopologyView) (cavities : List ℕ) (v : ℕ) → AreReached topology cavities v
    → (m : ℕ) × HasTree topology cavities v m

-- cavities that have a wiring tree are reached
abbrev pub TreedIsReached : Type 0
TreedIsReached =
    (topology : TopologyView) (cavities : List ℕ) (v : ℕ) (tree : Tree) → IsWiringTree topology cavities v tree
    → AreReached topology cavities v

-- a least cost is a number exactly where the cavities are reached
abbrev pub NumberWhereReached : Type 0
NumberWhereReached =
    (topology : TopologyView) (cavities : List ℕ) (v : ℕ) (least : Option ℕ)
    → IsLeast topology cavities v least → IsSome least ↔ AreReached topology cavities v

-- a table of least costs is legal
abbrev pub LeastCostsAreLegal : Type 0
LeastCostsAreLegal =
    (topology : TopologyView) (terminals : List ℕ) (P : ℕ → ℕ → Option ℕ)
    → IsSound topology → All (λ c. c < length topology.cavities) terminals → HasLeastCosts topology terminals P
    → IsLegal topology terminals P

-- a least cost comes about by some rule: the mask is one cavity at the node, or it splits there, or a step leads on
abbrev pub ARuleApplies : Type 0
ARuleApplies =
    (topology : TopologyView) (terminals : List ℕ) (P : ℕ → ℕ → Option ℕ) (mask v m : ℕ)
    → IsSound topology → All (λ c. c < length topology.cavities) terminals → HasLeastCosts topology terminals P
    → IsMask terminals mask → v < length topology.nodes → P mask v ≡ Some m
    → ((i : ℕ) × IsOneAt topology terminals mask v i)
    ⊎ (((part : ℕ) × Splits topology P mask v part) ⊎ ((s : ℕ) × ((u : ℕ) × StepsTo topology P mask v s u)))

-- two tables of least costs of one net have equal cells
abbrev pub LeastCostsAreUnique : Type 0
LeastCostsAreUnique =
    (topology : TopologyView) (terminals : List ℕ) (P Q : ℕ → ℕ → Option ℕ)
    → HasLeastCosts topology terminals P → HasLeastCosts topology terminals Q
    → (mask v : ℕ) → IsMask terminals mask → v < length topology.nodes → P mask v ≡ Q mask v

-- a least cost for one cavity is at most the dearest price for each node
abbrev pub LeastWaysAreShort : Type 0
LeastWaysAreShort =
    (topology : TopologyView) (terminals : List ℕ) (P : ℕ → ℕ → Option ℕ) (i v m : ℕ)
    → IsSound topology → All (λ c. c < length topology.cavities) terminals → HasLeastCosts topology terminals P
    → i + 1 < length terminals → v < length topology.nodes → P (2 ^ i) v ≡ Some m → m ≤ 1000000 * length topology.nodes
