-- A table of least costs is legal.
use Rattle.std.proofs.Common.{ℕ, List, Option, Some, None, length, slice_index, ◌≡◌, ◌+◌, ◌-◌, ◌^◌, ◌<◌, ◌≤◌, bit_and, arith, subst, inl, inr, pow_pos}
use Rattle.std.specs.List.{All}
use Rattle.std.proofs.Math.Pow.{pow-lt}
use Rattle.std.proofs.lemmas.List.Elements.{All-get_or}
use Rattle.loom_topology.proofs.Sound.{sound-from, sound-to, sound-cavity}
use Rattle.loom_topology.specs.Topology.{TopologyView, IsSound, Leads, branch_at, price_at, node_of}
use Rattle.loom_topology.specs.TreeCost.{HasTree, cost_of}
use Rattle.loom_topology.specs.Legal.{IsLegal, IsMask, IsAtMost, plus, cavities_of_mask}
use Rattle.loom_topology.specs.Least.{IsLeast, HasLeastCosts}
use Rattle.loom_topology.proofs.Places.{open_below}
use Rattle.loom_topology.proofs.Over.{step_adds_price}
use Rattle.loom_topology.proofs.Composition.{one_cavity_is_free, trees_join}

-- a least cost is at most what some tree costs
least_at_most : (topology : TopologyView) (cavities : List ℕ) (v n : ℕ) (least : Option ℕ) → IsLeast topology cavities v least
    → HasTree topology cavities v n → IsAtMost least (Some n)
least_at_most topology cavities v n None is_least (tree, is_tree, cost) = is_least tree is_tree
least_at_most topology cavities v n (Some m) is_least (tree, is_tree, cost) =
    let below : m ≤ cost_of topology v tree = is_least.1 tree is_tree in
    omega (arith, cost)

-- an open segment leads to a node of the topology
pub leads_below : (topology : TopologyView) (s v u : ℕ) → IsSound topology → Leads topology s v u → u < length topology.nodes
leads_below topology s v u sound leads =
    let within : s < length topology.segments = open_below topology s leads.0 in
    elim leads.1 [
      | inl ends ↦ subst (λ x. x < length topology.nodes) ends.1 (sound-to topology sound s within)
      | inr ends ↦ subst (λ x. x < length topology.nodes) ends.0 (sound-from topology sound s within)
    ]

over_least : (topology : TopologyView) (cavities : List ℕ) (s v u : ℕ) (at_v at_u : Option ℕ) → Leads topology s v u
    → IsLeast topology cavities v at_v → IsLeast topology cavities u at_u → IsAtMost at_v (plus at_u (Some (price_at topology s)))
over_least topology cavities s v u at_v None leads least_v least_u = tt
over_least topology cavities s v u at_v (Some m) leads least_v least_u =
    least_at_most topology cavities v (m + price_at topology s) at_v least_v (step_adds_price topology cavities s v u m leads least_u.0)

split_least : (topology : TopologyView) (terminals : List ℕ) (a b v : ℕ) (at_both at_a at_b : Option ℕ)
    → 0 < a → 0 < b → bit_and a b ≡ 0 → IsMask terminals (a + b)
    → IsLeast topology (cavities_of_mask terminals (a + b)) v at_both → IsLeast topology (cavities_of_mask terminals a) v at_a
    → IsLeast topology (cavities_of_mask terminals b) v at_b → IsAtMost at_both (plus (plus at_a at_b) (Some (branch_at topology v)))
split_least topology terminals a b v at_both None at_b some_a some_b apart range least_both least_a least_b = tt
split_least topology terminals a b v at_both (Some m) None some_a some_b apart range least_both least_a least_b = tt
split_least topology terminals a b v at_both (Some m) (Some n) some_a some_b apart range least_both least_a least_b =
    least_at_most topology (cavities_of_mask terminals (a + b)) v (m + n + branch_at topology v) at_both least_both
    (trees_join topology terminals a b v m n some_a some_b apart range least_a.0 least_b.0)

pub least_costs_are_legal : (topology : TopologyView) (terminals : List ℕ) (least : ℕ → ℕ → Option ℕ)
    → IsSound topology → All (λ c. c < length topology.cavities) terminals → HasLeastCosts topology terminals least
    → IsLegal topology terminals least
least_costs_are_legal topology terminals least sound in_range costs = record {
  leaf = λ i h.
      let grows : 2 ^ i < 2 ^ (length terminals - 1) = let before : i < length terminals - 1 = omega arith in pow-lt before in
      let node : node_of topology (slice_index terminals (i + 1)) < length topology.nodes =
      sound-cavity topology sound (slice_index terminals (i + 1)) (All-get_or (λ c. c < length topology.cavities) terminals (i + 1) 0 h in_range) in
      least_at_most topology (cavities_of_mask terminals (2 ^ i)) (node_of topology (slice_index terminals (i + 1))) 0
      (least (2 ^ i) (node_of topology (slice_index terminals (i + 1))))
      (costs (2 ^ i) (node_of topology (slice_index terminals (i + 1))) (pow_pos i, grows) node)
      (one_cavity_is_free topology terminals i h);
  over = λ mask v s u range node leads.
      over_least topology (cavities_of_mask terminals mask) s v u (least mask v) (least mask u) leads (costs mask v range node)
      (costs mask u range (leads_below topology s v u sound leads));
  split = λ a b v some_a some_b apart range node.
      split_least topology terminals a b v (least (a + b) v) (least a v) (least b v) some_a some_b apart range
      (costs (a + b) v range node) (costs a v (some_a, omega arith) node) (costs b v (some_b, omega arith) node);
}
