-- Trees made of smaller ones.
use Rattle.std.proofs.Common.{ℕ, List, length, drop, map, slice_index, ◌≡◌, ◌+◌, ◌-◌, ◌^◌, ◌<◌, bit_and, arith, refl, sym, subst, length-drop}
use Rattle.loom_topology.specs.Topology.{TopologyView, branch_at, node_of}
use Rattle.loom_topology.specs.WiringTree.{place_of}
use Rattle.loom_topology.specs.TreeCost.{HasTree}
use Rattle.loom_topology.specs.Legal.{IsMask, cavities_of_mask}
use Rattle.loom_topology.proofs.Drawn.{Drawn, drawn_tree, cost_at_places, has_drawn}
use Rattle.loom_topology.proofs.Masks.{Interleaved, interleave, chosen-some, power_is_one_cavity}
use Rattle.loom_topology.proofs.Both.{lift, Lies, hangs_a, hangs_b, joined, at_both, drawn_both, cost_both}
use Rattle.loom_topology.proofs.Over.{HasTree-one}

-- the cavity of a mask of one terminal, at its own node, costs nothing
pub one_cavity_is_free : (topology : TopologyView) (terminals : List ℕ) (i : ℕ) → i + 1 < length terminals
    → HasTree topology (cavities_of_mask terminals (2 ^ i)) (node_of topology (slice_index terminals (i + 1))) 0
one_cavity_is_free topology terminals i h =
    subst (λ cavities. HasTree topology cavities (node_of topology (slice_index terminals (i + 1))) 0)
    (sym (power_is_one_cavity terminals i h))
    (HasTree-one topology (slice_index terminals (i + 1)) (node_of topology (slice_index terminals (i + 1))) refl)

-- two trees for disjoint masks that aren't empty, joined at point 0
pub trees_join : (topology : TopologyView) (terminals : List ℕ) (a b v m n : ℕ)
    → 0 < a → 0 < b → bit_and a b ≡ 0 → IsMask terminals (a + b)
    → HasTree topology (cavities_of_mask terminals a) v m → HasTree topology (cavities_of_mask terminals b) v n
    → HasTree topology (cavities_of_mask terminals (a + b)) v (m + n + branch_at topology v)
trees_join topology terminals a b v m n some_a some_b apart range (one, is_one, cost_one) (two, is_two, cost_two) =
    let at_a : ℕ → ℕ = place_of topology v one in
    let at_b : ℕ → ℕ = place_of topology v two in
    let xs : List ℕ = cavities_of_mask terminals a in
    let ys : List ℕ = cavities_of_mask terminals b in
    let drawn_a : Drawn topology xs v one at_a = drawn_tree topology xs v one is_one in
    let drawn_b : Drawn topology ys v two at_b = drawn_tree topology ys v two is_two in
    let put : Interleaved (Lies topology xs ys v one two at_a at_b drawn_a drawn_b) (cavities_of_mask terminals (a + b)) one.hangs
    (map (lift (length one.steps)) two.hangs) =
    interleave (Lies topology xs ys v one two at_a at_b drawn_a drawn_b) (drop 1 terminals) a b one.hangs
    (map (lift (length one.steps)) two.hangs) apart (hangs_a topology xs ys v one two at_a at_b drawn_a drawn_b)
    (hangs_b topology xs ys v one two at_a at_b drawn_a drawn_b) in
    let long : length (drop 1 terminals) ≡ length terminals - 1 = length-drop 1 terminals in
    let some_xs : 0 < length xs = chosen-some (drop 1 terminals) a some_a (rw long (omega arith)) in
    let some_ys : 0 < length ys = chosen-some (drop 1 terminals) b some_b (rw long (omega arith)) in
    has_drawn topology (cavities_of_mask terminals (a + b)) v
    (joined topology xs ys v one two at_a at_b drawn_a drawn_b (cavities_of_mask terminals (a + b)) put.both put.each put.counts)
    (at_both topology xs ys v one two at_a at_b drawn_a drawn_b)
    (drawn_both topology xs ys v one two at_a at_b drawn_a drawn_b (cavities_of_mask terminals (a + b)) put.both put.each put.counts)
    (m + n + branch_at topology v)
    (omega (
      arith,
      cost_at_places topology xs v one,
      cost_at_places topology ys v two,
      cost_one,
      cost_two,
      cost_both topology xs ys v one two at_a at_b drawn_a drawn_b (cavities_of_mask terminals (a + b)) put.both put.each put.counts some_xs some_ys,
    ))
