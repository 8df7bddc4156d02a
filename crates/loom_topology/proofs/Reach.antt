-- A wiring tree leads to exactly the nodes that chains of open segments reach.
use Rattle.std.proofs.Common.{ℕ, zero, suc, List, [], ◌∷◌, Option, Some, None, length, map, IsSome, ◌↔◌, ◌≡◌, ◌+◌, ◌<◌, ◌≤◌, arith, refl, subst, inl, inr}
use Rattle.std.specs.List.{AllZip}
use Rattle.std.proofs.lemmas.Bool.{cases_eq, false≢true}
use Rattle.std.proofs.lemmas.List.Elements.{All-nil, All-cons, All-head, All-tail}
use Rattle.loom_topology.specs.Topology.{TopologyView, Leads, branch_at, price_at, node_of}
use Rattle.loom_topology.specs.WiringTree.{Tree, IsWiringTree, step_at, place_of}
use Rattle.loom_topology.specs.TreeCost.{HasTree, degree_of}
use Rattle.loom_topology.specs.Least.{IsLeast}
use Rattle.loom_topology.specs.Reach.{IsReached, AreReached}
use Rattle.loom_topology.specs.Reach.IsReached.{here, over}
use Rattle.loom_topology.proofs.Places.{place-zero, step_leads}
use Rattle.loom_topology.proofs.Drawn.{Drawn, drawn_tree, cost_at_places, has_drawn}
use Rattle.loom_topology.proofs.Masks.{Interleaved, with_first}
use Rattle.loom_topology.proofs.Over.{HasTree-one, step_adds_price}
use Rattle.loom_topology.proofs.Both.{lift, Lies, hangs_a, hangs_b, joined, at_both, drawn_both, cost_both}

-- one more segment at the end of a chain
pub reached_on : (topology : TopologyView) (v u w s : ℕ) → IsReached topology v u → Leads topology s u w → IsReached topology v w
reached_on topology v u w s here leads = over s w leads here
reached_on topology v u w s (over t x first rest) leads = over t x first (reached_on topology x u w s rest leads)

-- a node that is reached has a tree for one cavity there
reached-tree : (topology : TopologyView) (c v u : ℕ) → IsReached topology v u → node_of topology c ≡ u
    → (m : ℕ) × HasTree topology (c ∷ []) v m
reached-tree topology c v u here at_node = (0, HasTree-one topology c v at_node)
reached-tree topology c v u (over s w leads rest) at_node =
    let (m, tree) = reached-tree topology c w u rest at_node in
    (m + price_at topology s, step_adds_price topology (c ∷ []) s v w m leads tree)

module _ (topology : TopologyView) (cavities : List ℕ) (v : ℕ) (tree : Tree) (is_tree : IsWiringTree topology cavities v tree) where
  -- so is each point of a tree
  place_reached : (n p : ℕ) → p ≤ n → p ≤ length tree.steps → IsReached topology v (place_of topology v tree p)
  place_reached zero p small h =
      let e : p ≡ 0 = omega arith in
      rw (e, place-zero topology v tree) here
  place_reached (suc n) p small h =
      elim (cases_eq p (suc n)) [
        | inr other ↦ place_reached n p (omega arith) h
        | inl e ↦
            let before : (step_at tree n).parent ≤ n = is_tree.parent n (omega arith) in
            rw e (reached_on topology v (place_of topology v tree (step_at tree n).parent) (place_of topology v tree (suc n))
            (step_at tree n).segment (place_reached n (step_at tree n).parent before (omega arith))
            (step_leads topology cavities v tree is_tree n (omega arith)))
      ]

  hung_reached : (cs hs : List ℕ) → AllZip (λ c h. (h ≤ length tree.steps) × (place_of topology v tree h ≡ node_of topology c)) cs hs
      → AreReached topology cs v
  hung_reached [] hs zip = All-nil (λ c. IsReached topology v (node_of topology c))
  hung_reached (c ∷ cs) [] zip = absurd zip
  hung_reached (c ∷ cs) (h ∷ hs) zip =
      All-cons (λ x. IsReached topology v (node_of topology x)) c cs
      (subst (IsReached topology v) zip.0.1 (place_reached h h (omega arith) zip.0.0))
      (hung_reached cs hs zip.1)

  pub treed_is_reached : AreReached topology cavities v
  treed_is_reached = hung_reached cavities tree.hangs is_tree.hangs

-- no cavity, no step
HasTree-none : (topology : TopologyView) (v : ℕ) → HasTree topology [] v 0
unfolding degree_of
HasTree-none topology v =
    has_drawn topology [] v (record { steps = []; hangs = [] }) (λ p. v)
    (record {
      first = refl;
      below = λ k h. absurd (omega arith);
      leads = λ k h. absurd (omega arith);
      hangs = tt;
    }) 0 (omega arith)

only_second : (R : ℕ → ℕ → Type 0) (cavities hb : List ℕ) → AllZip R cavities hb → Interleaved R cavities [] hb
only_second R cavities hb zip = record { both = hb; each = zip; counts = λ p. omega arith }

first_then_second : (R : ℕ → ℕ → Type 0) (c : ℕ) (cs ha hb : List ℕ) → AllZip R (c ∷ []) ha → AllZip R cs hb
    → Interleaved R (c ∷ cs) ha hb
first_then_second R c cs [] hb zip_a zip_b = absurd zip_a
first_then_second R c cs (h ∷ []) hb zip_a zip_b = with_first R c h cs [] hb zip_a.0 (only_second R cs hb zip_b)
first_then_second R c cs (h ∷ g ∷ ha) hb zip_a zip_b = absurd zip_a.1

-- a tree for one cavity more
HasTree-cons : (topology : TopologyView) (c : ℕ) (cs : List ℕ) (v m n : ℕ) → 0 < length cs
    → HasTree topology (c ∷ []) v m → HasTree topology cs v n → HasTree topology (c ∷ cs) v (m + n + branch_at topology v)
HasTree-cons topology c cs v m n some (one, is_one, cost_one) (two, is_two, cost_two) =
    let at_a : ℕ → ℕ = place_of topology v one in
    let at_b : ℕ → ℕ = place_of topology v two in
    let drawn_a : Drawn topology (c ∷ []) v one at_a = drawn_tree topology (c ∷ []) v one is_one in
    let drawn_b : Drawn topology cs v two at_b = drawn_tree topology cs v two is_two in
    let put : Interleaved (Lies topology (c ∷ []) cs v one two at_a at_b drawn_a drawn_b) (c ∷ cs) one.hangs
    (map (lift (length one.steps)) two.hangs) =
    first_then_second (Lies topology (c ∷ []) cs v one two at_a at_b drawn_a drawn_b) c cs one.hangs
    (map (lift (length one.steps)) two.hangs) (hangs_a topology (c ∷ []) cs v one two at_a at_b drawn_a drawn_b)
    (hangs_b topology (c ∷ []) cs v one two at_a at_b drawn_a drawn_b) in
    has_drawn topology (c ∷ cs) v
    (joined topology (c ∷ []) cs v one two at_a at_b drawn_a drawn_b (c ∷ cs) put.both put.each put.counts)
    (at_both topology (c ∷ []) cs v one two at_a at_b drawn_a drawn_b)
    (drawn_both topology (c ∷ []) cs v one two at_a at_b drawn_a drawn_b (c ∷ cs) put.both put.each put.counts)
    (m + n + branch_at topology v)
    (omega (
      arith,
      cost_at_places topology (c ∷ []) v one,
      cost_at_places topology cs v two,
      cost_one,
      cost_two,
      cost_both topology (c ∷ []) cs v one two at_a at_b drawn_a drawn_b (c ∷ cs) put.both put.each put.counts (omega arith) some,
    ))

-- cavities at nodes that are reached have a tree
pub reached_is_treed : (topology : TopologyView) (cavities : List ℕ) (v : ℕ) → AreReached topology cavities v
    → (m : ℕ) × HasTree topology cavities v m
reached_is_treed topology [] v reached = (0, HasTree-none topology v)
reached_is_treed topology (c ∷ []) v reached =
    reached-tree topology c v (node_of topology c) (All-head (λ x. IsReached topology v (node_of topology x)) c [] reached) refl
reached_is_treed topology (c ∷ d ∷ cs) v reached =
    let (m, one) =
    reached-tree topology c v (node_of topology c) (All-head (λ x. IsReached topology v (node_of topology x)) c (d ∷ cs) reached) refl in
    let (n, rest) =
    reached_is_treed topology (d ∷ cs) v (All-tail (λ x. IsReached topology v (node_of topology x)) c (d ∷ cs) reached) in
    (m + n + branch_at topology v, HasTree-cons topology c (d ∷ cs) v m n (omega arith) one rest)

-- so a least cost is a number exactly where all cavities are reached
pub number_where_reached : (topology : TopologyView) (cavities : List ℕ) (v : ℕ) (least : Option ℕ)
    → IsLeast topology cavities v least → IsSome least ↔ AreReached topology cavities v
number_where_reached topology cavities v None is_least = (
  λ some. absurd (false≢true some),
  λ reached.
      let (m, some) = reached_is_treed topology cavities v reached in
      let (tree, is_tree, cost) = some in absurd (is_least tree is_tree),
)
number_where_reached topology cavities v (Some m) is_least =
    let (tree, is_tree, cost) = is_least.0 in
    (λ some. treed_is_reached topology cavities v tree is_tree, λ reached. refl)
