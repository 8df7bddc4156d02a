-- A tree with the nodes of its points given, and the two trees that are the simplest to make.
use Rattle.std.proofs.Common.{ℕ, suc, List, [], ◌∷◌, length, map, sum_by, ◌==◌, ◌≡◌, ◌⊎◌, ◌+◌, ◌-◌, ◌*◌, ◌<◌, ◌≤◌, arith, refl, sym, ◌∙◌, ap, inl, inr}
use Rattle.std.specs.List.{AllZip}
use Rattle.std.specs.Int.{sum_through}
use Rattle.std.proofs.lemmas.Bool.{cases_eq, eq-eqb, ne_eqb, cond-true, cond-false}
use Rattle.loom_topology.specs.Topology.{TopologyView, Segment, Leads, segment_at, branch_at, price_at, node_of}
use Rattle.loom_topology.specs.WiringTree.{Tree, IsWiringTree, step_at, other_end, place_of}
use Rattle.loom_topology.specs.TreeCost.{HasTree, cost_of, degree_of, splice_cost_of}
use Rattle.loom_topology.proofs.Sums.{sum_through-same}
use Rattle.loom_topology.proofs.Places.{place_is, place-zero, step_leads}

pub AllZip-like : {X : Type 0} (R S : X → ℕ → Type 0) → ((c : X) (h : ℕ) → R c h → S c h)
    → (cs : List X) (hs : List ℕ) → AllZip R cs hs → AllZip S cs hs
AllZip-like R S to [] [] zip = tt
AllZip-like R S to [] (h ∷ hs) zip = absurd zip
AllZip-like R S to (c ∷ cs) [] zip = absurd zip
AllZip-like R S to (c ∷ cs) (h ∷ hs) zip = (to c h zip.0, AllZip-like R S to cs hs zip.1)

pub AllZip-moved : {X : Type 0} (R S : X → ℕ → Type 0) (f : ℕ → ℕ) → ((c : X) (h : ℕ) → R c h → S c (f h))
    → (cs : List X) (hs : List ℕ) → AllZip R cs hs → AllZip S cs (map f hs)
AllZip-moved R S f to [] [] zip = tt
AllZip-moved R S f to [] (h ∷ hs) zip = absurd zip
AllZip-moved R S f to (c ∷ cs) [] zip = absurd zip
AllZip-moved R S f to (c ∷ cs) (h ∷ hs) zip = (to c h zip.0, AllZip-moved R S f to cs hs zip.1)

-- a wiring tree the point p of which lies at the node `at p`
pub record Drawn (topology : TopologyView) (cavities : List ℕ) (v : ℕ) (tree : Tree) (at : ℕ → ℕ) : Type 0 where
  pub first : at 0 ≡ v
  pub below : (k : ℕ) → k < length tree.steps → (step_at tree k).parent ≤ k
  pub leads : (k : ℕ) → k < length tree.steps → Leads topology (step_at tree k).segment (at (step_at tree k).parent) (at (suc k))
  pub hangs : AllZip (λ c h. (h ≤ length tree.steps) × (at h ≡ node_of topology c)) cavities tree.hangs

abbrev pub splice_at : TopologyView → Tree → (ℕ → ℕ) → ℕ → ℕ
splice_at topology tree at p = branch_at topology (at p) * (degree_of tree p - 2)

abbrev pub cost_at : TopologyView → Tree → (ℕ → ℕ) → ℕ
cost_at topology tree at =
    sum_by (λ s. price_at topology s.segment) tree.steps + sum_through (splice_at topology tree at) (length tree.steps)

other_end-along : (g : Segment) (v u : ℕ) → ((g.from ≡ v) × (g.to ≡ u)) ⊎ ((g.from ≡ u) × (g.to ≡ v)) → u ≡ other_end g v
other_end-along g v u either =
    elim (cases_eq g.from v) [
      | inl same ↦
          rw (cond-true (g.from == v) g.to g.from (eq-eqb g.from v same))
          (elim either [ inl h ↦ sym h.1 | inr h ↦ sym h.0 ∙ (same ∙ sym h.1) ])
      | inr other ↦
          rw (cond-false (g.from == v) g.to g.from (ne_eqb g.from v other))
          (elim either [ inl h ↦ absurd (other h.0) | inr h ↦ sym h.0 ])
    ]

begins_along : (g : Segment) (v u : ℕ) → ((g.from ≡ v) × (g.to ≡ u)) ⊎ ((g.from ≡ u) × (g.to ≡ v)) → (g.from ≡ v) ⊎ (g.to ≡ v)
begins_along g v u either = elim either [ inl h ↦ inl h.0 | inr h ↦ inr h.1 ]

module _ (topology : TopologyView) (cavities : List ℕ) (v : ℕ) (tree : Tree) where
  pub drawn_tree : IsWiringTree topology cavities v tree → Drawn topology cavities v tree (place_of topology v tree)
  drawn_tree is_tree = record {
    first = place-zero topology v tree;
    below = is_tree.parent;
    leads = step_leads topology cavities v tree is_tree;
    hangs = is_tree.hangs;
  }

  pub cost_at_places : cost_of topology v tree ≡ cost_at topology tree (place_of topology v tree)
  unfolding cost_of
  cost_at_places = refl

  module _ (at : ℕ → ℕ) (drawn : Drawn topology cavities v tree at) where
    places : (p : ℕ) → p ≤ length tree.steps → place_of topology v tree p ≡ at p
    places = place_is topology v tree at (record {
      first = drawn.first;
      below = drawn.below;
      later = λ k h. other_end-along (segment_at topology (step_at tree k).segment) (at (step_at tree k).parent) (at (suc k)) (drawn.leads k h).1;
    })

    pub tree_of_drawn : IsWiringTree topology cavities v tree
    tree_of_drawn = record {
      parent = drawn.below;
      is_open = λ k h. (drawn.leads k h).0;
      begins = λ k h.
          let below : (step_at tree k).parent ≤ k = drawn.below k h in
          rw (places (step_at tree k).parent (omega arith))
          (begins_along (segment_at topology (step_at tree k).segment) (at (step_at tree k).parent) (at (suc k)) (drawn.leads k h).1);
      hangs = AllZip-like (λ c h. (h ≤ length tree.steps) × (at h ≡ node_of topology c))
          (λ c h. (h ≤ length tree.steps) × (place_of topology v tree h ≡ node_of topology c))
          (λ c h lies. (lies.0, places h lies.0 ∙ lies.1)) cavities tree.hangs drawn.hangs;
    }

    pub cost_of_drawn : cost_of topology v tree ≡ cost_at topology tree at
    unfolding cost_of
    cost_of_drawn =
        let splices : sum_through (splice_cost_of topology v tree) (length tree.steps) ≡ sum_through (splice_at topology tree at) (length tree.steps) =
        sum_through-same (length tree.steps) (splice_cost_of topology v tree) (splice_at topology tree at)
        (λ p h. ap (λ u. branch_at topology u * (degree_of tree p - 2)) (places p h)) in
        omega arith

    pub has_drawn : (m : ℕ) → cost_at topology tree at ≡ m → HasTree topology cavities v m
    has_drawn m cost = (tree, tree_of_drawn, cost_of_drawn ∙ cost)
