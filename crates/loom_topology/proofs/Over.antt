-- The simplest tree, and a step in front of a tree.
use Rattle.std.proofs.Common.{ℕ, zero, suc, List, [], ◌∷◌, length, map, get_or, sum_by, count_by, cond, ◌==◌, ◌≡◌, ◌+◌, ◌-◌, ◌*◌, ◌<◌, ◌≤◌, arith, refl, sym, ◌∙◌, ap, subst}
use Rattle.std.specs.Int.{sum_through}
use Rattle.std.proofs.Math.Dec.{eqb-suc-suc, eqb-suc-zero, eqb-zero-suc}
use Rattle.std.proofs.lemmas.List.{length-map, get_or-map}
use Rattle.std.proofs.lemmas.List.Sums.{sum_by-cons}
use Rattle.loom_topology.specs.Topology.{TopologyView, Leads, branch_at, price_at, node_of}
use Rattle.loom_topology.specs.WiringTree.{Step, Tree, no_step, step_at, place_of}
use Rattle.loom_topology.specs.TreeCost.{HasTree, degree_of}
use Rattle.loom_topology.proofs.Sums.{sum_through-same, sum_through-front, sum_by-same, sum_by-none, sum_by-map}
use Rattle.loom_topology.proofs.Hangs.{hung_at}
use Rattle.loom_topology.proofs.Drawn.{AllZip-moved, Drawn, cost_at, splice_at, has_drawn, drawn_tree, cost_at_places}

abbrev bare : Tree
bare = record { steps = []; hangs = 0 ∷ [] }

-- a cavity at its own node costs nothing
pub HasTree-one : (topology : TopologyView) (c v : ℕ) → node_of topology c ≡ v → HasTree topology (c ∷ []) v 0
unfolding degree_of
HasTree-one topology c v at_node =
    has_drawn topology (c ∷ []) v bare (λ p. v)
    (record {
      first = refl;
      below = λ k h. absurd (omega arith);
      leads = λ k h. absurd (omega arith);
      hangs = ((omega arith, sym at_node), tt);
    }) 0 (omega arith)

-- the same step, one point later
abbrev pub later : Step → Step
later s = record { parent = suc s.parent; segment = s.segment }

-- the tree with a step over s in front
abbrev pub after_step : ℕ → Tree → Tree
after_step s tree = record { steps = record { parent = 0; segment = s } ∷ map later tree.steps; hangs = map suc tree.hangs }

abbrev pub behind : ℕ → (ℕ → ℕ) → ℕ → ℕ
behind v at zero = v
behind v at (suc p) = at p

module _ (topology : TopologyView) (cavities : List ℕ) (s v u : ℕ) (leads : Leads topology s v u)
    (tree : Tree) (at : ℕ → ℕ) (drawn : Drawn topology cavities u tree at) where
  as_many : length (map later tree.steps) ≡ length tree.steps
  as_many = length-map tree.steps later

  step_later : (k : ℕ) → k < length tree.steps → later (step_at tree k) ≡ step_at (after_step s tree) (suc k)
  step_later k h = sym (get_or-map later tree.steps k no_step no_step h)

  drawn_below : (k : ℕ) → k < length (after_step s tree).steps → (step_at (after_step s tree) k).parent ≤ k
  drawn_below zero h = omega arith
  drawn_below (suc k) h =
      let within : k < length tree.steps = omega (arith, as_many) in
      let below : (step_at tree k).parent ≤ k = drawn.below k within in
      subst (λ step. step.parent ≤ suc k) (step_later k within) (omega arith)

  drawn_leads : (k : ℕ) → k < length (after_step s tree).steps
      → Leads topology (step_at (after_step s tree) k).segment (behind v at (step_at (after_step s tree) k).parent) (behind v at (suc k))
  drawn_leads zero h = subst (λ x. Leads topology s v x) (sym drawn.first) leads
  drawn_leads (suc k) h =
      let within : k < length tree.steps = omega (arith, as_many) in
      subst (λ step. Leads topology step.segment (behind v at step.parent) (at (suc k))) (step_later k within) (drawn.leads k within)

  drawn_after : Drawn topology cavities v (after_step s tree) (behind v at)
  drawn_after = record {
    first = refl;
    below = drawn_below;
    leads = drawn_leads;
    hangs = AllZip-moved (λ c h. (h ≤ length tree.steps) × (at h ≡ node_of topology c))
        (λ c h. (h ≤ length (after_step s tree).steps) × (behind v at h ≡ node_of topology c)) suc
        (λ c h lies. let fits : suc h ≤ length (after_step s tree).steps = omega (arith, lies.0, as_many) in (fits, lies.1))
        cavities tree.hangs drawn.hangs;
  }

  degree_later : (p : ℕ) → degree_of (after_step s tree) (suc p) ≡ degree_of tree p
  unfolding degree_of
  degree_later p =
      let front : count_by (λ x. x.parent == suc p) (after_step s tree).steps ≡ count_by (λ x. x.parent == suc p) (map later tree.steps) =
      sum_by-cons (λ x. cond (x.parent == suc p) 1 0) (record { parent = 0; segment = s }) (map later tree.steps)
      ∙ rw (eqb-zero-suc p) (omega arith) in
      let steps : count_by (λ x. x.parent == suc p) (map later tree.steps) ≡ count_by (λ x. x.parent == p) tree.steps =
      sum_by-map (λ x. cond (x.parent == suc p) 1 0) later tree.steps
      ∙ sum_by-same (λ x. cond (suc x.parent == suc p) 1 0) (λ x. cond (x.parent == p) 1 0) tree.steps no_step
      (λ k h. rw (eqb-suc-suc (step_at tree k).parent p) refl) in
      let hangs : hung_at (map suc tree.hangs) (suc p) ≡ hung_at tree.hangs p =
      sum_by-map (λ h. cond (h == suc p) 1 0) suc tree.hangs
      ∙ sum_by-same (λ h. cond (suc h == suc p) 1 0) (λ h. cond (h == p) 1 0) tree.hangs 0
      (λ k h. rw (eqb-suc-suc (get_or tree.hangs k 0) p) refl) in
      omega (arith, front, steps, hangs)

  degree_front : degree_of (after_step s tree) 0 ≡ 2
  unfolding degree_of
  degree_front =
      let front : count_by (λ x. x.parent == 0) (after_step s tree).steps ≡ 1 + count_by (λ x. x.parent == 0) (map later tree.steps) =
      sum_by-cons (λ x. cond (x.parent == 0) 1 0) (record { parent = 0; segment = s }) (map later tree.steps) in
      let steps : count_by (λ x. x.parent == 0) (map later tree.steps) ≡ 0 =
      sum_by-map (λ x. cond (x.parent == 0) 1 0) later tree.steps
      ∙ sum_by-none (λ x. cond (suc x.parent == 0) 1 0) tree.steps no_step
      (λ k h. rw (eqb-suc-zero (step_at tree k).parent) refl) in
      let hangs : hung_at (map suc tree.hangs) 0 ≡ 0 =
      sum_by-map (λ h. cond (h == 0) 1 0) suc tree.hangs
      ∙ sum_by-none (λ h. cond (suc h == 0) 1 0) tree.hangs 0 (λ k h. rw (eqb-suc-zero (get_or tree.hangs k 0)) refl) in
      omega (arith, front, steps, hangs)

  cost_after : cost_at topology (after_step s tree) (behind v at) ≡ cost_at topology tree at + price_at topology s
  cost_after =
      let front : sum_by (λ x. price_at topology x.segment) (after_step s tree).steps
      ≡ price_at topology s + sum_by (λ x. price_at topology x.segment) (map later tree.steps) =
      sum_by-cons (λ x. price_at topology x.segment) (record { parent = 0; segment = s }) (map later tree.steps) in
      let prices : sum_by (λ x. price_at topology x.segment) (map later tree.steps) ≡ sum_by (λ x. price_at topology x.segment) tree.steps =
      sum_by-map (λ x. price_at topology x.segment) later tree.steps in
      let count : length (after_step s tree).steps ≡ suc (length tree.steps) = ap suc as_many in
      let stem : splice_at topology (after_step s tree) (behind v at) 0 ≡ 0 = rw degree_front (omega arith) in
      let splices : sum_through (splice_at topology (after_step s tree) (behind v at)) (length (after_step s tree).steps)
      ≡ sum_through (splice_at topology tree at) (length tree.steps) =
      ap (sum_through (splice_at topology (after_step s tree) (behind v at))) count
      ∙ (sum_through-front (length tree.steps) (splice_at topology (after_step s tree) (behind v at))
      ∙ (omega (arith, stem)
      ∙ sum_through-same (length tree.steps) (λ p. splice_at topology (after_step s tree) (behind v at) (suc p))
      (splice_at topology tree at) (λ p h. ap (λ d. branch_at topology (at p) * (d - 2)) (degree_later p)))) in
      omega (arith, front, prices, splices)

-- a step in front, over an open segment, adds its price
pub step_adds_price : (topology : TopologyView) (cavities : List ℕ) (s v u m : ℕ) → Leads topology s v u
    → HasTree topology cavities u m → HasTree topology cavities v (m + price_at topology s)
step_adds_price topology cavities s v u m leads (tree, is_tree, cost) =
    let at : ℕ → ℕ = place_of topology u tree in
    let drawn : Drawn topology cavities u tree at = drawn_tree topology cavities u tree is_tree in
    has_drawn topology cavities v (after_step s tree) (behind v at) (drawn_after topology cavities s v u leads tree at drawn)
    (m + price_at topology s)
    (omega (arith, cost_after topology cavities s v u leads tree at drawn, cost_at_places topology cavities u tree, cost))
