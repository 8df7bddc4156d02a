-- What a cavity that is hung, and a step that is taken, do to a tree, its degrees and its cost.
use Rattle.std.proofs.Common.{ℕ, zero, suc, List, [], ◌∷◌, length, drop, slice_index, cond, ◌==◌, ◌≡◌, ◌≢◌, ◌+◌, ◌-◌, ◌*◌, ◌^◌, ◌<◌, ◌≤◌, min, count_by, arith, refl, sym, ◌∙◌, ap, subst, inl, inr, length-drop, length-append, get_or-drop}
use Rattle.std.specs.Int.{bit_at, sum_through}
use Rattle.std.proofs.lemmas.Bool.{cases_lt, cond-true, cond-false, eq-eqb, ne_eqb}
use Rattle.std.proofs.lemmas.List.{get_or_append_left}
use Rattle.std.proofs.lemmas.List.Sums.{sum_by_push}
use Rattle.std.proofs.Math.Seq.{get_or-append_seam}
use Rattle.loom_topology.specs.Topology.{TopologyView, Leads, branch_at, price_at, node_of}
use Rattle.loom_topology.specs.WiringTree.{Step, no_step, step_at}
use Rattle.loom_topology.specs.TreeCost.{degree_of}
use Rattle.loom_topology.specs.Legal.{cavities_of_mask}
use Rattle.loom_topology.proofs.Sums.{sum_through-put, sum_by-none}
use Rattle.loom_topology.proofs.Drawn.{AllZip-like, Drawn, cost_at, splice_at}
use Rattle.loom_layout.specs.Layout.{Laying, hung, stepped, tree_laid}
use Rattle.loom_layout.proofs.HungCavities.{hung_at-past, zip_put, hung_put}

-- the degree of a point while the cavities of a mask are hung
abbrev pub degree_in : ℕ → Laying → ℕ → ℕ
degree_in done laying p = degree_of (tree_laid done laying) p

-- the splice that one thing more at a point of degree d brings
abbrev pub spliced : ℕ → ℕ → ℕ
spliced branch d = branch * min (d - 1) 1

gain : (b d : ℕ) → 1 ≤ d → b * (d + 1 - 2) ≡ b * (d - 2) + spliced b d
gain b zero some = absurd (omega (arith, some))
gain b (suc zero) some = omega arith
gain b (suc (suc k)) some =
    let more : suc (suc k) + 1 - 2 ≡ k + 1 = omega arith in
    let before : suc (suc k) - 2 ≡ k = omega arith in
    let one : min (suc (suc k) - 1) 1 ≡ 1 = omega arith in
    rw (more, before, one) (omega arith)

pub same_point : (a b : ℕ) → a ≡ b → ◌≡◌ {A = ℕ} (cond (a == b) 1 0) 1
same_point a b e = cond-true (a == b) 1 0 (eq-eqb a b e)

pub other_point : (a b : ℕ) → b ≢ a → ◌≡◌ {A = ℕ} (cond (a == b) 1 0) 0
other_point a b other = cond-false (a == b) 1 0 (ne_eqb a b (λ e. other (sym e)))

-- the points lie as before, and a further one at u
abbrev pub at_next : (ℕ → ℕ) → ℕ → ℕ → ℕ → ℕ
at_next at last u p = cond (p == last) u (at p)

pub at_old : (at : ℕ → ℕ) (last u p : ℕ) → p < last → at_next at last u p ≡ at p
at_old at last u p below = cond-false (p == last) u (at p) (ne_eqb p last (λ e. omega (arith, below, e)))

pub at_new : (at : ℕ → ℕ) (last u p : ℕ) → p ≡ last → at_next at last u p ≡ u
at_new at last u p e = cond-true (p == last) u (at p) (eq-eqb p last e)

pub degree_some : (done : ℕ) (laying : Laying) (p : ℕ) → 1 ≤ degree_in done laying p
unfolding degree_of
degree_some done laying p = omega arith

module _ (topology : TopologyView) (terminals : List ℕ) (root done : ℕ) (laying : Laying) (at : ℕ → ℕ)
    (drawn : Drawn topology (cavities_of_mask terminals done) root (tree_laid done laying) at) where
  degree_past : (p : ℕ) → length laying.steps < p → degree_in done laying p ≡ 1
  unfolding degree_of
  degree_past p past =
      let steps : count_by (λ s. s.parent == p) laying.steps ≡ 0 =
      sum_by-none (λ s. cond (s.parent == p) 1 0) laying.steps no_step
      (λ k h. other_point (step_at (tree_laid done laying) k).parent p
      (λ e. omega (arith, drawn.below k h, h, past, e))) in
      let hangs = hung_at-past (λ c h. (h ≤ length laying.steps) × (at h ≡ node_of topology c)) (length laying.steps) p
      (λ c h lies. lies.0) past (cavities_of_mask terminals done) (tree_laid done laying).hangs drawn.hangs in
      omega (arith, steps, hangs)

  module _ (i point : ℕ) (many : length laying.points ≡ length terminals - 1) (within : i + 1 < length terminals)
      (free : bit_at done i ≡ 0) (there : point ≤ length laying.steps)
      (home : at point ≡ node_of topology (slice_index terminals (i + 1))) where
    terminal_at : slice_index (drop 1 terminals) i ≡ slice_index terminals (i + 1)
    terminal_at =
        let e : 1 + i ≡ i + 1 = omega arith in
        get_or-drop 1 terminals i 0 ∙ ap (slice_index terminals) e

    pub drawn_hung : Drawn topology (cavities_of_mask terminals (done + 2 ^ i)) root (tree_laid (done + 2 ^ i) (hung laying i point)) at
    drawn_hung = record {
      first = drawn.first;
      below = drawn.below;
      leads = drawn.leads;
      hangs = zip_put (λ c h. (h ≤ length laying.steps) × (at h ≡ node_of topology c)) (drop 1 terminals) laying.points done i point
          (many ∙ sym (length-drop 1 terminals)) (omega (arith, length-drop 1 terminals, within)) free
          (there, home ∙ ap (node_of topology) (sym terminal_at)) drawn.hangs;
    }

    pub degree_hung : (p : ℕ) → degree_in (done + 2 ^ i) (hung laying i point) p ≡ degree_in done laying p + cond (point == p) 1 0
    unfolding degree_of
    degree_hung p = omega (arith, hung_put laying.points done i point p (omega (arith, many, within)) free)

    pub cost_hung : cost_at topology (tree_laid (done + 2 ^ i) (hung laying i point)) at
        ≡ cost_at topology (tree_laid done laying) at + spliced (branch_at topology (at point)) (degree_in done laying point)
    cost_hung =
        let f : ℕ → ℕ = splice_at topology (tree_laid (done + 2 ^ i) (hung laying i point)) at in
        let g : ℕ → ℕ = splice_at topology (tree_laid done laying) at in
        let moved : sum_through f (length laying.steps) + g point ≡ sum_through g (length laying.steps) + f point =
        sum_through-put (length laying.steps) point f g there
        (λ p below other. ap (λ d. branch_at topology (at p) * (d - 2))
        (let e : degree_in (done + 2 ^ i) (hung laying i point) p ≡ degree_in done laying p = omega (arith, degree_hung p, other_point point p other) in e)) in
        let degree : degree_in (done + 2 ^ i) (hung laying i point) point ≡ degree_in done laying point + 1 =
        omega (arith, degree_hung point, same_point point point refl) in
        let here : f point ≡ g point + spliced (branch_at topology (at point)) (degree_in done laying point) =
        ap (λ d. branch_at topology (at point) * (d - 2)) degree
        ∙ gain (branch_at topology (at point)) (degree_in done laying point) (degree_some done laying point) in
        omega (arith, moved, here)

  module _ (segment point u : ℕ) (there : point ≤ length laying.steps) (leads : Leads topology segment (at point) u) where
    pub longer : length (stepped laying point segment).steps ≡ length laying.steps + 1
    longer = length-append laying.steps (record { parent = point; segment = segment } ∷ [])

    step_old : (k : ℕ) → k < length laying.steps
        → step_at (tree_laid done laying) k ≡ step_at (tree_laid done (stepped laying point segment)) k
    step_old k h = sym (get_or_append_left laying.steps (record { parent = point; segment = segment } ∷ []) no_step k h)

    step_new : record { parent = point; segment = segment } ≡ step_at (tree_laid done (stepped laying point segment)) (length laying.steps)
    step_new = sym (get_or-append_seam laying.steps (record { parent = point; segment = segment }) [] no_step)

    below_stepped : (k : ℕ) → k < length (stepped laying point segment).steps
        → (step_at (tree_laid done (stepped laying point segment)) k).parent ≤ k
    below_stepped k h = elim (cases_lt k (length laying.steps)) [
      | inl old ↦ subst (λ (s : Step). s.parent ≤ k) (step_old k old) (drawn.below k old)
      | inr new ↦
          let e : length laying.steps ≡ k = omega (arith, h, new, longer) in
          subst (λ (j : ℕ). (step_at (tree_laid done (stepped laying point segment)) j).parent ≤ j) e
          (subst (λ (s : Step). s.parent ≤ length laying.steps) step_new there)
    ]

    leads_stepped : (k : ℕ) → k < length (stepped laying point segment).steps
        → Leads topology (step_at (tree_laid done (stepped laying point segment)) k).segment
        (at_next at (length laying.steps + 1) u (step_at (tree_laid done (stepped laying point segment)) k).parent)
        (at_next at (length laying.steps + 1) u (suc k))
    leads_stepped k h = elim (cases_lt k (length laying.steps)) [
      | inl old ↦
          let s : Step = step_at (tree_laid done laying) k in
          let start : at s.parent ≡ at_next at (length laying.steps + 1) u s.parent =
          sym (at_old at (length laying.steps + 1) u s.parent (omega (arith, drawn.below k old, old))) in
          let end : at (suc k) ≡ at_next at (length laying.steps + 1) u (suc k) =
          sym (at_old at (length laying.steps + 1) u (suc k) (omega (arith, old))) in
          subst (λ (t : Step). Leads topology t.segment (at_next at (length laying.steps + 1) u t.parent) (at_next at (length laying.steps + 1) u (suc k)))
          (step_old k old)
          (subst (λ (x : ℕ). Leads topology s.segment x (at_next at (length laying.steps + 1) u (suc k))) start
          (subst (λ (x : ℕ). Leads topology s.segment (at s.parent) x) end (drawn.leads k old)))
      | inr new ↦
          let e : length laying.steps ≡ k = omega (arith, h, new, longer) in
          let start : at point ≡ at_next at (length laying.steps + 1) u point =
          sym (at_old at (length laying.steps + 1) u point (omega (arith, there))) in
          let end : u ≡ at_next at (length laying.steps + 1) u (suc (length laying.steps)) =
          sym (at_new at (length laying.steps + 1) u (suc (length laying.steps)) (omega arith)) in
          subst (λ (j : ℕ). Leads topology (step_at (tree_laid done (stepped laying point segment)) j).segment
          (at_next at (length laying.steps + 1) u (step_at (tree_laid done (stepped laying point segment)) j).parent)
          (at_next at (length laying.steps + 1) u (suc j))) e
          (subst (λ (t : Step). Leads topology t.segment (at_next at (length laying.steps + 1) u t.parent)
          (at_next at (length laying.steps + 1) u (suc (length laying.steps)))) step_new
          (subst (λ (x : ℕ). Leads topology segment x (at_next at (length laying.steps + 1) u (suc (length laying.steps)))) start
          (subst (λ (x : ℕ). Leads topology segment (at point) x) end leads)))
    ]

    pub drawn_stepped : Drawn topology (cavities_of_mask terminals done) root (tree_laid done (stepped laying point segment))
        (at_next at (length laying.steps + 1) u)
    drawn_stepped = record {
      first = at_old at (length laying.steps + 1) u 0 (omega arith) ∙ drawn.first;
      below = below_stepped;
      leads = leads_stepped;
      hangs = AllZip-like (λ c h. (h ≤ length laying.steps) × (at h ≡ node_of topology c))
          (λ c h. (h ≤ length (stepped laying point segment).steps) × (at_next at (length laying.steps + 1) u h ≡ node_of topology c))
          (λ c h lies.
          let fits : h ≤ length (stepped laying point segment).steps = omega (arith, lies.0, longer) in
          (fits, at_old at (length laying.steps + 1) u h (omega (arith, lies.0)) ∙ lies.1))
          (cavities_of_mask terminals done) (tree_laid done laying).hangs drawn.hangs;
    }

    pub degree_stepped : (p : ℕ) → degree_in done (stepped laying point segment) p ≡ degree_in done laying p + cond (point == p) 1 0
    unfolding degree_of
    degree_stepped p = omega (arith, sum_by_push (λ s. cond (s.parent == p) 1 0) laying.steps (record { parent = point; segment = segment }))

    pub degree_new : degree_in done (stepped laying point segment) (length laying.steps + 1) ≡ 1
    degree_new = omega (
      arith,
      degree_stepped (length laying.steps + 1),
      degree_past (length laying.steps + 1) (omega arith),
      other_point point (length laying.steps + 1) (λ e. omega (arith, there, e)),
    )

    pub cost_stepped : cost_at topology (tree_laid done (stepped laying point segment)) (at_next at (length laying.steps + 1) u)
        ≡ cost_at topology (tree_laid done laying) at + price_at topology segment
        + spliced (branch_at topology (at point)) (degree_in done laying point)
    cost_stepped =
        let f : ℕ → ℕ = splice_at topology (tree_laid done (stepped laying point segment)) (at_next at (length laying.steps + 1) u) in
        let g : ℕ → ℕ = splice_at topology (tree_laid done laying) at in
        let prices = sum_by_push (λ s. price_at topology s.segment) laying.steps (record { parent = point; segment = segment }) in
        let count : length (stepped laying point segment).steps ≡ suc (length laying.steps) = omega (arith, longer) in
        let final : f (suc (length laying.steps)) ≡ 0 =
        ap (λ d. branch_at topology (at_next at (length laying.steps + 1) u (suc (length laying.steps))) * (d - 2))
        (let e : degree_in done (stepped laying point segment) (suc (length laying.steps)) ≡ 1 =
        ap (degree_in done (stepped laying point segment)) (let s : suc (length laying.steps) ≡ length laying.steps + 1 = omega arith in s) ∙ degree_new in e)
        ∙ omega arith in
        let sums : sum_through f (length (stepped laying point segment).steps) ≡ sum_through f (length laying.steps) =
        ap (sum_through f) count ∙ omega (arith, final) in
        let at_place : (p : ℕ) → p ≤ length laying.steps → at_next at (length laying.steps + 1) u p ≡ at p =
        λ p below. at_old at (length laying.steps + 1) u p (omega (arith, below)) in
        let moved : sum_through f (length laying.steps) + g point ≡ sum_through g (length laying.steps) + f point =
        sum_through-put (length laying.steps) point f g there
        (λ p below other.
        ap (λ v. branch_at topology v * (degree_in done (stepped laying point segment) p - 2)) (at_place p below)
        ∙ ap (λ d. branch_at topology (at p) * (d - 2))
        (let e : degree_in done (stepped laying point segment) p ≡ degree_in done laying p = omega (arith, degree_stepped p, other_point point p other) in e)) in
        let degree : degree_in done (stepped laying point segment) point ≡ degree_in done laying point + 1 =
        omega (arith, degree_stepped point, same_point point point refl) in
        let here : f point ≡ g point + spliced (branch_at topology (at point)) (degree_in done laying point) =
        ap (λ v. branch_at topology v * (degree_in done (stepped laying point segment) point - 2)) (at_place point there)
        ∙ (ap (λ d. branch_at topology (at point) * (d - 2)) degree
        ∙ gain (branch_at topology (at point)) (degree_in done laying point) (degree_some done laying point)) in
        omega (arith, prices, sums, moved, here)
