-- A legal table is below every wiring tree.
use Rattle.std.proofs.Common.{ℕ, zero, suc, List, Option, Some, None, length, take, drop, slice_index, sum_by, count_by, ◌==◌, ◌≡◌, ◌+◌, ◌-◌, ◌*◌, ◌^◌, ◌<◌, ◌≤◌, arith, refl, sym, ◌∙◌, ap, subst, length-drop, get_or-drop, take_all, eq-eqb, ne_eqb}
use Rattle.std.specs.Int.{sum_through}
use Rattle.std.proofs.lemmas.List.Sums.{sum_by_more, count_by_more_yes, count_by_more_no}
use Rattle.loom_topology.specs.Topology.{TopologyView, IsSound, branch_at, price_at, node_of}
use Rattle.loom_topology.specs.WiringTree.{Tree, IsWiringTree, no_step, step_at, place_of}
use Rattle.loom_topology.specs.TreeCost.{cost_of, degree_of, splice_cost_of}
use Rattle.loom_topology.specs.Legal.{IsLegal, IsMask, IsAtMost, plus, cavities_of_mask}
use Rattle.loom_topology.proofs.Sums.{sum_through-same}
use Rattle.loom_topology.proofs.Bundles.{Bundled, Merges, worth}
use Rattle.loom_topology.proofs.Climb.{Steps, climb}
use Rattle.loom_topology.proofs.Hangs.{Hung, Leaves, hang, hung_at}
use Rattle.loom_topology.proofs.Places.{place-zero, step_leads, place_below}

at_most-weaken : (x : Option ℕ) (r s : ℕ) → r ≤ s → IsAtMost x (Some r) → IsAtMost x (Some s)
at_most-weaken None r s h below = below
at_most-weaken (Some m) r s h below = omega arith

at_most-split : (x a b : Option ℕ) (r s w : ℕ) → IsAtMost x (plus (plus a b) (Some w)) → IsAtMost a (Some r) → IsAtMost b (Some s)
    → IsAtMost x (Some (r + s + w))
at_most-split x None b r s w h below_a below_b = absurd below_a
at_most-split x (Some m) None r s w h below_a below_b = absurd below_b
at_most-split None (Some m) (Some n) r s w h below_a below_b = absurd h
at_most-split (Some l) (Some m) (Some n) r s w h below_a below_b = omega arith

at_most-over : (x a : Option ℕ) (r w : ℕ) → IsAtMost x (plus a (Some w)) → IsAtMost a (Some r) → IsAtMost x (Some (r + w))
at_most-over x None r w h below = absurd below
at_most-over None (Some m) r w h below = absurd h
at_most-over (Some l) (Some m) r w h below = omega arith

sum_through-zero : (n : ℕ) → sum_through (λ p. 0) n ≡ 0
sum_through-zero zero = refl
sum_through-zero (suc n) = omega (arith, sum_through-zero n)

module _ (topology : TopologyView) (terminals : List ℕ) (P : ℕ → ℕ → Option ℕ) (mask v : ℕ) (tree : Tree)
    (sound : IsSound topology) (legal : IsLegal topology terminals P) (range : IsMask terminals mask)
    (node : v < length topology.nodes) (is_tree : IsWiringTree topology (cavities_of_mask terminals mask) v tree) where
  -- the table at the mask m, at the place of p, is at most r
  abbrev Below : ℕ → ℕ → ℕ → Type 0
  Below p m r = IsAtMost (P m (place_of topology v tree p)) (Some r)

  abbrev points : ℕ
  points = length tree.steps

  abbrev parent : ℕ → ℕ
  parent k = (step_at tree k).parent

  abbrev price : ℕ → ℕ
  price k = price_at topology (step_at tree k).segment

  abbrev spent : ℕ → ℕ
  spent k = sum_by (λ s. price_at topology s.segment) (take k tree.steps)

  abbrev begun : ℕ → ℕ → ℕ
  begun k p = count_by (λ s. s.parent == p) (take k tree.steps)

  abbrev branch : ℕ → ℕ
  branch p = branch_at topology (place_of topology v tree p)

  merges : Merges mask points branch Below
  merges = record {
    merge = λ p a b r s below some_a some_b apart fits below_a below_b.
        at_most-split (P (a + b) (place_of topology v tree p)) (P a (place_of topology v tree p)) (P b (place_of topology v tree p)) r s (branch p)
        (legal.split a b (place_of topology v tree p) some_a some_b apart (omega arith, omega arith)
        (place_below topology (cavities_of_mask terminals mask) v tree is_tree sound node p below)) below_a below_b;
    weaken = λ p m r s. at_most-weaken (P m (place_of topology v tree p)) r s;
  }

  steps : Steps mask points parent price spent begun Below
  steps = record {
    before = is_tree.parent;
    along = λ k m r h some fits below.
        let start : parent k ≤ k = is_tree.parent k h in
        at_most-over (P m (place_of topology v tree (parent k))) (P m (place_of topology v tree (suc k))) r (price k)
        (legal.over m (place_of topology v tree (parent k)) (step_at tree k).segment (place_of topology v tree (suc k)) (some, omega arith)
        (place_below topology (cavities_of_mask terminals mask) v tree is_tree sound node (parent k) (omega arith))
        (step_leads topology (cavities_of_mask terminals mask) v tree is_tree k h)) below;
    adds = λ k h.
        let e : k + 1 ≡ suc k = omega arith in
        rw e at (sum_by_more (λ s. price_at topology s.segment) tree.steps k no_step h);
    here = λ k h.
        let e : k + 1 ≡ suc k = omega arith in
        let more : begun (suc k) (parent k) ≡ begun k (parent k) + 1 =
        rw e at (count_by_more_yes (λ s. s.parent == parent k) tree.steps k no_step h (eq-eqb (parent k) (parent k) refl)) in
        omega arith;
    elsewhere = λ k p h other.
        let e : k + 1 ≡ suc k = omega arith in
        rw e at (count_by_more_no (λ s. s.parent == p) tree.steps k no_step h (ne_eqb (parent k) p (λ f. other (sym f))));
  }

  -- a cavity lies where it hangs
  abbrev Lies : ℕ → ℕ → Type 0
  Lies c h = (h ≤ points) × (place_of topology v tree h ≡ node_of topology c)

  leaves : Leaves Below mask points branch (λ p. begun points p) Lies merges (drop 1 terminals) 0
  leaves j h within lies =
      let inside : j + 1 < length terminals = omega (arith, length-drop 1 terminals) in
      let leaf : IsAtMost (P (2 ^ j) (node_of topology (slice_index terminals (j + 1)))) (Some 0) = legal.leaf j inside in
      let same : slice_index (drop 1 terminals) j ≡ slice_index terminals (1 + j) = get_or-drop 1 terminals j 0 in
      let at : j + 1 ≡ 1 + j = omega arith in
      let here : node_of topology (slice_index terminals (j + 1)) ≡ place_of topology v tree h =
      ap (λ i. node_of topology (slice_index terminals i)) at ∙ (ap (node_of topology) (sym same) ∙ sym lies.1) in
      let bit : j ≡ 0 + j = omega arith in (
        lies.0,
        subst (λ i. IsAtMost (P (2 ^ i) (place_of topology v tree h)) (Some 0)) bit
            (subst (λ u. IsAtMost (P (2 ^ j) u) (Some 0)) here leaf),
      )

  nothing : Bundled Below points (λ p. 0) (λ p. 0)
  nothing = record { known = λ p below some. absurd (omega arith); apart = λ p q p_below q_below other. refl }

  hung : Hung Below points branch (λ p. begun points p) (λ p. 0) (λ p. 0) (mask * 2 ^ 0) tree.hangs
  hung =
      let none : sum_through (λ p. 0) points ≡ 0 = sum_through-zero points in
      hang Below mask points branch (λ p. begun points p) Lies merges (drop 1 terminals) mask 0 tree.hangs (λ p. 0) (λ p. 0)
      leaves is_tree.hangs (rw (length-drop 1 terminals) range.1) (omega arith) (omega arith) nothing

  worth_is : sum_through (worth branch (λ p. begun points p + hung_at tree.hangs p) (λ p. 0) (λ p. 0)) points
      ≡ sum_through (splice_cost_of topology v tree) points
  unfolding degree_of
  worth_is = sum_through-same points (worth branch (λ p. begun points p + hung_at tree.hangs p) (λ p. 0) (λ p. 0))
      (splice_cost_of topology v tree) (λ p below.
      let all : take points tree.steps ≡ tree.steps = take_all points tree.steps (omega arith) in
      let less : begun points p + hung_at tree.hangs p + 0 - 1
      ≡ count_by (λ s. s.parent == p) tree.steps + count_by (λ h. h == p) tree.hangs + 1 - 2 = rw all (omega arith) in
      rw less (omega arith))

  spent_is : spent points ≡ sum_by (λ s. price_at topology s.segment) tree.steps
  spent_is = ap (sum_by (λ s. price_at topology s.segment)) (take_all points tree.steps (omega arith))

  pub legal_is_below_every_tree : IsAtMost (P mask v) (Some (cost_of topology v tree))
  unfolding cost_of
  legal_is_below_every_tree =
      let whole : sum_through hung.masks points ≡ mask = omega (arith, hung.union, sum_through-zero points) in
      let some : 0 < mask = range.0 in
      let low : Below 0 (sum_through hung.masks points) (spent points + sum_through (worth branch (begun points) hung.masks hung.bounds) points) =
      climb mask points parent price spent begun branch Below steps merges points hung.masks hung.bounds (omega arith) hung.bundled
      (omega arith) (omega arith) in
      let at_stem : IsAtMost (P mask v) (Some (spent points + sum_through (worth branch (begun points) hung.masks hung.bounds) points)) =
      subst (λ u. IsAtMost (P mask u) (Some (spent points + sum_through (worth branch (begun points) hung.masks hung.bounds) points)))
      (place-zero topology v tree)
      (subst (λ m. Below 0 m (spent points + sum_through (worth branch (begun points) hung.masks hung.bounds) points)) whole low) in
      at_most-weaken (P mask v) (spent points + sum_through (worth branch (begun points) hung.masks hung.bounds) points)
      (sum_by (λ s. price_at topology s.segment) tree.steps + sum_through (splice_cost_of topology v tree) points)
      (omega (arith, hung.cheap, worth_is, spent_is)) at_stem
