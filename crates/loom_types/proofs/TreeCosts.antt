-- The wires of a layout cost what its tree does.
use Rattle.std.proofs.Common.{ℕ, zero, suc, List, [], ◌∷◌, Bool, true, false, cond, length, map, ◌≡◌, ◌≢◌, ◌+◌, ◌-◌, ◌*◌, ◌≤◌, ◌==◌, inl, inr, refl, sym, ap, ◌∙◌, sum_by, count_by, arith}
use Rattle.std.specs.Int.{sum_through}
use Rattle.std.proofs.Math.Nat.{mul_comm}
use Rattle.std.proofs.lemmas.Bool.{cases_eq, cases_order, le-leb}
use Rattle.std.proofs.lemmas.List.Sums.{sum_by-cons}
use Rattle.loom_topology.proofs.Sums.{sum_through-same, sum_through-put}
use Rattle.loom_topology.specs.Topology.{TopologyView, segment_at, price_at, branch_at, is_coupler}
use Rattle.loom_topology.specs.WiringTree.{Tree, step_at, place_of}
use Rattle.loom_topology.specs.TreeCost.{degree_of, splice_cost_of, cost_of}
use Rattle.loom_types.specs.declared.wire.End.{End}
use Rattle.loom_types.specs.declared.wire.End.TheVariants.{Cavity}
use Rattle.loom_types.specs.declared.wire.Wire.{Wire}
use Rattle.loom_types.specs.LayoutWires.{Crossing, Over, Through, Leg, splice_of, ordinal_of, is_splice, thread_from}
use Rattle.loom_types.specs.WireCost.{Point, PinPoint, point_of, points_of, is_same_point, distinct_points, point_cost, wires_cost}
use Rattle.loom_types.specs.WireTree.{ends_of}
use Rattle.loom_types.proofs.Tallies.{below}
use Rattle.loom_types.proofs.CutWeights.{wire_weight, thread_weight, crossing_weight, spliced_weight, weight-cut}
use Rattle.loom_types.proofs.EndTests.{at_point, at_point-cases, at_point-here}
use Rattle.loom_types.proofs.Growth.{met, met-cons}
use Rattle.loom_types.proofs.PointSums.{pair_points}
use Rattle.loom_types.proofs.CutGrowth.{named, pin_value, thread_value, is_point}
use Rattle.loom_types.proofs.TreeLegs.{length-legs, sum-legs, sum-hung_threads, below-degree}
use Rattle.loom_types.proofs.TreeNames.{IsCutTree, sum_by-zero, sum_through-zero, splice_apart}
use Rattle.loom_types.proofs.TreeForms.{stem_end, tree_hung, tree_legs, tree_wires, tree_are_legs, tree_hung_below, tree_grows, tree_met, sum_by-alike, spliced_zero}

sum_by-plus : {X : Type 0} (f g : X → ℕ) (xs : List X) → sum_by (λ x. f x + g x) xs ≡ sum_by f xs + sum_by g xs
sum_by-plus f g [] = refl
sum_by-plus f g (x ∷ xs) =
    let rest = sum_by-plus f g xs in
    omega (arith, rest, sum_by-cons (λ y. f y + g y) x xs, sum_by-cons f x xs, sum_by-cons g x xs)

-- a sum in which one term counts
sum_through-only : (f : ℕ → ℕ) (n p : ℕ) → p ≤ n → ((q : ℕ) → q ≤ n → q ≢ p → f q ≡ 0) → sum_through f n ≡ f p
sum_through-only f n p within others =
    let put = sum_through-put n p f (λ q. 0) within others in
    let none = sum_through-zero (λ q. 0) n (λ q small. refl) in
    omega (arith, put, none)

pair_points-wires : (ws : List Wire) → pair_points (map ends_of ws) ≡ points_of ws
pair_points-wires [] = refl
pair_points-wires (w ∷ ws) = ap (λ ps. point_of w.from ∷ point_of w.to ∷ ps) (pair_points-wires ws)

points-met : (P : Point) (ws : List (End × End)) → count_by (is_same_point P) (pair_points ws) ≡ met (at_point P) ws
points-met P [] = refl
points-met P (w ∷ ws) =
    let rest = points-met P ws in
    omega (
      arith,
      rest,
      met-cons (at_point P) w ws,
      sum_by-cons (is_point P) (point_of w.0) (point_of w.1 ∷ pair_points ws),
      sum_by-cons (is_point P) (point_of w.1) (pair_points ws),
    )

-- a step costs its run's length, or its pin's price
leg_price : (topology : TopologyView) (ends : List Point) (coupler first : Bool) (segment pin : ℕ)
    → crossing_weight (λ e. 0) 1
    (cond coupler (cond first (Through segment pin 1 2) (Through segment pin 2 1)) (Over segment (price_at topology segment)))
    + pin_value (point_cost topology ends)
    (cond coupler (cond first (Through segment pin 1 2) (Through segment pin 2 1)) (Over segment (price_at topology segment)))
    ≡ price_at topology segment
leg_price topology ends true true segment pin = omega arith
leg_price topology ends true false segment pin = omega arith
leg_price topology ends false first segment pin = omega arith

no_splice_point : (P : Point) → ((x p : ℕ) → is_point P (PinPoint x p) ≡ 0) → (crossing : Crossing) → crossing_weight (at_point P) 0 crossing ≡ 0
no_splice_point P none (Over segment length) = omega arith
no_splice_point P none (Through coupler pin near far) = omega (arith, none coupler pin)

module _ (topology : TopologyView) (v : ℕ) (pins : ℕ → ℕ → ℕ) (tree : Tree) (stem : ℕ) (cavities : List ℕ)
    (is_cut : IsCutTree topology v pins stem cavities tree) (net : ℕ) where
  abbrev wires : List Wire
  wires = tree_wires topology v pins tree stem cavities is_cut net

  abbrev at_below : ℕ → ℕ
  at_below p =
      below (tree_hung topology v pins tree stem cavities is_cut net) (tree_legs topology v pins tree stem cavities is_cut net) p

  abbrev name_of : ℕ → Point
  name_of p = point_of (splice_of topology v tree p)

  legs_count : length (tree_legs topology v pins tree stem cavities is_cut net) ≡ length tree.steps
  legs_count = length-legs topology v pins tree (length tree.steps)

  degree_at : (p : ℕ) → at_below p + 1 ≡ degree_of tree p
  degree_at p = below-degree topology v pins tree _ cavities is_cut.wiring.hangs p

  splice_here : (r : ℕ) → r ≤ length tree.steps → at_below r ≢ 1 → is_splice tree r ≡ true
  splice_here r within many = le-leb 3 (degree_of tree r) (omega (arith, many, degree_at r, is_cut.degrees r within))

  -- other splices have other names
  other_splice : (p q : ℕ) → p ≤ length tree.steps → q ≤ length tree.steps → at_below p ≢ 1 → q ≢ p
      → spliced_weight (at_point (name_of p) (splice_of topology v tree q)) (at_below q) ≡ 0
  other_splice p q within_p within_q many_p other = elim (cases_eq (at_below q) 1) [
    | inl single ↦ ap (spliced_weight (at_point (name_of p) (splice_of topology v tree q))) single
    | inr many_q ↦ elim (at_point-cases (name_of p) (splice_of topology v tree q)) [
      | inr none ↦ ap (λ w. spliced_weight w (at_below q)) none ∙ spliced_zero (at_below q)
      | inl same ↦ absurd (elim (cases_order p q) [
        | inl e ↦ other (sym e)
        | inr (inl less) ↦ splice_apart topology v pins tree p q less (splice_here q within_q many_q) same.0
        | inr (inr more) ↦ splice_apart topology v pins tree q p more (splice_here p within_p many_p) (sym same.0)
      ])
    ]
  ]

  ends_at_splice : (p : ℕ) → p ≤ length tree.steps → at_below p ≢ 1
      → count_by (is_same_point (name_of p)) (points_of wires) ≡ spliced_weight 1 (at_below p)
  ends_at_splice p within many =
      let P = name_of p in
      let threads = sum-hung_threads _ (thread_weight (at_point P) 0) cavities tree.hangs is_cut.wiring.hangs in
      let none = sum_by-zero (λ d. thread_weight (at_point P) 0 (thread_from (Cavity (record { 0 = d })))) cavities (λ d. omega arith) in
      let crossings = sum_by-zero (λ leg. crossing_weight (at_point P) 0 leg.crossing)
      (tree_legs topology v pins tree stem cavities is_cut net) (λ leg. no_splice_point P (λ x r. refl) leg.crossing) in
      let only = sum_through-only (λ q. spliced_weight (at_point P (splice_of topology v tree q)) (at_below q)) (length tree.steps) p within
      (λ q small other. other_splice p q within small many other) in
      let count = ap (sum_through (λ q. spliced_weight (at_point P (splice_of topology v tree q)) (at_below q))) legs_count in
      let here = ap (λ w. spliced_weight w (at_below p)) (at_point-here (splice_of topology v tree p)) in
      let points = ap (count_by (is_same_point P)) (pair_points-wires wires) in
      omega (
        arith,
        points,
        points-met P (map ends_of wires),
        tree_met topology v pins tree stem cavities is_cut net (at_point P),
        threads,
        none,
        crossings,
        only,
        count,
        here,
      )

  splice_value : (n p : ℕ) → at_below p ≡ n → p ≤ length tree.steps
      → named (point_cost topology (points_of wires) (name_of p)) n ≡ splice_cost_of topology v tree p
  splice_value zero p e within = absurd (omega (arith, e, degree_at p, is_cut.degrees p within))
  splice_value (suc zero) p e within =
      let two : degree_of tree p - 2 ≡ 0 = omega (arith, e, degree_at p) in
      rw two (omega arith)
  splice_value (suc (suc n)) p e within =
      let b = branch_at topology (place_of topology v tree p) in
      let count : count_by (is_same_point (name_of p)) (points_of wires) ≡ degree_of tree p =
      ends_at_splice p within (λ one. omega (arith, e, one)) ∙ (ap (spliced_weight 1) e ∙ omega (arith, e, degree_at p)) in
      ap (λ (k : ℕ). (k - 2) * b) count ∙ mul_comm (degree_of tree p - 2) b

  lengths_sum : sum_by (λ w. w.length) wires
      ≡ sum_by (λ leg. crossing_weight (λ e. 0) 1 leg.crossing) (tree_legs topology v pins tree stem cavities is_cut net)
  lengths_sum =
      let all = weight-cut (λ e. 0) 1 net (splice_of topology v tree) (stem_end topology v pins tree stem cavities is_cut net)
      (tree_hung topology v pins tree stem cavities is_cut net) (tree_legs topology v pins tree stem cavities is_cut net)
      (tree_are_legs topology v pins tree stem cavities is_cut net) (tree_hung_below topology v pins tree stem cavities is_cut net) in
      let same = sum_by-alike (λ w. w.length) (wire_weight (λ e. 0) 1) wires (λ w. omega arith) in
      let threads = sum-hung_threads _ (thread_weight (λ e. 0) 1) cavities tree.hangs is_cut.wiring.hangs in
      let none = sum_by-zero (λ d. thread_weight (λ e. 0) 1 (thread_from (Cavity (record { 0 = d })))) cavities (λ d. refl) in
      let splices = sum_through-zero (λ p. spliced_weight 0 (at_below p)) (length (tree_legs topology v pins tree stem cavities is_cut net))
      (λ p within. spliced_zero (at_below p)) in
      omega (arith, all, same, threads, none, splices)

  prices_sum : sum_by (λ leg. crossing_weight (λ e. 0) 1 leg.crossing) (tree_legs topology v pins tree stem cavities is_cut net)
      + sum_by (λ leg. pin_value (point_cost topology (points_of wires)) leg.crossing) (tree_legs topology v pins tree stem cavities is_cut net)
      ≡ sum_by (λ s. price_at topology s.segment) tree.steps
  prices_sum =
      let g = point_cost topology (points_of wires) in
      let h : Leg → ℕ = λ leg. crossing_weight (λ e. 0) 1 leg.crossing + pin_value g leg.crossing in
      sym (sum_by-plus (λ leg. crossing_weight (λ e. 0) 1 leg.crossing) (λ leg. pin_value g leg.crossing)
      (tree_legs topology v pins tree stem cavities is_cut net))
      ∙ sum-legs topology v pins tree h (λ s. price_at topology s.segment)
      (λ k.
      let s = (step_at tree k).segment in
      leg_price topology (points_of wires) (is_coupler (segment_at topology s).kind)
      ((segment_at topology s).from == place_of topology v tree (step_at tree k).parent) s (pins s (ordinal_of tree k)))

  points_sum : sum_by (point_cost topology (points_of wires)) (distinct_points (points_of wires))
      ≡ sum_by (λ leg. pin_value (point_cost topology (points_of wires)) leg.crossing) (tree_legs topology v pins tree stem cavities is_cut net)
      + sum_through (splice_cost_of topology v tree) (length tree.steps)
  points_sum =
      let g = point_cost topology (points_of wires) in
      let all = (tree_grows topology v pins tree stem cavities is_cut net g).sum in
      let points = ap (λ ps. sum_by g (distinct_points ps)) (pair_points-wires wires) in
      let threads = sum-hung_threads _ (thread_value g) cavities tree.hangs is_cut.wiring.hangs in
      let none = sum_by-zero (λ d. thread_value g (thread_from (Cavity (record { 0 = d })))) cavities (λ d. refl) in
      let count = ap (sum_through (λ p. named (g (name_of p)) (at_below p))) legs_count in
      let splices = sum_through-same (length tree.steps) (λ p. named (g (name_of p)) (at_below p)) (splice_cost_of topology v tree)
      (λ p within. splice_value (at_below p) p refl within) in
      omega (arith, all, points, threads, none, count, splices)

  pub tree_wires_cost : wires_cost topology wires ≡ cost_of topology v tree
  unfolding cost_of
  tree_wires_cost = omega (arith, lengths_sum, prices_sum, points_sum)
