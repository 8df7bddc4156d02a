-- The legs and the hung threads of a wiring tree: their sums are those of its steps and its cavities, and what comes to a point
-- from below is one less than its degree.
use Rattle.std.proofs.Common.{ℕ, zero, suc, List, [], ◌∷◌, Bool, true, false, cond, length, take, ◌≡◌, ◌+◌, ◌<◌, ◌≤◌, ◌==◌, inl, inr, refl, ap, ◌∙◌, sum_by, arith}
use Rattle.std.specs.List.{AllZip, All}
use Rattle.std.specs.Int.{sum_through}
use Rattle.std.proofs.lemmas.List.Elements.{All-nil, All-cons}
use Rattle.std.proofs.lemmas.List.Sums.{sum_by-cons, sum_by_more}
use Rattle.loom_topology.specs.Topology.{TopologyView, segment_at, price_at, is_coupler}
use Rattle.loom_topology.specs.WiringTree.{Step, Tree, no_step, step_at, place_of}
use Rattle.loom_topology.specs.TreeCost.{degree_of}
use Rattle.loom_types.specs.declared.wire.End.TheVariants.{Cavity}
use Rattle.loom_types.specs.LayoutWires.{Thread, Hung, Over, Through, Leg, thread_from, ordinal_of, leg_of, legs_of, hung_of}
use Rattle.loom_types.proofs.Tallies.{one_if, HasSides, AreLegs, below}

sides_at : (coupler first : Bool) (segment pin price : ℕ)
    → HasSides (cond coupler (cond first (Through segment pin 1 2) (Through segment pin 2 1)) (Over segment price))
sides_at true true segment pin price = inl (refl, refl)
sides_at true false segment pin price = inr (refl, refl)
sides_at false first segment pin price = tt

pub take_all : {X : Type 0} (xs : List X) → take (length xs) xs ≡ xs
take_all [] = refl
take_all (x ∷ xs) = ap (λ rest. x ∷ rest) (take_all xs)

module _ (topology : TopologyView) (v : ℕ) (pins : ℕ → ℕ → ℕ) (tree : Tree) where
  pub length-legs : (n : ℕ) → length (legs_of topology v pins tree n) ≡ n
  length-legs zero = refl
  length-legs (suc n) = ap suc (length-legs n)

  pub leg_sides : (k : ℕ) → HasSides (leg_of topology v pins tree k).crossing
  leg_sides k =
      sides_at (is_coupler (segment_at topology (step_at tree k).segment).kind)
      ((segment_at topology (step_at tree k).segment).from == place_of topology v tree (step_at tree k).parent)
      (step_at tree k).segment (pins (step_at tree k).segment (ordinal_of tree k)) (price_at topology (step_at tree k).segment)

  pub are_legs : (n : ℕ) → ((k : ℕ) → k < n → (step_at tree k).parent ≤ k) → AreLegs (legs_of topology v pins tree n)
  are_legs zero parents = tt
  are_legs (suc n) parents = (
    omega (arith, parents n (omega arith), length-legs n),
    leg_sides n,
    are_legs n (λ k within. parents k (omega arith)),
  )

  -- a sum over the first legs is one over the first steps
  pub sum-legs_of : (h : Leg → ℕ) (f : Step → ℕ) → ((k : ℕ) → h (leg_of topology v pins tree k) ≡ f (step_at tree k))
      → (n : ℕ) → n ≤ length tree.steps → sum_by h (legs_of topology v pins tree n) ≡ sum_by f (take n tree.steps)
  sum-legs_of h f same zero within = refl
  sum-legs_of h f same (suc n) within =
      let rest = sum-legs_of h f same n (omega arith) in
      let one_more : n + 1 ≡ suc n = omega arith in
      let more = sum_by_more f tree.steps n no_step (omega arith) in
      let e : sum_by f (take (n + 1) tree.steps) ≡ sum_by f (take (suc n) tree.steps) = ap (λ m. sum_by f (take m tree.steps)) one_more in
      omega (arith, rest, more, e, same n, sum_by-cons h (leg_of topology v pins tree n) (legs_of topology v pins tree n))

  pub sum-legs : (h : Leg → ℕ) (f : Step → ℕ) → ((k : ℕ) → h (leg_of topology v pins tree k) ≡ f (step_at tree k))
      → sum_by h (legs_of topology v pins tree (length tree.steps)) ≡ sum_by f tree.steps
  sum-legs h f same = sum-legs_of h f same (length tree.steps) (omega arith) ∙ ap (sum_by f) (take_all tree.steps)

  -- and one over numbers
  pub legs-through : (h : Leg → ℕ) (n : ℕ)
      → sum_by h (legs_of topology v pins tree (suc n)) ≡ sum_through (λ k. h (leg_of topology v pins tree k)) n
  legs-through h zero = omega arith
  legs-through h (suc n) =
      omega (arith, legs-through h n, sum_by-cons h (leg_of topology v pins tree (suc n)) (legs_of topology v pins tree (suc n)))

  -- sums of different things over the legs
  pub legs-same : (h f : Leg → ℕ) → ((k : ℕ) → h (leg_of topology v pins tree k) ≡ f (leg_of topology v pins tree k))
      → (n : ℕ) → sum_by h (legs_of topology v pins tree n) ≡ sum_by f (legs_of topology v pins tree n)
  legs-same h f same zero = refl
  legs-same h f same (suc n) =
      let rest = legs-same h f same n in
      omega (
        arith,
        rest,
        same n,
        sum_by-cons h (leg_of topology v pins tree n) (legs_of topology v pins tree n),
        sum_by-cons f (leg_of topology v pins tree n) (legs_of topology v pins tree n),
      )

-- sums over the hung threads are sums over the cavities and over the points on which they hang
module _ (R : ℕ → ℕ → Type 0) where
  pub sum-hung_threads : (T : Thread → ℕ) (cavities hangs : List ℕ) → AllZip R cavities hangs
      → sum_by (λ h. T h.thread) (hung_of cavities hangs) ≡ sum_by (λ c. T (thread_from (Cavity (record { 0 = c })))) cavities
  sum-hung_threads T [] [] zip = refl
  sum-hung_threads T [] (h ∷ hangs) zip = absurd zip
  sum-hung_threads T (c ∷ cavities) [] zip = absurd zip
  sum-hung_threads T (c ∷ cavities) (h ∷ hangs) zip =
      let first : Hung = record { point = h; thread = thread_from (Cavity (record { 0 = c })) } in
      omega (
        arith,
        sum-hung_threads T cavities hangs zip.1,
        sum_by-cons (λ x. T x.thread) first (hung_of cavities hangs),
        sum_by-cons (λ d. T (thread_from (Cavity (record { 0 = d })))) c cavities,
      )

  pub sum-hung_points : (G : ℕ → ℕ) (cavities hangs : List ℕ) → AllZip R cavities hangs
      → sum_by (λ h. G h.point) (hung_of cavities hangs) ≡ sum_by G hangs
  sum-hung_points G [] [] zip = refl
  sum-hung_points G [] (h ∷ hangs) zip = absurd zip
  sum-hung_points G (c ∷ cavities) [] zip = absurd zip
  sum-hung_points G (c ∷ cavities) (h ∷ hangs) zip =
      let first : Hung = record { point = h; thread = thread_from (Cavity (record { 0 = c })) } in
      omega (
        arith,
        sum-hung_points G cavities hangs zip.1,
        sum_by-cons (λ x. G x.point) first (hung_of cavities hangs),
        sum_by-cons G h hangs,
      )

  pub all_hung : (P : Hung → Type 0) (cavities hangs : List ℕ)
      → ((c h : ℕ) → R c h → P (record { point = h; thread = thread_from (Cavity (record { 0 = c })) }))
      → AllZip R cavities hangs → All P (hung_of cavities hangs)
  all_hung P [] [] each zip = All-nil P
  all_hung P [] (h ∷ hangs) each zip = absurd zip
  all_hung P (c ∷ cavities) [] each zip = absurd zip
  all_hung P (c ∷ cavities) (h ∷ hangs) each zip =
      All-cons P (record { point = h; thread = thread_from (Cavity (record { 0 = c })) }) (hung_of cavities hangs)
      (each c h zip.0) (all_hung P cavities hangs each zip.1)

pub below-degree : (topology : TopologyView) (v : ℕ) (pins : ℕ → ℕ → ℕ) (tree : Tree) (R : ℕ → ℕ → Type 0) (cavities : List ℕ)
    → AllZip R cavities tree.hangs → (p : ℕ)
    → below (hung_of cavities tree.hangs) (legs_of topology v pins tree (length tree.steps)) p + 1 ≡ degree_of tree p
unfolding degree_of
below-degree topology v pins tree R cavities zip p =
    let hung = sum-hung_points R (λ h. one_if (h == p)) cavities tree.hangs zip in
    let steps = sum-legs topology v pins tree (λ leg. one_if (leg.parent == p)) (λ s. one_if (s.parent == p)) (λ k. refl) in
    omega (arith, hung, steps)
