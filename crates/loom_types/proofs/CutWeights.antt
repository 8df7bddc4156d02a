-- What the ends and the lengths of a cut's wires come to: what its threads, pins, splices and the stem do.
use Rattle.std.proofs.Common.{ℕ, zero, suc, List, [], ◌∷◌, ◌++◌, length, map, ◌≡◌, ◌+◌, ◌*◌, sum_by, arith}
use Rattle.std.proofs.lemmas.List.Sums.{sum_by-cons, sum_by-append}
use Rattle.std.specs.declared.cmp.Ordering.{Ordering}
use Rattle.std.specs.declared.cmp.Ordering.TheVariants.{Less, Equal, Greater}
use Rattle.loom_types.specs.declared.wire.End.{End}
use Rattle.loom_types.specs.declared.wire.Wire.{Wire}
use Rattle.loom_types.specs.LayoutWires.{Thread, Hung, Crossing, Over, Through, Leg, pin_side, directed, finished, threads_at, spliced, thread_up, crossed, led, cut}
use Rattle.loom_types.specs.WireOrder.{end_cmp}
use Rattle.loom_types.proofs.Tallies.{AreLegs, AreHungBelow, tally, tally-step, tally-none, hung_up, below-up}

-- a wire weighs what its ends do, and m for each millimetre
abbrev pub wire_weight : (End → ℕ) → ℕ → Wire → ℕ
wire_weight f m w = f w.from + f w.to + m * w.length

abbrev pub thread_weight : (End → ℕ) → ℕ → Thread → ℕ
thread_weight f m thread = f thread.stop + m * thread.length

abbrev pub crossing_weight : (End → ℕ) → ℕ → Crossing → ℕ
crossing_weight f m (Over segment length) = m * length
crossing_weight f m (Through coupler pin near far) = f (pin_side coupler pin near) + f (pin_side coupler pin far)

-- what a splice comes to at which n threads end and one begins; a single thread makes none
abbrev pub spliced_weight : ℕ → ℕ → ℕ
spliced_weight w zero = w
spliced_weight w (suc zero) = 0
spliced_weight w (suc (suc n)) = (n + 3) * w

abbrev pub cut_weight : (End → ℕ) → ℕ → (ℕ → End) → List Hung → List Leg → ℕ
cut_weight f m splice hung legs =
    tally (thread_weight f m) (crossing_weight f m) (λ p n. spliced_weight (f (splice p)) n) hung legs

module _ (f : End → ℕ) (m net : ℕ) where
  directed_weight : (o : Ordering) (thread : Thread) (stop : End)
      → wire_weight f m (directed o net thread stop) ≡ thread_weight f m thread + f stop
  directed_weight Less thread stop = omega arith
  directed_weight Equal thread stop = omega arith
  directed_weight Greater thread stop = omega arith

  pub finished_weight : (thread : Thread) (stop : End)
      → wire_weight f m (finished net thread stop) ≡ thread_weight f m thread + f stop
  finished_weight thread stop = directed_weight (end_cmp thread.stop stop) thread stop

  pub joined_weight : (splice : End) (threads : List Thread)
      → sum_by (wire_weight f m) (map (λ thread. finished net thread splice) threads)
      ≡ sum_by (thread_weight f m) threads + length threads * f splice
  joined_weight splice [] = omega arith
  joined_weight splice (thread ∷ threads) =
      let rest = joined_weight splice threads in
      let here = finished_weight thread splice in
      omega (
        arith,
        rest,
        here,
        sum_by-cons (thread_weight f m) thread threads,
        sum_by-cons (wire_weight f m) (finished net thread splice) (map (λ t. finished net t splice) threads),
      )

  spliced_sum : (splice : End) (threads : List Thread)
      → sum_by (wire_weight f m) (spliced net splice threads) + thread_weight f m (thread_up splice threads)
      ≡ sum_by (thread_weight f m) threads + spliced_weight (f splice) (length threads)
  spliced_sum splice [] = omega arith
  spliced_sum splice (thread ∷ []) = omega arith
  spliced_sum splice (one ∷ other ∷ threads) =
      let joined = joined_weight splice (one ∷ other ∷ threads) in
      omega (arith, joined)

  crossed_sum : (thread : Thread) (crossing : Crossing)
      → sum_by (wire_weight f m) (crossed net thread crossing) + thread_weight f m (led thread crossing)
      ≡ thread_weight f m thread + crossing_weight f m crossing
  crossed_sum thread (Over segment length) = omega arith
  crossed_sum thread (Through coupler pin near far) =
      let here = finished_weight thread (pin_side coupler pin far) in
      omega (arith, here)

  pub weight-cut : (splice : ℕ → End) (stem : End) (hung : List Hung) (legs : List Leg) → AreLegs legs → AreHungBelow hung (length legs)
      → sum_by (wire_weight f m) (cut net splice stem hung legs) ≡ cut_weight f m splice hung legs + f stem
  weight-cut splice stem hung [] are all =
      let threads = threads_at 0 hung in
      let up = thread_up (splice 0) threads in
      let last = finished_weight up stem in
      let both = sum_by-append (wire_weight f m) (spliced net (splice 0) threads) (finished net up stem ∷ []) in
      let sum = tally-none (thread_weight f m) (crossing_weight f m) (λ p n. spliced_weight (f (splice p)) n) hung all in
      omega (arith, last, both, sum, spliced_sum (splice 0) threads)
  weight-cut splice stem hung (leg ∷ legs) are all =
      let n = suc (length legs) in
      let threads = threads_at n hung in
      let up = thread_up (splice n) threads in
      let next = hung_up n leg.parent (led up leg.crossing) hung in
      let later = cut net splice stem next legs in
      let rest = weight-cut splice stem next legs are.2 (below-up hung (length legs) leg.parent (led up leg.crossing) all are.0) in
      let both = sum_by-append (wire_weight f m) (spliced net (splice n) threads) (crossed net up leg.crossing ++ later) in
      let then = sum_by-append (wire_weight f m) (crossed net up leg.crossing) later in
      let sum = tally-step (thread_weight f m) (crossing_weight f m) (λ p k. spliced_weight (f (splice p)) k) hung leg legs
      (led up leg.crossing) are in
      omega (arith, rest, both, then, sum, spliced_sum (splice n) threads, crossed_sum up leg.crossing)
