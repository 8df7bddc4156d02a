-- The wires of a cut grow, where no point is named twice.
use Rattle.std.proofs.Common.{ℕ, zero, suc, List, [], ◌∷◌, ◌++◌, length, map, ◌≡◌, ◌+◌, ◌*◌, ◌<◌, ◌≤◌, inl, inr, refl, sym, ap, ◌∙◌, subst, sum_by, arith}
use Rattle.std.proofs.lemmas.List.{map-append}
use Rattle.std.proofs.lemmas.List.Sums.{sum_by-cons, sum_by-append}
use Rattle.std.specs.Int.{sum_through}
use Rattle.std.specs.declared.cmp.Ordering.{Ordering}
use Rattle.std.specs.declared.cmp.Ordering.TheVariants.{Less, Equal, Greater}
use Rattle.loom_types.specs.declared.wire.End.{End}
use Rattle.loom_types.specs.declared.wire.Wire.{Wire}
use Rattle.loom_types.specs.LayoutWires.{Thread, Hung, Crossing, Over, Through, Leg, thread_from, pin_side, directed, finished, threads_at, threads_elsewhere, spliced, thread_up, crossed, led, cut}
use Rattle.loom_types.specs.WireCost.{Point, PinPoint, point_of, is_same_point}
use Rattle.loom_types.specs.WireOrder.{end_cmp}
use Rattle.loom_types.specs.WireTree.{ends_of, joint_of}
use Rattle.loom_types.proofs.Tallies.{one_if, HasSides, AreLegs, AreHungBelow, tally, tally-step, tally-none, hung_up, below-up, below}
use Rattle.loom_types.proofs.CutWeights.{wire_weight, thread_weight, crossing_weight, spliced_weight, cut_weight, joined_weight, weight-cut}
use Rattle.loom_types.proofs.EndTests.{at_joint, at_point, at_joint-here, at_point-here, at_point-cases, one_if-true}
use Rattle.loom_types.proofs.Growth.{met, met-cons, met-le, Joins}
use Rattle.loom_types.proofs.PointSums.{GrowsTo, AreEnds, grows_on, grows_from}

-- what a splice is worth that n threads and one more make; a single thread makes none
abbrev pub named : ℕ → ℕ → ℕ
named w zero = w
named w (suc zero) = 0
named w (suc (suc n)) = w

abbrev pub pin_value : (Point → ℕ) → Crossing → ℕ
pin_value g (Over segment length) = 0
pin_value g (Through coupler pin near far) = g (PinPoint coupler pin)

abbrev pub thread_value : (Point → ℕ) → Thread → ℕ
thread_value g thread = g (point_of thread.stop)

-- what all points of a cut but the stem are worth
abbrev pub news : (Point → ℕ) → (ℕ → End) → List Hung → List Leg → ℕ
news g splice hung legs = tally (thread_value g) (pin_value g) (λ p n. named (g (point_of (splice p))) n) hung legs

abbrev pub is_point : Point → Point → ℕ
is_point P Q = one_if (is_same_point P Q)

-- how often a point is named: by a thread's stop, a pin, a splice or the stem
abbrev pub names : Point → (ℕ → End) → End → List Hung → List Leg → ℕ
names P splice stem hung legs = news (is_point P) splice hung legs + at_point P stem

pub met-wires : (f : End → ℕ) (ws : List Wire) → met f (map ends_of ws) ≡ sum_by (wire_weight f 0) ws
met-wires f [] = refl
met-wires f (w ∷ ws) =
    let rest = met-wires f ws in
    omega (arith, rest, met-cons f (ends_of w) (map ends_of ws), sum_by-cons (wire_weight f 0) w ws)

pub met-append : (f : End → ℕ) (vs ws : List (End × End)) → met f (vs ++ ws) ≡ met f vs + met f ws
met-append f vs ws = sum_by-append (λ v. f v.0 + f v.1) vs ws

plain_weight : (f : End → ℕ) (threads : List Thread) → sum_by (thread_weight f 0) threads ≡ sum_by (λ t. f t.stop) threads
plain_weight f [] = refl
plain_weight f (t ∷ threads) =
    let rest = plain_weight f threads in
    omega (arith, rest, sum_by-cons (thread_weight f 0) t threads, sum_by-cons (λ u. f u.stop) t threads)

directed_ends : (o : Ordering) (net : ℕ) (thread : Thread) (stop : End) → AreEnds (ends_of (directed o net thread stop)) stop thread.stop
directed_ends Less net thread stop = inr (refl, refl)
directed_ends Equal net thread stop = inr (refl, refl)
directed_ends Greater net thread stop = inl (refl, refl)

finished_ends : (net : ℕ) (thread : Thread) (stop : End) → AreEnds (ends_of (finished net thread stop)) stop thread.stop
finished_ends net thread stop = directed_ends (end_cmp thread.stop stop) net thread stop

ends_sum : (f : End → ℕ) (w : End × End) (p q : End) → AreEnds w p q → f w.0 + f w.1 ≡ f p + f q
ends_sum f w p q (inl (a, b)) = omega (arith, ap f a, ap f b)
ends_sum f w p q (inr (a, b)) = omega (arith, ap f a, ap f b)

abbrev joined : ℕ → End → List Thread → List (End × End)
joined net splice threads = map ends_of (map (λ t. finished net t splice) threads)

joined_met : (f : End → ℕ) (net : ℕ) (splice : End) (threads : List Thread)
    → met f (joined net splice threads) ≡ sum_by (λ t. f t.stop) threads + length threads * f splice
joined_met f net splice threads =
    met-wires f (map (λ t. finished net t splice) threads)
    ∙ (joined_weight f 0 net splice threads ∙ ap (λ n. n + length threads * f splice) (plain_weight f threads))

-- threads end at a splice that is met
splice_grows : (g : Point → ℕ) (net : ℕ) (splice : End) (threads : List Thread) (ws : List (End × End)) (total : ℕ)
    → GrowsTo g ws total → 0 < met (at_joint (joint_of splice)) ws
    → ((P : Point) → sum_by (λ t. at_point P t.stop) threads ≤ 1)
    → ((P : Point) → 0 < sum_by (λ t. at_point P t.stop) threads → met (at_point P) ws ≡ 0)
    → GrowsTo g (joined net splice threads ++ ws) (sum_by (thread_value g) threads + total)
splice_grows g net splice [] ws total before old once fresh =
    record { grown = before.grown; sum = omega (arith, before.sum) }
splice_grows g net splice (t ∷ threads) ws total before old once fresh =
    let P = point_of t.stop in
    let later = joined net splice threads ++ ws in
    let more : (Q : Point) → sum_by (λ u. at_point Q u.stop) (t ∷ threads) ≡ at_point Q t.stop + sum_by (λ u. at_point Q u.stop) threads =
    λ Q. sum_by-cons (λ u. at_point Q u.stop) t threads in
    let rest = splice_grows g net splice threads ws total before old
    (λ Q. omega (arith, once Q, more Q)) (λ Q some. fresh Q (omega (arith, some, more Q))) in
    let here : at_point P t.stop ≡ 1 = at_point-here t.stop in
    let single : sum_by (λ u. at_point P u.stop) threads ≡ 0 = omega (arith, once P, more P, here) in
    let none : met (at_point P) ws ≡ 0 = fresh P (omega (arith, more P, here)) in
    let apart : at_point P splice ≡ 0 = elim (at_point-cases P splice) [
      | inr other ↦ other
      | inl same ↦
          let unmet : met (at_point (point_of splice)) ws ≡ 0 = subst (λ Q. met (at_point Q) ws ≡ 0) same.0 none in
          absurd (omega (arith, unmet, old, met-le splice ws))
    ] in
    let product : length threads * at_point P splice ≡ 0 = rw apart (omega arith) in
    let joins : Joins later splice t.stop = record {
      old = omega (arith, old, met-append (at_joint (joint_of splice)) (joined net splice threads) ws);
      fresh = omega (
        arith,
        single,
        none,
        product,
        joined_met (at_point P) net splice threads,
        met-append (at_point P) (joined net splice threads) ws,
      );
    } in
    let all = grows_on g (ends_of (finished net t splice)) later splice t.stop
    (sum_by (thread_value g) threads + total) (finished_ends net t splice) rest joins in
    record { grown = all.grown; sum = omega (arith, all.sum, sum_by-cons (thread_value g) t threads) }

-- what holds where the threads of a point are taken together, `up` goes on and crosses to the wires `ws`, of worth `total`;
-- `rest` counts how often a point is named there
pub record Climbs (g : Point → ℕ) (splice : End) (threads : List Thread) (up : Thread) (name : ℕ → ℕ) (crossing : Crossing)
    (ws : List (End × End)) (total whole : ℕ) (rest : Point → ℕ) : Type 0 where
  pub sides : HasSides crossing
  pub before : GrowsTo g ws total
  pub led_met : 0 < met (at_joint (joint_of (led up crossing).stop)) ws
  pub unmet : (P : Point) → rest P ≡ 0 → met (at_point P) ws ≡ 0
  pub head : (P : Point) → at_point P (led up crossing).stop ≤ rest P
  pub once : (P : Point) → rest P + sum_by (thread_value (is_point P)) threads + pin_value (is_point P) crossing + name (at_point P splice)
      ≤ 1 + at_point P (led up crossing).stop
  pub gain : whole + g (point_of (led up crossing).stop)
      ≡ total + sum_by (thread_value g) threads + pin_value g crossing + name (g (point_of splice))

far_joint : (coupler pin near far : ℕ) → HasSides (Through coupler pin near far)
    → joint_of (pin_side coupler pin near) ≡ joint_of (pin_side coupler pin far)
far_joint coupler pin near far (inl (e, f)) =
    ap (λ s. joint_of (pin_side coupler pin s)) e ∙ sym (ap (λ s. joint_of (pin_side coupler pin s)) f)
far_joint coupler pin near far (inr (e, f)) =
    ap (λ s. joint_of (pin_side coupler pin s)) e ∙ sym (ap (λ s. joint_of (pin_side coupler pin s)) f)

climbs_single : (g : Point → ℕ) (net : ℕ) (splice : End) (t : Thread) (crossing : Crossing) (ws : List (End × End)) (total whole : ℕ)
    (rest : Point → ℕ) → Climbs g splice (t ∷ []) t (λ w. 0) crossing ws total whole rest
    → GrowsTo g (map ends_of (crossed net t crossing) ++ ws) whole
climbs_single g net splice t (Over segment length) ws total whole rest c =
    record { grown = c.before.grown; sum = omega (arith, c.before.sum, c.gain) }
climbs_single g net splice t (Through coupler pin near far) ws total whole rest c =
    let P = point_of t.stop in
    let none : rest P ≡ 0 = omega (arith, c.once P, at_point-here t.stop) in
    let joins : Joins ws (pin_side coupler pin far) t.stop = record {
      old = subst (λ j. 0 < met (at_joint j) ws) (far_joint coupler pin near far c.sides) c.led_met;
      fresh = c.unmet P none;
    } in
    let all = grows_on g (ends_of (finished net t (pin_side coupler pin far))) ws (pin_side coupler pin far) t.stop total
    (finished_ends net t (pin_side coupler pin far)) c.before joins in
    record { grown = all.grown; sum = omega (arith, all.sum, c.gain) }

climbs_many : (g : Point → ℕ) (net : ℕ) (splice : End) (threads : List Thread) (crossing : Crossing) (ws : List (End × End))
    (total whole : ℕ) (rest : Point → ℕ) → Climbs g splice threads (thread_from splice) (λ w. w) crossing ws total whole rest
    → GrowsTo g (joined net splice threads ++ (map ends_of (crossed net (thread_from splice) crossing) ++ ws)) whole
climbs_many g net splice threads (Over segment length) ws total whole rest c =
    let all = splice_grows g net splice threads ws total c.before c.led_met (λ P. omega (arith, c.once P))
    (λ P some. c.unmet P (omega (arith, some, c.once P))) in
    record { grown = all.grown; sum = omega (arith, all.sum, c.gain) }
climbs_many g net splice threads (Through coupler pin near far) ws total whole rest c =
    let there = pin_side coupler pin far in
    let w = ends_of (finished net (thread_from splice) there) in
    let ends = finished_ends net (thread_from splice) there in
    let S = point_of splice in
    let joins : Joins ws there splice = record {
      old = subst (λ j. 0 < met (at_joint j) ws) (far_joint coupler pin near far c.sides) c.led_met;
      fresh = c.unmet S (omega (arith, c.once S, at_point-here splice));
    } in
    let one = grows_on g w ws there splice total ends c.before joins in
    let all = splice_grows g net splice threads (w ∷ ws) (g S + total) one
    (omega (arith, met-cons (at_joint (joint_of splice)) w ws, ends_sum (at_joint (joint_of splice)) w there splice ends, at_joint-here splice))
    (λ P. omega (arith, c.once P))
    (λ P some.
    let none : rest P ≡ 0 = omega (arith, some, c.once P) in
    let unmet : met (at_point P) ws ≡ 0 = c.unmet P none in
    omega (arith, some, none, unmet, c.once P, c.head P, met-cons (at_point P) w ws, ends_sum (at_point P) w there splice ends)) in
    record { grown = all.grown; sum = omega (arith, all.sum, c.gain) }

climbs : (g : Point → ℕ) (net : ℕ) (splice : End) (threads : List Thread) (crossing : Crossing) (ws : List (End × End)) (total whole : ℕ)
    (rest : Point → ℕ)
    → Climbs g splice threads (thread_up splice threads) (λ w. named w (length threads)) crossing ws total whole rest
    → GrowsTo g (map ends_of (spliced net splice threads) ++ (map ends_of (crossed net (thread_up splice threads) crossing) ++ ws)) whole
climbs g net splice [] crossing ws total whole rest c = climbs_many g net splice [] crossing ws total whole rest c
climbs g net splice (t ∷ []) crossing ws total whole rest c = climbs_single g net splice t crossing ws total whole rest c
climbs g net splice (t ∷ u ∷ threads) crossing ws total whole rest c =
    climbs_many g net splice (t ∷ u ∷ threads) crossing ws total whole rest c

-- the wires at point 0, where the stem is
roots_many : (g : Point → ℕ) (net : ℕ) (splice stem : End) (threads : List Thread) (whole : ℕ)
    → ((P : Point) → sum_by (thread_value (is_point P)) threads + at_point P splice + at_point P stem ≤ 1)
    → whole ≡ sum_by (thread_value g) threads + g (point_of splice) + g (point_of stem)
    → GrowsTo g (joined net splice threads ++ ends_of (finished net (thread_from splice) stem) ∷ []) whole
roots_many g net splice stem threads whole once e =
    let w = ends_of (finished net (thread_from splice) stem) in
    let ends = finished_ends net (thread_from splice) stem in
    let one = grows_from g w stem splice ends
    (λ same. omega (arith, once (point_of stem), at_point-here stem, one_if-true (is_same_point (point_of stem) (point_of splice)) same)) in
    let all = splice_grows g net splice threads (w ∷ []) (g (point_of stem) + g (point_of splice)) one
    (omega (arith, met-cons (at_joint (joint_of splice)) w [], ends_sum (at_joint (joint_of splice)) w stem splice ends, at_joint-here splice))
    (λ P. omega (arith, once P))
    (λ P some. omega (arith, some, once P, met-cons (at_point P) w [], ends_sum (at_point P) w stem splice ends)) in
    record { grown = all.grown; sum = omega (arith, all.sum, e) }

roots : (g : Point → ℕ) (net : ℕ) (splice stem : End) (threads : List Thread) (whole : ℕ)
    → ((P : Point) → sum_by (thread_value (is_point P)) threads + named (at_point P splice) (length threads) + at_point P stem ≤ 1)
    → whole ≡ sum_by (thread_value g) threads + named (g (point_of splice)) (length threads) + g (point_of stem)
    → GrowsTo g (map ends_of (spliced net splice threads) ++ ends_of (finished net (thread_up splice threads) stem) ∷ []) whole
roots g net splice stem [] whole once e = roots_many g net splice stem [] whole once e
roots g net splice stem (t ∷ []) whole once e =
    let one = grows_from g (ends_of (finished net t stem)) stem t.stop (finished_ends net t stem)
    (λ same. omega (arith, once (point_of stem), at_point-here stem, one_if-true (is_same_point (point_of stem) (point_of t.stop)) same)) in
    record { grown = one.grown; sum = omega (arith, one.sum, e) }
roots g net splice stem (t ∷ u ∷ threads) whole once e = roots_many g net splice stem (t ∷ u ∷ threads) whole once e

led_named : (g : Point → ℕ) (splice : End) (threads : List Thread) (crossing : Crossing)
    → thread_value g (led (thread_up splice threads) crossing)
    ≤ sum_by (thread_value g) threads + pin_value g crossing + named (g (point_of splice)) (length threads)
led_named g splice threads (Through coupler pin near far) = omega arith
led_named g splice [] (Over segment length) = omega arith
led_named g splice (t ∷ []) (Over segment length) = omega arith
led_named g splice (t ∷ u ∷ threads) (Over segment length) = omega arith

-- a sum is nothing where another is
sum_by-nothing : {X : Type 0} (f h : X → ℕ) (xs : List X) → ((x : X) → f x ≡ 0 → h x ≡ 0) → sum_by f xs ≡ 0 → sum_by h xs ≡ 0
sum_by-nothing f h [] each none = refl
sum_by-nothing f h (x ∷ xs) each none =
    let here : f x ≡ 0 = omega (arith, none, sum_by-cons f x xs) in
    let rest = sum_by-nothing f h xs each (omega (arith, none, sum_by-cons f x xs)) in
    omega (arith, each x here, rest, sum_by-cons h x xs)

sum_through-nothing : (f h : ℕ → ℕ) (n : ℕ) → ((p : ℕ) → f p ≡ 0 → h p ≡ 0) → sum_through f n ≡ 0 → sum_through h n ≡ 0
sum_through-nothing f h zero each none = each 0 none
sum_through-nothing f h (suc n) each none =
    let here : f (suc n) ≡ 0 = omega (arith, none) in
    let rest = sum_through-nothing f h n each (omega (arith, none)) in
    omega (arith, each (suc n) here, rest)

splice_nothing : (w n : ℕ) → named w n ≡ 0 → spliced_weight w n ≡ 0
splice_nothing w zero none = none
splice_nothing w (suc zero) none = refl
splice_nothing w (suc (suc n)) none = rw none (omega arith)

crossing_nothing : (P : Point) (crossing : Crossing) → pin_value (is_point P) crossing ≡ 0 → crossing_weight (at_point P) 0 crossing ≡ 0
crossing_nothing P (Over segment length) none = omega arith
crossing_nothing P (Through coupler pin near far) none = omega (arith, none)

pub unnamed_unmet : (P : Point) (splice : ℕ → End) (hung : List Hung) (legs : List Leg) → news (is_point P) splice hung legs ≡ 0
    → cut_weight (at_point P) 0 splice hung legs ≡ 0
unnamed_unmet P splice hung legs none =
    let threads = sum_by-nothing (λ h. thread_value (is_point P) h.thread) (λ h. thread_weight (at_point P) 0 h.thread) hung
    (λ h e. omega (arith, e)) (omega (arith, none)) in
    let pins = sum_by-nothing (λ leg. pin_value (is_point P) leg.crossing) (λ leg. crossing_weight (at_point P) 0 leg.crossing) legs
    (λ leg e. crossing_nothing P leg.crossing e) (omega (arith, none)) in
    let splices = sum_through-nothing (λ p. named (at_point P (splice p)) (below hung legs p))
    (λ p. spliced_weight (at_point P (splice p)) (below hung legs p)) (length legs)
    (λ p e. splice_nothing (at_point P (splice p)) (below hung legs p) e) (omega (arith, none)) in
    omega (arith, threads, pins, splices)

module _ (g : Point → ℕ) (net : ℕ) (splice : ℕ → End) (stem : End) where
  pub met-cut : (f : End → ℕ) (hung : List Hung) (legs : List Leg) → AreLegs legs → AreHungBelow hung (length legs)
      → met f (map ends_of (cut net splice stem hung legs)) ≡ cut_weight f 0 splice hung legs + f stem
  met-cut f hung legs are all =
      met-wires f (cut net splice stem hung legs) ∙ weight-cut f 0 net splice stem hung legs are all

  head_met : (f : End → ℕ) (thread : Thread) (point parent : ℕ) (hung : List Hung) (legs : List Leg) → AreLegs legs
      → AreHungBelow (hung_up point parent thread hung) (length legs)
      → f thread.stop ≤ met f (map ends_of (cut net splice stem (hung_up point parent thread hung) legs))
  head_met f thread point parent hung legs are all =
      let new : Hung = record { point = parent; thread = thread } in
      omega (
        arith,
        met-cut f (hung_up point parent thread hung) legs are all,
        sum_by-cons (λ h. thread_weight f 0 h.thread) new (threads_elsewhere point hung),
      )

  pub cut_grows : (hung : List Hung) (legs : List Leg) → AreLegs legs → AreHungBelow hung (length legs)
      → ((P : Point) → names P splice stem hung legs ≤ 1)
      → GrowsTo g (map ends_of (cut net splice stem hung legs)) (news g splice hung legs + g (point_of stem))
  cut_grows hung [] are all once =
      let threads = threads_at 0 hung in
      let sum : (h : Point → ℕ) → news h splice hung []
      ≡ sum_by (thread_value h) threads + named (h (point_of (splice 0))) (length threads) =
      λ h. tally-none (thread_value h) (pin_value h) (λ p n. named (h (point_of (splice p))) n) hung all in
      let whole = roots g net (splice 0) stem threads (news g splice hung [] + g (point_of stem))
      (λ P. omega (arith, once P, sum (is_point P))) (omega (arith, sum g)) in
      subst (λ ws. GrowsTo g ws (news g splice hung [] + g (point_of stem)))
      (sym (map-append ends_of (spliced net (splice 0) threads) (finished net (thread_up (splice 0) threads) stem ∷ []))) whole
  cut_grows hung (leg ∷ legs) are all once =
      let n = suc (length legs) in
      let threads = threads_at n hung in
      let up = thread_up (splice n) threads in
      let c = leg.crossing in
      let to = led up c in
      let next = hung_up n leg.parent to hung in
      let later = cut net splice stem next legs in
      let new : Hung = record { point = leg.parent; thread = to } in
      let next_below = below-up hung (length legs) leg.parent to all are.0 in
      let sum : (h : Point → ℕ) → news h splice hung (leg ∷ legs) + thread_value h to
      ≡ news h splice next legs
      + (sum_by (thread_value h) threads + pin_value h c + named (h (point_of (splice n))) (length threads)) =
      λ h. tally-step (thread_value h) (pin_value h) (λ p k. named (h (point_of (splice p))) k) hung leg legs to are in
      let before = cut_grows next legs are.2 next_below
      (λ P. omega (arith, once P, sum (is_point P), led_named (is_point P) (splice n) threads c)) in
      let whole = climbs g net (splice n) threads c (map ends_of later) (news g splice next legs + g (point_of stem))
      (news g splice hung (leg ∷ legs) + g (point_of stem)) (λ P. names P splice stem next legs)
      (record {
        sides = are.1;
        before = before;
        led_met = omega (arith, head_met (at_joint (joint_of to.stop)) to n leg.parent hung legs are.2 next_below, at_joint-here to.stop);
        unmet = λ P none. omega (
          arith,
          none,
          met-cut (at_point P) next legs are.2 next_below,
          unnamed_unmet P splice next legs (omega (arith, none)),
        );
        head = λ P. omega (arith, sum_by-cons (λ h. thread_value (is_point P) h.thread) new (threads_elsewhere n hung));
        once = λ P. omega (arith, once P, sum (is_point P));
        gain = omega (arith, sum g);
      }) in
      subst (λ ws. GrowsTo g ws (news g splice hung (leg ∷ legs) + g (point_of stem)))
      (sym (map-append ends_of (spliced net (splice n) threads) (crossed net up c ++ later)
      ∙ ap (λ ws. map ends_of (spliced net (splice n) threads) ++ ws) (map-append ends_of (crossed net up c) later))) whole
