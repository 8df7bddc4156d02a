-- Threads are carried over runs, so that each wire of a cut is a chain of runs from end to end.
use Rattle.std.proofs.Common.{ℕ, suc, List, [], ◌∷◌, ◌++◌, length, map, reverse, get_or, ◌≡◌, ◌≢◌, ◌+◌, ◌≤◌, ◌==◌, inl, inr, refl, sym, ◌∙◌, subst, sum_by, arith}
use mathlib.Core.List.{reverse_aux}
use Rattle.std.specs.List.{All, filter}
use Rattle.std.specs.declared.cmp.Ordering.{Ordering}
use Rattle.std.specs.declared.cmp.Ordering.TheVariants.{Less, Equal, Greater}
use Rattle.std.proofs.lemmas.Bool.{eqb-true}
use Rattle.std.proofs.lemmas.List.Elements.{All-nil, All-cons, All-head, All-tail, All-append, All-filter, All-map, filter_passes}
use Rattle.std.proofs.lemmas.List.Sums.{sum_by-cons, sum_by_push}
use Rattle.loom_base.specs.declared.positions.SegmentNo.{SegmentNo}
use Rattle.loom_topology.specs.Topology.{TopologyView, price_at}
use Rattle.loom_types.specs.declared.wire.End.{End}
use Rattle.loom_types.specs.declared.wire.Wire.{Wire}
use Rattle.loom_types.specs.LayoutWires.{Thread, Hung, Crossing, Over, Through, Leg, thread_from, segment_no, pin_side, directed, finished, threads_at, threads_elsewhere, spliced, thread_up, crossed, led, cut}
use Rattle.loom_types.specs.Routes.{IsRouted, IsEndInRange, IsChainOfRuns, RunLeads, node_of_end}
use Rattle.loom_types.specs.WireOrder.{end_cmp}
use Rattle.loom_types.proofs.Tallies.{AreLegs, below, below_top, below_same, count_at, hung_up}

-- a thread that has come from its stop to a node
pub record IsCarried (topology : TopologyView) (v : ℕ) (thread : Thread) : Type 0 where
  pub stop : IsEndInRange topology thread.stop
  pub chain : IsChainOfRuns topology (node_of_end topology thread.stop) v thread.route
  pub sum : thread.length ≡ sum_by (λ s. price_at topology s.0) thread.route

-- an end in range that lies at a node
abbrev pub LiesAt : TopologyView → ℕ → End → Type 0
LiesAt topology v e = IsEndInRange topology e × (node_of_end topology e ≡ v)

-- a crossing leads from one node to another
abbrev pub CrossingLeads : TopologyView → ℕ → ℕ → Crossing → Type 0
CrossingLeads topology v u (Over segment length) = RunLeads topology segment v u × (length ≡ price_at topology segment)
CrossingLeads topology v u (Through coupler pin near far) =
    LiesAt topology v (pin_side coupler pin far) × LiesAt topology u (pin_side coupler pin near)

abbrev pub LegsLead : TopologyView → (ℕ → ℕ) → List Leg → Type 0
LegsLead topology at [] = Unit {0}
LegsLead topology at (leg ∷ legs) =
    CrossingLeads topology (at (suc (length legs))) (at leg.parent) leg.crossing × LegsLead topology at legs

run_back : (topology : TopologyView) (s v u : ℕ) → RunLeads topology s v u → RunLeads topology s u v
run_back topology s v u (run, (is_open, inl (from, to))) = (run, (is_open, inr (from, to)))
run_back topology s v u (run, (is_open, inr (from, to))) = (run, (is_open, inl (from, to)))

chain_push : (topology : TopologyView) (v u w : ℕ) (route : List SegmentNo) (s : SegmentNo) → IsChainOfRuns topology v u route
    → RunLeads topology s.0 u w → IsChainOfRuns topology v w (route ++ s ∷ [])
chain_push topology v u w [] s same leads = (w, subst (λ n. RunLeads topology s.0 n w) (sym same) leads, refl)
chain_push topology v u w (t ∷ route) s (m, first, rest) leads = (m, first, chain_push topology m u w route s rest leads)

chain_onto : (topology : TopologyView) (v u w : ℕ) (route done : List SegmentNo) → IsChainOfRuns topology v u route
    → IsChainOfRuns topology v w done → IsChainOfRuns topology u w (reverse_aux route done)
chain_onto topology v u w [] done same chain = subst (λ n. IsChainOfRuns topology n w done) same chain
chain_onto topology v u w (s ∷ route) done (m, first, rest) chain =
    chain_onto topology m u w route (s ∷ done) rest (v, run_back topology s.0 v m first, chain)

chain_reverse : (topology : TopologyView) (v u : ℕ) (route : List SegmentNo) → IsChainOfRuns topology v u route
    → IsChainOfRuns topology u v (reverse route)
chain_reverse topology v u route chain = chain_onto topology v u v route [] chain refl

sum_onto : {X : Type 0} (f : X → ℕ) (xs ys : List X) → sum_by f (reverse_aux xs ys) ≡ sum_by f xs + sum_by f ys
sum_onto f [] ys = omega arith
sum_onto f (x ∷ xs) ys = omega (arith, sum_onto f xs (x ∷ ys), sum_by-cons f x ys, sum_by-cons f x xs)

sum_reverse : {X : Type 0} (f : X → ℕ) (xs : List X) → sum_by f (reverse xs) ≡ sum_by f xs
sum_reverse f xs = omega (arith, sum_onto f xs [])

-- a routed wire of the net
abbrev pub IsRoutedOf : TopologyView → ℕ → Wire → Type 0
IsRoutedOf topology net w = IsRouted topology w × (w.net.0 ≡ net)

module _ (topology : TopologyView) (net : ℕ) where
  along : (v : ℕ) (t : Thread) (stop : End) → IsCarried topology v t → LiesAt topology v stop
      → IsRouted topology (record { net = record { 0 = net }; from = t.stop; to = stop; route = t.route; length = t.length; row = 0 })
  along v t stop carried lies = record {
    from = carried.stop;
    to = lies.0;
    chain = subst (λ n. IsChainOfRuns topology (node_of_end topology t.stop) n t.route) (sym lies.1) carried.chain;
    length = carried.sum;
  }

  against : (v : ℕ) (t : Thread) (stop : End) → IsCarried topology v t → LiesAt topology v stop
      → IsRouted topology (record { net = record { 0 = net }; from = stop; to = t.stop; route = reverse t.route; length = t.length; row = 0 })
  against v t stop carried lies = record {
    from = lies.0;
    to = carried.stop;
    chain = subst (λ n. IsChainOfRuns topology n (node_of_end topology t.stop) (reverse t.route)) (sym lies.1)
        (chain_reverse topology (node_of_end topology t.stop) v t.route carried.chain);
    length = carried.sum ∙ sym (sum_reverse (λ s. price_at topology s.0) t.route);
  }

  directed_routed : (o : Ordering) (v : ℕ) (t : Thread) (stop : End) → IsCarried topology v t → LiesAt topology v stop
      → IsRoutedOf topology net (directed o net t stop)
  directed_routed Less v t stop carried lies = (along v t stop carried lies, refl)
  directed_routed Equal v t stop carried lies = (along v t stop carried lies, refl)
  directed_routed Greater v t stop carried lies = (against v t stop carried lies, refl)

  finished_routed : (v : ℕ) (t : Thread) (stop : End) → IsCarried topology v t → LiesAt topology v stop
      → IsRoutedOf topology net (finished net t stop)
  finished_routed v t stop carried lies = directed_routed (end_cmp t.stop stop) v t stop carried lies

  pub carried_from : (v : ℕ) (stop : End) → LiesAt topology v stop → IsCarried topology v (thread_from stop)
  carried_from v stop lies = record { stop = lies.0; chain = lies.1; sum = refl }

  joined_routed : (v : ℕ) (splice : End) (threads : List Thread) → LiesAt topology v splice → All (IsCarried topology v) threads
      → All (IsRoutedOf topology net) (map (λ t. finished net t splice) threads)
  joined_routed v splice [] lies all = All-nil (IsRoutedOf topology net)
  joined_routed v splice (t ∷ threads) lies all =
      All-cons (IsRoutedOf topology net) (finished net t splice) (map (λ u. finished net u splice) threads)
      (finished_routed v t splice (All-head (IsCarried topology v) t threads all) lies)
      (joined_routed v splice threads lies (All-tail (IsCarried topology v) t threads all))

  spliced_routed : (v : ℕ) (splice : End) (threads : List Thread) → (length threads ≢ 1 → LiesAt topology v splice)
      → All (IsCarried topology v) threads → All (IsRoutedOf topology net) (spliced net splice threads)
  spliced_routed v splice [] lies all = All-nil (IsRoutedOf topology net)
  spliced_routed v splice (t ∷ []) lies all = All-nil (IsRoutedOf topology net)
  spliced_routed v splice (t ∷ u ∷ threads) lies all =
      joined_routed v splice (t ∷ u ∷ threads) (lies (λ e. omega (arith, e))) all

  up_carried : (v : ℕ) (splice : End) (threads : List Thread) → (length threads ≢ 1 → LiesAt topology v splice)
      → All (IsCarried topology v) threads → IsCarried topology v (thread_up splice threads)
  up_carried v splice [] lies all = carried_from v splice (lies (λ e. omega (arith, e)))
  up_carried v splice (t ∷ []) lies all = All-head (IsCarried topology v) t [] all
  up_carried v splice (t ∷ u ∷ threads) lies all = carried_from v splice (lies (λ e. omega (arith, e)))

  crossed_routed : (v u : ℕ) (t : Thread) (crossing : Crossing) → IsCarried topology v t → CrossingLeads topology v u crossing
      → All (IsRoutedOf topology net) (crossed net t crossing)
  crossed_routed v u t (Over segment length) carried leads = All-nil (IsRoutedOf topology net)
  crossed_routed v u t (Through coupler pin near far) carried leads =
      All-cons (IsRoutedOf topology net) (finished net t (pin_side coupler pin far)) []
      (finished_routed v t (pin_side coupler pin far) carried leads.0) (All-nil (IsRoutedOf topology net))

  led_carried : (v u : ℕ) (t : Thread) (crossing : Crossing) → IsCarried topology v t → CrossingLeads topology v u crossing
      → IsCarried topology u (led t crossing)
  led_carried v u t (Over segment length) carried leads = record {
    stop = carried.stop;
    chain = chain_push topology (node_of_end topology t.stop) v u t.route (segment_no segment) carried.chain leads.0;
    sum = omega (arith, carried.sum, leads.1, sum_by_push (λ s. price_at topology s.0) t.route (segment_no segment));
  }
  led_carried v u t (Through coupler pin near far) carried leads = carried_from u (pin_side coupler pin near) leads.1

  module _ (splice : ℕ → End) (stem : End) (at : ℕ → ℕ) where
    -- each hung thread has come to its point
    abbrev pub AreCarried : List Hung → Type 0
    AreCarried hung = All (λ h. IsCarried topology (at h.point) h.thread) hung

    here_carried : (p : ℕ) (hung : List Hung) → AreCarried hung → All (IsCarried topology (at p)) (threads_at p hung)
    here_carried p hung all =
        All-map (IsCarried topology (at p)) (λ h. h.thread) (filter (λ h. h.point == p) hung)
        (λ k d within.
        let h = get_or (filter (λ h. h.point == p) hung) k d in
        let e : h.point ≡ p = eqb-true h.point p (filter_passes (λ h. h.point == p) hung k d within) in
        subst (λ n. IsCarried topology (at n) h.thread) e
        (All-filter (λ h. h.point == p) (λ h. IsCarried topology (at h.point) h.thread) hung all k d within))

    pub cut_routed : (hung : List Hung) (legs : List Leg) → AreLegs legs → LegsLead topology at legs → AreCarried hung
        → ((p : ℕ) → p ≤ length legs → below hung legs p ≢ 1 → LiesAt topology (at p) (splice p)) → LiesAt topology (at 0) stem
        → All (IsRoutedOf topology net) (cut net splice stem hung legs)
    cut_routed hung [] are lead carried splices root =
        let threads = threads_at 0 hung in
        let all = here_carried 0 hung carried in
        let lies : length threads ≢ 1 → LiesAt topology (at 0) (splice 0) =
        λ many. splices 0 (omega arith) (λ one. many (omega (arith, one, count_at hung 0))) in
        All-append (IsRoutedOf topology net) (spliced net (splice 0) threads) (finished net (thread_up (splice 0) threads) stem ∷ [])
        (spliced_routed (at 0) (splice 0) threads lies all)
        (All-cons (IsRoutedOf topology net) (finished net (thread_up (splice 0) threads) stem) []
        (finished_routed (at 0) (thread_up (splice 0) threads) stem (up_carried (at 0) (splice 0) threads lies all) root)
        (All-nil (IsRoutedOf topology net)))
    cut_routed hung (leg ∷ legs) are lead carried splices root =
        let n = suc (length legs) in
        let threads = threads_at n hung in
        let up = thread_up (splice n) threads in
        let to = led up leg.crossing in
        let all = here_carried n hung carried in
        let lies : length threads ≢ 1 → LiesAt topology (at n) (splice n) =
        λ many. splices n (omega arith) (λ one. many (omega (arith, one, below_top hung leg legs are))) in
        let up_is = up_carried (at n) (splice n) threads lies all in
        let next : AreCarried (hung_up n leg.parent to hung) =
        All-cons (λ h. IsCarried topology (at h.point) h.thread) (record { point = leg.parent; thread = to }) (threads_elsewhere n hung)
        (led_carried (at n) (at leg.parent) up leg.crossing up_is lead.0)
        (All-filter _ (λ h. IsCarried topology (at h.point) h.thread) hung carried) in
        let rest = cut_routed (hung_up n leg.parent to hung) legs are.2 lead.1 next
        (λ p within many. splices p (omega arith) (λ one. many (omega (arith, one, below_same hung leg legs to p within)))) root in
        All-append (IsRoutedOf topology net) (spliced net (splice n) threads)
        (crossed net up leg.crossing ++ cut net splice stem (hung_up n leg.parent to hung) legs)
        (spliced_routed (at n) (splice n) threads lies all)
        (All-append (IsRoutedOf topology net) (crossed net up leg.crossing) (cut net splice stem (hung_up n leg.parent to hung) legs)
        (crossed_routed (at n) (at leg.parent) up leg.crossing up_is lead.0) rest)
