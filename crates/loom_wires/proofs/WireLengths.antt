-- Each wire of a layout is as long as its runs together, and has no row; so wires that the order of wires doesn't tell apart are equal.
use Rattle.std.proofs.Common.{◌≡◌, ℕ, zero, suc, ◌+◌, Bool, true, false, cond, not, eqb, List, [], ◌∷◌, ◌++◌, length, map, reverse, get_or, refl, sym, ap, ◌∙◌, arith, add-zero}
use Rattle.std.specs.List.{All, sum_by, filter, Contains}
use Rattle.std.specs.declared.cmp.Ordering.{Ordering}
use Rattle.std.specs.declared.cmp.Ordering.TheVariants.{Less, Equal, Greater}
use Rattle.std.specs.Ordering.{nat_cmp, ordering_then}
use Rattle.std.proofs.lemmas.List.{reverse-append}
use Rattle.std.proofs.lemmas.List.Elements.{All-nil, All-cons, All-head, All-tail, All-append, All-map, All-filter, All-contains}
use Rattle.std.proofs.lemmas.List.Sums.{sum_by-cons, sum_by-append}
use Rattle.std.proofs.lemmas.Map.Lookups.{exact_unsigned, exact_bytes}
use Rattle.loom_base.specs.declared.positions.SegmentNo.{SegmentNo}
use Rattle.loom_topology.specs.Topology.{TopologyView, price_at, node_of}
use Rattle.loom_topology.specs.WiringTree.{Tree, step_at}
use Rattle.loom_types.specs.declared.layout.Layout.{Layout}
use Rattle.loom_types.specs.declared.plan.PinLine.{PinLine}
use Rattle.loom_types.specs.declared.wire.End.{End}
use Rattle.loom_types.specs.declared.wire.End.TheVariants.{Cavity, Splice, Pin}
use Rattle.loom_types.specs.declared.wire.Wire.{Wire}
use Rattle.loom_types.specs.LayoutTree.{tree_of}
use Rattle.loom_types.specs.LayoutWires.{Thread, Hung, Crossing, Over, Through, Leg, segment_no, directed, finished, threads_at, threads_elsewhere, spliced, thread_up, crossed, led, hung_after, cut, leg_of, legs_of, hung_of, layout_wires, ordinal_of, splice_of}
use Rattle.loom_types.specs.PinLines.{pin_in}
use Rattle.loom_types.specs.WireOrder.{end_cmp, route_cmp, wire_cmp}
use Rattle.loom_wires.specs.declared.laid_set.LaidSet.{LaidSet}
use Rattle.loom_wires.specs.Wires.{wires_of_set}
use Rattle.loom_wires.specs.WireTotals.{code_of_end, end_cmp-codes}

abbrev pub runs_length : TopologyView → List SegmentNo → ℕ
runs_length topology route = sum_by (λ s. price_at topology s.0) route

pub record IsMeasured (topology : TopologyView) (w : Wire) : Type 0 where
  pub length : w.length ≡ runs_length topology w.route
  pub row : w.row ≡ 0

-- ---- the wires of a layout

abbrev Fits : TopologyView → Thread → Type 0
Fits topology thread = thread.length ≡ runs_length topology thread.route

abbrev CrossingFits : TopologyView → Crossing → Type 0
CrossingFits topology (Over segment length) = length ≡ price_at topology segment
CrossingFits topology (Through coupler pin near far) = Unit {0}

module _ (topology : TopologyView) where
  abbrev AllFit : List Thread → Type 0
  AllFit threads = All (Fits topology) threads

  abbrev AllHungFit : List Hung → Type 0
  AllHungFit hung = All (λ h. Fits topology h.thread) hung

  abbrev AllLegsFit : List Leg → Type 0
  AllLegsFit legs = All (λ leg. CrossingFits topology leg.crossing) legs

  runs_length-push : (route : List SegmentNo) (s : SegmentNo) → runs_length topology (route ++ s ∷ []) ≡ runs_length topology route + price_at topology s.0
  runs_length-push route s =
      sum_by-append (λ t. price_at topology t.0) route (s ∷ [])
      ∙ ap (λ n. runs_length topology route + n) (sum_by-cons (λ t. price_at topology t.0) s [] ∙ add-zero (price_at topology s.0))

  runs_length-reverse : (route : List SegmentNo) → runs_length topology (reverse route) ≡ runs_length topology route
  runs_length-reverse [] = refl
  runs_length-reverse (s ∷ route) =
      let turned : reverse (s ∷ route) ≡ reverse route ++ s ∷ [] = reverse-append (s ∷ []) route in
      let whole = ap (runs_length topology) turned ∙ runs_length-push (reverse route) s in
      let rest = runs_length-reverse route in
      let first = sum_by-cons (λ t. price_at topology t.0) s route in
      omega (arith, whole, rest, first)

  directed-fits : (o : Ordering) (net : ℕ) (thread : Thread) (stop : End) → Fits topology thread → IsMeasured topology (directed o net thread stop)
  directed-fits Less net thread stop fits = record { length = fits; row = refl }
  directed-fits Equal net thread stop fits = record { length = fits; row = refl }
  directed-fits Greater net thread stop fits = record { length = fits ∙ sym (runs_length-reverse thread.route); row = refl }

  finished-fits : (net : ℕ) (thread : Thread) (stop : End) → Fits topology thread → IsMeasured topology (finished net thread stop)
  finished-fits net thread stop fits = directed-fits (end_cmp thread.stop stop) net thread stop fits

  each_finished : (net : ℕ) (stop : End) (threads : List Thread) → AllFit threads → All (IsMeasured topology) (map (λ thread. finished net thread stop) threads)
  each_finished net stop threads fit = All-map (IsMeasured topology) (λ thread. finished net thread stop) threads (λ k d lt. finished-fits net _ stop (fit k d lt))

  spliced-fit : (net : ℕ) (splice : End) (threads : List Thread) → AllFit threads → All (IsMeasured topology) (spliced net splice threads)
  spliced-fit net splice [] fit = All-nil (IsMeasured topology)
  spliced-fit net splice (thread ∷ []) fit = All-nil (IsMeasured topology)
  spliced-fit net splice (thread ∷ other ∷ threads) fit = each_finished net splice (thread ∷ other ∷ threads) fit

  up-fits : (splice : End) (threads : List Thread) → AllFit threads → Fits topology (thread_up splice threads)
  up-fits splice [] fit = refl
  up-fits splice (thread ∷ []) fit = All-head (Fits topology) thread [] fit
  up-fits splice (thread ∷ other ∷ threads) fit = refl

  crossed-fit : (net : ℕ) (thread : Thread) (crossing : Crossing) → Fits topology thread → All (IsMeasured topology) (crossed net thread crossing)
  crossed-fit net thread (Over segment length) fits = All-nil (IsMeasured topology)
  crossed-fit net thread (Through coupler pin near far) fits =
      All-cons (IsMeasured topology) (finished net thread (Pin (segment_no coupler) pin far)) []
      (finished-fits net thread (Pin (segment_no coupler) pin far) fits) (All-nil (IsMeasured topology))

  led-fits : (thread : Thread) (crossing : Crossing) → CrossingFits topology crossing → Fits topology thread → Fits topology (led thread crossing)
  led-fits thread (Over segment length) priced fits = (λ i. fits i + priced i) ∙ sym (runs_length-push thread.route (segment_no segment))
  led-fits thread (Through coupler pin near far) priced fits = refl

  at-fit : (point : ℕ) (hung : List Hung) → AllHungFit hung → AllFit (threads_at point hung)
  at-fit point hung fit =
      All-map (Fits topology) (λ (h : Hung). h.thread) (filter (λ h. eqb h.point point) hung)
      (All-filter (λ h. eqb h.point point) (λ h. Fits topology h.thread) hung fit)

  after-fit : (splice : End) (point : ℕ) (leg : Leg) (hung : List Hung) → CrossingFits topology leg.crossing → AllHungFit hung → AllHungFit (hung_after splice point leg hung)
  after-fit splice point leg hung priced fit =
      let thread = thread_up splice (threads_at point hung) in
      All-cons (λ (h : Hung). Fits topology h.thread) (record { point = leg.parent; thread = led thread leg.crossing }) (threads_elsewhere point hung)
      (led-fits thread leg.crossing priced (up-fits splice (threads_at point hung) (at-fit point hung fit)))
      (All-filter (λ h. not (eqb h.point point)) (λ h. Fits topology h.thread) hung fit)

  cut-fit : (net : ℕ) (splice : ℕ → End) (stem : End) (hung : List Hung) (legs : List Leg) → AllHungFit hung → AllLegsFit legs → All (IsMeasured topology) (cut net splice stem hung legs)
  cut-fit net splice stem hung [] fit priced =
      let up = thread_up (splice 0) (threads_at 0 hung) in
      All-append (IsMeasured topology) (spliced net (splice 0) (threads_at 0 hung)) (finished net up stem ∷ [])
      (spliced-fit net (splice 0) (threads_at 0 hung) (at-fit 0 hung fit))
      (All-cons (IsMeasured topology) (finished net up stem) [] (finished-fits net up stem (up-fits (splice 0) (threads_at 0 hung) (at-fit 0 hung fit))) (All-nil (IsMeasured topology)))
  cut-fit net splice stem hung (leg ∷ legs) fit priced =
      let point = suc (length legs) in
      let threads = threads_at point hung in
      let up = thread_up (splice point) threads in
      let here = at-fit point hung fit in
      let crossing_fits = All-head (λ (l : Leg). CrossingFits topology l.crossing) leg legs priced in
      All-append (IsMeasured topology) (spliced net (splice point) threads) (crossed net up leg.crossing ++ cut net splice stem (hung_after (splice point) point leg hung) legs)
      (spliced-fit net (splice point) threads here)
      (All-append (IsMeasured topology) (crossed net up leg.crossing) (cut net splice stem (hung_after (splice point) point leg hung) legs)
      (crossed-fit net up leg.crossing (up-fits (splice point) threads here))
      (cut-fit net splice stem (hung_after (splice point) point leg hung) legs (after-fit (splice point) point leg hung crossing_fits fit) (All-tail (λ (l : Leg). CrossingFits topology l.crossing) leg legs priced)))

  crossing-by : (coupler side : Bool) (segment pin : ℕ) → CrossingFits topology (cond coupler (cond side (Through segment pin 1 2) (Through segment pin 2 1)) (Over segment (price_at topology segment)))
  crossing-by true true segment pin = tt
  crossing-by true false segment pin = tt
  crossing-by false side segment pin = refl

  legs-fit : (v : ℕ) (pins : ℕ → ℕ → ℕ) (tree : Tree) (count : ℕ) → AllLegsFit (legs_of topology v pins tree count)
  legs-fit v pins tree zero = All-nil (λ (l : Leg). CrossingFits topology l.crossing)
  legs-fit v pins tree (suc k) =
      All-cons (λ (l : Leg). CrossingFits topology l.crossing) (leg_of topology v pins tree k) (legs_of topology v pins tree k)
      (crossing-by _ _ (step_at tree k).segment (pins (step_at tree k).segment (ordinal_of tree k)))
      (legs-fit v pins tree k)

  pub layout-measured : (net : ℕ) (pins : ℕ → ℕ → ℕ) (stem : ℕ) (cavities : List ℕ) (layout : Layout) → All (IsMeasured topology) (layout_wires topology net pins stem cavities layout)
  layout-measured net pins stem cavities layout =
      cut-fit net (splice_of topology (node_of topology stem) (tree_of layout)) (Cavity (record { 0 = stem })) (hung_of cavities layout.hangs)
      (legs_of topology (node_of topology stem) pins (tree_of layout) (length (tree_of layout).steps))
      (All-map (λ (h : Hung). Fits topology h.thread) _ _ (λ k d lt. refl))
      (legs-fit (node_of topology stem) pins (tree_of layout) (length (tree_of layout).steps))

pub measured : (topology : TopologyView) (pins : List PinLine) (set : LaidSet) (w : Wire) → Contains (wires_of_set topology pins set) w → IsMeasured topology w
measured topology pins set w listed =
    All-contains (IsMeasured topology) (wires_of_set topology pins set) w (layout-measured topology set.net.0 (pin_in pins set.net.0) _ _ set.layout) listed

-- ---- wires that the order doesn't tell apart

then_tied : (o p : Ordering) → ordering_then o p ≡ Equal → (o ≡ Equal) × (p ≡ Equal)
then_tied Less p e = absurd (cc)
then_tied Equal p e = (refl, e)
then_tied Greater p e = absurd (cc)

exact_routes : (one other : List SegmentNo) → route_cmp one other ≡ Equal → one ≡ other
exact_routes [] [] e = refl
exact_routes [] (t ∷ other) e = absurd (cc)
exact_routes (s ∷ one) [] e = absurd (cc)
exact_routes (s ∷ one) (t ∷ other) e =
    let parts = then_tied (nat_cmp s.0 t.0) (route_cmp one other) e in
    let first = exact_unsigned s.0 t.0 parts.0 in
    let rest = exact_routes one other parts.1 in
    λ i. record { 0 = first i } ∷ rest i

kinds_differ : {A : Type 0} (i j : ℕ) (xs ys : List ℕ) → (i ∷ xs) ≡ (j ∷ ys) → (i ≡ j → ⊥) → A
kinds_differ i j xs ys same differ = absurd (differ (ap (λ (l : List ℕ). get_or l 0 0) same))

exact_codes : (e f : End) → code_of_end e ≡ code_of_end f → e ≡ f
exact_codes (Cavity c) (Cavity d) same = let a = ap (λ l. get_or l 1 0) same in λ i. Cavity (record { 0 = a i })
exact_codes (Cavity c) (Splice w k) same = kinds_differ 0 1 _ _ same (λ e. omega (arith, e))
exact_codes (Cavity c) (Pin y q t) same = kinds_differ 0 2 _ _ same (λ e. omega (arith, e))
exact_codes (Splice v j) (Cavity d) same = kinds_differ 1 0 _ _ same (λ e. omega (arith, e))
exact_codes (Splice v j) (Splice w k) same =
    let a = ap (λ l. get_or l 1 0) same in
    let b = ap (λ l. get_or l 2 0) same in
    λ i. Splice (record { 0 = a i }) (b i)
exact_codes (Splice v j) (Pin y q t) same = kinds_differ 1 2 _ _ same (λ e. omega (arith, e))
exact_codes (Pin x p s) (Cavity d) same = kinds_differ 2 0 _ _ same (λ e. omega (arith, e))
exact_codes (Pin x p s) (Splice w k) same = kinds_differ 2 1 _ _ same (λ e. omega (arith, e))
exact_codes (Pin x p s) (Pin y q t) same =
    let a = ap (λ l. get_or l 1 0) same in
    let b = ap (λ l. get_or l 2 0) same in
    let d = ap (λ l. get_or l 3 0) same in
    λ i. Pin (record { 0 = a i }) (b i) (d i)

exact_ends : (e f : End) → end_cmp e f ≡ Equal → e ≡ f
exact_ends e f tied = exact_codes e f (exact_bytes (code_of_end e) (code_of_end f) (end_cmp-codes e f ∙ tied))

-- wires that the order doesn't tell apart, and that are as long as their runs, are equal
pub exact_wires : (topology : TopologyView) (w v : Wire) → IsMeasured topology w → IsMeasured topology v → wire_cmp w v ≡ Equal → w ≡ v
exact_wires topology w v one other tied =
    let last = then_tied (ordering_then (ordering_then (nat_cmp w.net.0 v.net.0) (end_cmp w.from v.from)) (end_cmp w.to v.to)) (route_cmp w.route v.route) tied in
    let third = then_tied (ordering_then (nat_cmp w.net.0 v.net.0) (end_cmp w.from v.from)) (end_cmp w.to v.to) last.0 in
    let second = then_tied (nat_cmp w.net.0 v.net.0) (end_cmp w.from v.from) third.0 in
    let net = exact_unsigned w.net.0 v.net.0 second.0 in
    let from = exact_ends w.from v.from second.1 in
    let to = exact_ends w.to v.to third.1 in
    let route = exact_routes w.route v.route last.1 in
    let long : w.length ≡ v.length = one.length ∙ ap (runs_length topology) route ∙ sym other.length in
    let row : w.row ≡ v.row = one.row ∙ sym other.row in
    λ i. record { net = record { 0 = net i }; from = from i; to = to i; route = route i; length = long i; row = row i }
