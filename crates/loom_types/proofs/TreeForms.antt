-- The wires of a layout form one tree.
use Rattle.std.proofs.Common.{ℕ, zero, suc, List, [], ◌∷◌, Bool, true, false, length, map, get_or, ◌≡◌, ◌+◌, ◌*◌, ◌<◌, ◌≤◌, ◌==◌, ◌&&◌, ◌⊎◌, inl, inr, refl, sym, ap, ◌∙◌, sum_by, count_by, arith}
use Rattle.std.specs.List.{Contains, flat_map}
use Rattle.std.specs.Int.{sum_through}
use Rattle.std.proofs.lemmas.Bool.{cases_eq}
use Rattle.std.proofs.lemmas.List.Sums.{sum_by-cons, get_or-le-sum_by}
use Rattle.loom_topology.specs.Topology.{TopologyView}
use Rattle.loom_topology.specs.WiringTree.{Tree}
use Rattle.loom_types.specs.declared.wire.End.{End}
use Rattle.loom_types.specs.declared.wire.End.TheVariants.{Cavity, Splice}
use Rattle.loom_types.specs.declared.wire.Wire.{Wire}
use Rattle.loom_types.specs.LayoutWires.{Hung, Crossing, Over, Through, Leg, splice_of, leg_of, legs_of, hung_of, pin_side, cut}
use Rattle.loom_types.specs.WireCost.{Point, PinPoint, point_of}
use Rattle.loom_types.specs.WireTree.{FormsTree, HasEnd, ends_of, ends_at, is_same_end, joint_of}
use Rattle.loom_types.proofs.Tallies.{one_if, one_if-eq, one_if-ne, HasSides, AreLegs, AreHungBelow, below}
use Rattle.loom_types.proofs.CutWeights.{thread_weight, crossing_weight, spliced_weight, cut_weight}
use Rattle.loom_types.proofs.EndTests.{same_end-true, same_end-refl, at_joint, one_if-cases, one_if-true}
use Rattle.loom_types.proofs.Growth.{met, met-cons, grown_connected, grown_no_cycle}
use Rattle.loom_types.proofs.PointSums.{GrowsTo}
use Rattle.loom_types.proofs.CutGrowth.{pin_value, is_point, news, met-cut, cut_grows}
use Rattle.loom_types.proofs.TreeLegs.{length-legs, are_legs, leg_sides, legs-same, sum-hung_threads, all_hung, below-degree}
use Rattle.loom_types.proofs.TreeNames.{IsCutTree, sum_by-zero, sum_through-zero, different_once, legs_once, names_once}

-- one, where it is the end itself
abbrev pub at_end : End → End → ℕ
at_end e d = one_if (is_same_end e d)

pub ends-met : (ws : List (End × End)) (e : End) → ends_at ws e ≡ met (at_end e) ws
ends-met [] e = refl
ends-met (w ∷ ws) e =
    let later = flat_map (λ v. v.0 ∷ v.1 ∷ []) ws in
    let rest = ends-met ws e in
    omega (arith, rest, met-cons (at_end e) w ws, sum_by-cons (at_end e) w.0 (w.1 ∷ later), sum_by-cons (at_end e) w.1 later)

at_end-le : (e d : End) → at_end e d ≤ at_joint (joint_of e) d
at_end-le e d = elim (one_if-cases (is_same_end e d)) [
  | inr none ↦ omega (arith, none.1)
  | inl same ↦
      let joint : is_same_end (joint_of e) (joint_of d) ≡ true =
      ap (λ x. is_same_end (joint_of e) (joint_of x)) (sym (same_end-true e d same.0)) ∙ same_end-refl (joint_of e) in
      omega (arith, same.1, one_if-true (is_same_end (joint_of e) (joint_of d)) joint)
]

met_more : (f g : End → ℕ) → ((e : End) → f e ≤ g e) → (ws : List (End × End)) → met f ws ≤ met g ws
met_more f g more [] = omega arith
met_more f g more (w ∷ ws) =
    let rest = met_more f g more ws in
    omega (arith, rest, more w.0, more w.1, met-cons f w ws, met-cons g w ws)

has_end_met : (ws : List (End × End)) (e : End) → HasEnd ws e → 0 < met (at_joint (joint_of e)) ws
has_end_met ws e has =
    omega (arith, has, ends-met ws e, met_more (at_end e) (at_joint (joint_of e)) (at_end-le e) ws)

pub sum_by-alike : {X : Type 0} (f g : X → ℕ) (xs : List X) → ((x : X) → f x ≡ g x) → sum_by f xs ≡ sum_by g xs
sum_by-alike f g [] same = refl
sum_by-alike f g (x ∷ xs) same =
    let rest = sum_by-alike f g xs same in
    omega (arith, rest, same x, sum_by-cons f x xs, sum_by-cons g x xs)

sum_by-double : {X : Type 0} (f g : X → ℕ) (xs : List X) → ((x : X) → f x ≤ 2 * g x) → sum_by f xs ≤ 2 * sum_by g xs
sum_by-double f g [] more = omega arith
sum_by-double f g (x ∷ xs) more =
    let rest = sum_by-double f g xs more in
    omega (arith, rest, more x, sum_by-cons f x xs, sum_by-cons g x xs)

pub spliced_zero : (n : ℕ) → spliced_weight 0 n ≡ 0
spliced_zero zero = refl
spliced_zero (suc zero) = refl
spliced_zero (suc (suc n)) = omega arith

-- a splice at which threads come together has three ends or more
splice_steps : (w n : ℕ) → 1 ≤ n → (spliced_weight w n ≡ 0) ⊎ (3 ≤ spliced_weight w n)
splice_steps w zero some = absurd (omega (arith, some))
splice_steps w (suc zero) some = inl refl
splice_steps w (suc (suc n)) some = elim (cases_eq w 0) [
  | inl e ↦ inl (rw e (omega arith))
  | inr other ↦ inr (omega (arith, other))
]

sum_through-three : (f : ℕ → ℕ) (n : ℕ) → ((p : ℕ) → p ≤ n → (f p ≡ 0) ⊎ (3 ≤ f p)) → 0 < sum_through f n → 3 ≤ sum_through f n
sum_through-three f zero steps some = elim (steps 0 (omega arith)) [
  | inl none ↦ absurd (omega (arith, none, some))
  | inr three ↦ three
]
sum_through-three f (suc n) steps some = elim (steps (suc n) (omega arith)) [
  | inr three ↦ omega (arith, three)
  | inl none ↦
      let rest = sum_through-three f n (λ p within. steps p (omega arith)) (omega (arith, none, some)) in
      omega (arith, rest)
]

count_contains : (xs : List ℕ) (c : ℕ) → Contains xs c → 0 < count_by (λ d. c == d) xs
count_contains xs c (k, within, e) =
    omega (arith, get_or-le-sum_by (λ d. one_if (c == d)) xs k c within, one_if-eq c (get_or xs k c) (sym e))

count_found : (xs : List ℕ) (c : ℕ) → 0 < count_by (λ d. c == d) xs → Contains xs c
count_found [] c some = absurd (omega (arith, some))
count_found (x ∷ xs) c some = elim (cases_eq c x) [
  | inl e ↦ (0, omega arith, sym e)
  | inr other ↦
      let (k, within, e) = count_found xs c (omega (arith, some, one_if-ne c x other, sum_by-cons (λ d. one_if (c == d)) x xs)) in
      (suc k, omega (arith, within), e)
]

no_crossing : (e : End) → ((x p s : ℕ) → at_end e (pin_side x p s) ≡ 0) → (crossing : Crossing) → crossing_weight (at_end e) 0 crossing ≡ 0
no_crossing e none (Over segment length) = omega arith
no_crossing e none (Through coupler pin near far) = omega (arith, none coupler pin near, none coupler pin far)

-- a pin's two sides, of which a step has each once
one_side : (A : Bool) → one_if (A && true) + one_if (A && false) ≡ one_if A
one_side true = refl
one_side false = refl

side_le : (A b : Bool) → one_if (A && b) ≤ one_if A
side_le true true = omega arith
side_le true false = omega arith
side_le false b = omega arith

crossing_some : (x r s : ℕ) (crossing : Crossing)
    → crossing_weight (at_end (pin_side x r s)) 0 crossing ≤ 2 * pin_value (is_point (PinPoint x r)) crossing
crossing_some x r s (Over segment length) = omega arith
crossing_some x r s (Through y q near far) =
    omega (arith, side_le (x == y && r == q) (s == near), side_le (x == y && r == q) (s == far))

crossing_first : (x r : ℕ) (crossing : Crossing) → HasSides crossing
    → crossing_weight (at_end (pin_side x r 1)) 0 crossing ≡ pin_value (is_point (PinPoint x r)) crossing
crossing_first x r (Over segment length) sides = omega arith
crossing_first x r (Through y q near far) (inl (e, f)) =
    let A = x == y && r == q in
    omega (arith, one_side A, ap (λ (n : ℕ). one_if (A && 1 == n)) e, ap (λ (n : ℕ). one_if (A && 1 == n)) f)
crossing_first x r (Through y q near far) (inr (e, f)) =
    let A = x == y && r == q in
    omega (arith, one_side A, ap (λ (n : ℕ). one_if (A && 1 == n)) e, ap (λ (n : ℕ). one_if (A && 1 == n)) f)

crossing_second : (x r : ℕ) (crossing : Crossing) → HasSides crossing
    → crossing_weight (at_end (pin_side x r 2)) 0 crossing ≡ pin_value (is_point (PinPoint x r)) crossing
crossing_second x r (Over segment length) sides = omega arith
crossing_second x r (Through y q near far) (inl (e, f)) =
    let A = x == y && r == q in
    omega (arith, one_side A, ap (λ (n : ℕ). one_if (A && 2 == n)) e, ap (λ (n : ℕ). one_if (A && 2 == n)) f)
crossing_second x r (Through y q near far) (inr (e, f)) =
    let A = x == y && r == q in
    omega (arith, one_side A, ap (λ (n : ℕ). one_if (A && 2 == n)) e, ap (λ (n : ℕ). one_if (A && 2 == n)) f)

module _ (topology : TopologyView) (v : ℕ) (pins : ℕ → ℕ → ℕ) (tree : Tree) (stem : ℕ) (cavities : List ℕ)
    (is_cut : IsCutTree topology v pins stem cavities tree) (net : ℕ) where
  abbrev pub stem_end : End
  stem_end = Cavity (record { 0 = stem })

  abbrev pub tree_hung : List Hung
  tree_hung = hung_of cavities tree.hangs

  abbrev pub tree_legs : List Leg
  tree_legs = legs_of topology v pins tree (length tree.steps)

  abbrev pub tree_wires : List Wire
  tree_wires = cut net (splice_of topology v tree) stem_end tree_hung tree_legs

  pub tree_are_legs : AreLegs tree_legs
  tree_are_legs = are_legs topology v pins tree (length tree.steps) is_cut.wiring.parent

  pub tree_hung_below : AreHungBelow tree_hung (length tree_legs)
  tree_hung_below =
      all_hung _ (λ h. h.point ≤ length tree_legs) cavities tree.hangs
      (λ c h r. omega (arith, r.0, length-legs topology v pins tree (length tree.steps))) is_cut.wiring.hangs

  pub tree_grows : (g : Point → ℕ)
      → GrowsTo g (map ends_of tree_wires) (news g (splice_of topology v tree) tree_hung tree_legs + g (point_of stem_end))
  tree_grows g =
      cut_grows g net (splice_of topology v tree) stem_end tree_hung tree_legs tree_are_legs tree_hung_below
      (names_once topology v pins tree stem cavities is_cut)

  pub tree_met : (f : End → ℕ)
      → met f (map ends_of tree_wires) ≡ cut_weight f 0 (splice_of topology v tree) tree_hung tree_legs + f stem_end
  tree_met f =
      met-cut (λ P. 0) net (splice_of topology v tree) stem_end f tree_hung tree_legs tree_are_legs tree_hung_below

  ends-cavity : (c : ℕ) → ends_at (map ends_of tree_wires) (Cavity (record { 0 = c })) ≡ count_by (λ d. c == d) (stem ∷ cavities)
  ends-cavity c =
      let e : End = Cavity (record { 0 = c }) in
      let threads = sum-hung_threads _ (thread_weight (at_end e) 0) cavities tree.hangs is_cut.wiring.hangs in
      let count = sum_by-alike (λ d. thread_weight (at_end e) 0 (record { stop = Cavity (record { 0 = d }); route = []; length = 0 }))
      (λ d. one_if (c == d)) cavities (λ d. omega arith) in
      let crossings = sum_by-zero (λ leg. crossing_weight (at_end e) 0 leg.crossing) tree_legs
      (λ leg. no_crossing e (λ x p s. refl) leg.crossing) in
      let splices = sum_through-zero (λ p. spliced_weight (at_end e (splice_of topology v tree p)) (below tree_hung tree_legs p))
      (length tree_legs) (λ p within. spliced_zero (below tree_hung tree_legs p)) in
      omega (
        arith,
        ends-met (map ends_of tree_wires) e,
        tree_met (at_end e),
        threads,
        count,
        crossings,
        splices,
        sum_by-cons (λ d. one_if (c == d)) stem cavities,
      )

  threads_none : (e : End) → ((d : ℕ) → at_end e (Cavity (record { 0 = d })) ≡ 0)
      → sum_by (λ h. thread_weight (at_end e) 0 h.thread) tree_hung ≡ 0
  threads_none e none =
      sum-hung_threads _ (thread_weight (at_end e) 0) cavities tree.hangs is_cut.wiring.hangs
      ∙ sum_by-zero (λ d. thread_weight (at_end e) 0 (record { stop = Cavity (record { 0 = d }); route = []; length = 0 })) cavities
      (λ d. omega (arith, none d))

  ends-splice : (node ordinal : ℕ) → ends_at (map ends_of tree_wires) (Splice (record { 0 = node }) ordinal)
      ≡ sum_through (λ p. spliced_weight (at_end (Splice (record { 0 = node }) ordinal) (splice_of topology v tree p))
      (below tree_hung tree_legs p)) (length tree_legs)
  ends-splice node ordinal =
      let e : End = Splice (record { 0 = node }) ordinal in
      let crossings = sum_by-zero (λ leg. crossing_weight (at_end e) 0 leg.crossing) tree_legs
      (λ leg. no_crossing e (λ x p s. refl) leg.crossing) in
      omega (arith, ends-met (map ends_of tree_wires) e, tree_met (at_end e), threads_none e (λ d. refl), crossings)

  ends-pin : (x r s : ℕ) → ends_at (map ends_of tree_wires) (pin_side x r s)
      ≡ sum_by (λ leg. crossing_weight (at_end (pin_side x r s)) 0 leg.crossing) tree_legs
  ends-pin x r s =
      let e : End = pin_side x r s in
      let splices = sum_through-zero (λ p. spliced_weight (at_end e (splice_of topology v tree p)) (below tree_hung tree_legs p))
      (length tree_legs) (λ p within. spliced_zero (below tree_hung tree_legs p)) in
      omega (arith, ends-met (map ends_of tree_wires) e, tree_met (at_end e), threads_none e (λ d. refl), splices)

  both_sides : (x r s : ℕ) → HasEnd (map ends_of tree_wires) (pin_side x r s)
      → (ends_at (map ends_of tree_wires) (pin_side x r 1) ≡ 1) × (ends_at (map ends_of tree_wires) (pin_side x r 2) ≡ 1)
  both_sides x r s has =
      let P = PinPoint x r in
      let n = length tree.steps in
      let pin : Leg → ℕ = λ leg. pin_value (is_point P) leg.crossing in
      let most = legs_once topology v pins tree stem cavities is_cut P n (omega arith) in
      let some = sum_by-double (λ leg. crossing_weight (at_end (pin_side x r s)) 0 leg.crossing) pin tree_legs
      (λ leg. crossing_some x r s leg.crossing) in
      let first = legs-same topology v pins tree (λ leg. crossing_weight (at_end (pin_side x r 1)) 0 leg.crossing) pin
      (λ k. crossing_first x r (leg_of topology v pins tree k).crossing (leg_sides topology v pins tree k)) n in
      let second = legs-same topology v pins tree (λ leg. crossing_weight (at_end (pin_side x r 2)) 0 leg.crossing) pin
      (λ k. crossing_second x r (leg_of topology v pins tree k).crossing (leg_sides topology v pins tree k)) n in (
        omega (arith, has, ends-pin x r s, ends-pin x r 1, most, some, first),
        omega (arith, has, ends-pin x r s, ends-pin x r 2, most, some, second),
      )

  three_ends : (node ordinal : ℕ) → HasEnd (map ends_of tree_wires) (Splice (record { 0 = node }) ordinal)
      → 3 ≤ ends_at (map ends_of tree_wires) (Splice (record { 0 = node }) ordinal)
  three_ends node ordinal has =
      let e : End = Splice (record { 0 = node }) ordinal in
      let three = sum_through-three
      (λ p. spliced_weight (at_end e (splice_of topology v tree p)) (below tree_hung tree_legs p)) (length tree_legs)
      (λ p within.
      splice_steps (at_end e (splice_of topology v tree p)) (below tree_hung tree_legs p)
      (omega (
        arith,
        is_cut.degrees p (omega (arith, length-legs topology v pins tree (length tree.steps))),
        below-degree topology v pins tree _ cavities is_cut.wiring.hangs p,
      )))
      (omega (arith, has, ends-splice node ordinal)) in
      omega (arith, three, ends-splice node ordinal)

  pub tree_wires_form : FormsTree (stem ∷ cavities) (map ends_of tree_wires)
  tree_wires_form =
      let ws = map ends_of tree_wires in
      let grown = (tree_grows (λ P. 0)).grown in
      record {
        connected = λ e f has_e has_f.
            grown_connected ws grown (joint_of e) (joint_of f) (has_end_met ws e has_e) (has_end_met ws f has_f);
        no_cycle = grown_no_cycle ws grown;
        cavity = λ c has.
            omega (arith, ends-cavity c, count_contains (stem ∷ cavities) c has, different_once (stem ∷ cavities) is_cut.different c);
        no_other_cavity = λ c has. count_found (stem ∷ cavities) c (omega (arith, has, ends-cavity c));
        splice = λ node ordinal has. three_ends node ordinal has;
        pin = λ coupler pin side has. both_sides coupler pin side has;
      }
