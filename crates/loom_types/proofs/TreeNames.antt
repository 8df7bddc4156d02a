-- No two points of a layout have one name: its cavities, its splices and its pins are different.
use Rattle.std.proofs.Common.{ℕ, zero, suc, List, [], ◌∷◌, Bool, true, false, cond, length, take, get_or, ◌≡◌, ◌≢◌, ◌+◌, ◌<◌, ◌≤◌, ◌==◌, ◌&&◌, inl, inr, refl, sym, ap, ◌∙◌, sum_by, count_by, arith}
use Rattle.std.specs.List.{AllPairs}
use Rattle.std.specs.Bool.{IsTrue}
use Rattle.std.specs.Int.{sum_through}
use Rattle.std.proofs.lemmas.Bool.{cases_lt, cases_eq, cases_Bool, eq-eqb, and_from, le-leb, cond-true, cond-false}
use Rattle.std.proofs.lemmas.List.{take-take}
use Rattle.std.proofs.lemmas.List.Sums.{sum_by-cons, sum_by-take-le, count_by_more_yes}
use Rattle.loom_topology.proofs.Sums.{sum_by-none}
use Rattle.loom_topology.specs.Topology.{TopologyView, segment_at, price_at, is_coupler}
use Rattle.loom_topology.specs.WiringTree.{Step, Tree, IsWiringTree, no_step, step_at, place_of}
use Rattle.loom_topology.specs.TreeCost.{degree_of}
use Rattle.loom_types.specs.declared.wire.End.TheVariants.{Cavity}
use Rattle.loom_types.specs.LayoutWires.{Crossing, Over, Through, Leg, is_splice, splices_through, splice_of, ordinal_of, leg_of, legs_of, hung_of}
use Rattle.loom_types.specs.WireCost.{Point, CavityPoint, SplicePoint, PinPoint, point_of, is_same_point}
use Rattle.loom_types.proofs.Tallies.{one_if, one_if-eq, one_if-ne, below}
use Rattle.loom_types.proofs.EndTests.{at_point, at_point-le, one_if-cases, one_if-true, same_point-true}
use Rattle.loom_types.proofs.CutGrowth.{named, pin_value, thread_value, names, is_point}
use Rattle.loom_types.proofs.TreeLegs.{length-legs, legs-through, sum-hung_threads, below-degree}

pub sum_through-zero : (f : ℕ → ℕ) (n : ℕ) → ((p : ℕ) → p ≤ n → f p ≡ 0) → sum_through f n ≡ 0
sum_through-zero f zero none = none 0 (omega arith)
sum_through-zero f (suc n) none =
    let rest = sum_through-zero f n (λ p within. none p (omega arith)) in
    omega (arith, rest, none (suc n) (omega arith))

pub sum_by-zero : {X : Type 0} (f : X → ℕ) (xs : List X) → ((x : X) → f x ≡ 0) → sum_by f xs ≡ 0
sum_by-zero f [] none = refl
sum_by-zero f (x ∷ xs) none =
    let rest = sum_by-zero f xs none in
    omega (arith, rest, none x, sum_by-cons f x xs)

-- terms of at most one, no two of which count
pub sum_through-once : (f : ℕ → ℕ) (n : ℕ) → ((p : ℕ) → p ≤ n → f p ≤ 1)
    → ((p q : ℕ) → p < q → q ≤ n → 0 < f p → 0 < f q → ⊥) → sum_through f n ≤ 1
sum_through-once f zero small apart = small 0 (omega arith)
sum_through-once f (suc n) small apart = elim (cases_lt 0 (f (suc n))) [
  | inr none ↦
      let rest = sum_through-once f n (λ p within. small p (omega arith)) (λ p q less within. apart p q less (omega arith)) in
      omega (arith, rest, none)
  | inl some ↦
      let rest = sum_through-zero f n (λ p within. elim (cases_lt 0 (f p)) [
        | inl here ↦ absurd (apart p (suc n) (omega arith) (omega arith) here some)
        | inr none ↦ omega (arith, none)
      ]) in
      omega (arith, rest, small (suc n) (omega arith))
]

pub sum_through-grows : (f : ℕ → ℕ) (p q : ℕ) → p < q → sum_through f p + f q ≤ sum_through f q
sum_through-grows f p zero less = absurd (omega arith)
sum_through-grows f p (suc q) less = elim (cases_eq p q) [
  | inl e ↦ rw e (omega arith)
  | inr other ↦
      let rest = sum_through-grows f p q (omega arith) in
      omega (arith, rest)
]

pub named_zero : (n : ℕ) → named 0 n ≡ 0
named_zero zero = refl
named_zero (suc zero) = refl
named_zero (suc (suc n)) = refl

pub named_le : (w n : ℕ) → named w n ≤ w
named_le w zero = omega arith
named_le w (suc zero) = omega arith
named_le w (suc (suc n)) = omega arith

pub named_many : (w n : ℕ) → 0 < named w n → n ≢ 1
named_many w zero some e = omega (arith, e)
named_many w (suc zero) some e = omega (arith, some)
named_many w (suc (suc n)) some e = omega (arith, e)

-- where it counts, the point is the end's
pub at_point-some : (P : Point) (Q : Point) → 0 < is_point P Q → P ≡ Q
at_point-some P Q some = elim (one_if-cases (is_same_point P Q)) [
  | inl same ↦ same_point-true P Q same.0
  | inr none ↦ absurd (omega (arith, some, none.1))
]

pub different_once : (xs : List ℕ) → AllPairs (λ one other. one ≢ other) xs → (c : ℕ) → count_by (λ d. c == d) xs ≤ 1
different_once [] different c = omega arith
different_once (x ∷ xs) different c =
    let rest = different_once xs (λ i j d less within. different (suc i) (suc j) d (omega arith) (omega arith)) c in
    elim (cases_eq c x) [
      | inr other ↦ omega (arith, rest, one_if-ne c x other, sum_by-cons (λ d. one_if (c == d)) x xs)
      | inl e ↦
          let none = sum_by-none (λ d. one_if (c == d)) xs 0
          (λ k within. one_if-ne c (get_or xs k 0) (λ same. different 0 (suc k) 0 (omega arith) (omega arith) (sym e ∙ same))) in
          omega (arith, none, one_if-eq c x e, sum_by-cons (λ d. one_if (c == d)) x xs)
    ]

pin_at : (g : Point → ℕ) (coupler first : Bool) (segment pin price : ℕ)
    → pin_value g (cond coupler (cond first (Through segment pin 1 2) (Through segment pin 2 1)) (Over segment price))
    ≡ cond coupler (g (PinPoint segment pin)) 0
pin_at g true true segment pin price = refl
pin_at g true false segment pin price = refl
pin_at g false first segment pin price = refl

splice_parts : (u o w k : ℕ) → SplicePoint u o ≡ SplicePoint w k → (u ≡ w) × (o ≡ k)
splice_parts u o w k e = ((cc), (cc))

pub pin_parts : (x p y q : ℕ) → PinPoint x p ≡ PinPoint y q → (x ≡ y) × (p ≡ q)
pin_parts x p y q e = ((cc), (cc))

no_pin : (P : Point) → ((x p : ℕ) → is_point P (PinPoint x p) ≡ 0) → (crossing : Crossing) → pin_value (is_point P) crossing ≡ 0
no_pin P none (Over segment length) = refl
no_pin P none (Through coupler pin near far) = none coupler pin

-- a wiring tree whose points can be told apart: each has a degree of at least two, the cavities are different, and so are the pins of
-- steps over one coupler
pub record IsCutTree (topology : TopologyView) (v : ℕ) (pins : ℕ → ℕ → ℕ) (stem : ℕ) (cavities : List ℕ) (tree : Tree) : Type 0 where
  pub wiring : IsWiringTree topology cavities v tree
  pub degrees : (p : ℕ) → p ≤ length tree.steps → 2 ≤ degree_of tree p
  pub different : AllPairs (λ one other. one ≢ other) (stem ∷ cavities)
  pub apart : (coupler one other : ℕ) → IsTrue (is_coupler (segment_at topology coupler).kind) → 1 ≤ one → one < other
      → other ≤ count_by (λ s. s.segment == coupler) tree.steps → pins coupler one ≢ pins coupler other

module _ (topology : TopologyView) (v : ℕ) (pins : ℕ → ℕ → ℕ) (tree : Tree) where
  -- splices of one node are counted up
  pub splice_apart : (p q : ℕ) → p < q → is_splice tree q ≡ true
      → point_of (splice_of topology v tree p) ≡ point_of (splice_of topology v tree q) → ⊥
  splice_apart p q less splice same =
      let u = place_of topology v tree p in
      let w = place_of topology v tree q in
      let (node, ordinal) = splice_parts u (splices_through topology v tree u p) w (splices_through topology v tree w q) same in
      let moved : splices_through topology v tree u p ≡ splices_through topology v tree w p =
      ap (λ n. splices_through topology v tree n p) node in
      let counts : one_if (is_splice tree q && w == w) ≡ 1 =
      one_if-true (is_splice tree q && w == w) (and_from (is_splice tree q) (w == w) splice (eq-eqb w w refl)) in
      let grows = sum_through-grows (λ k. one_if (is_splice tree k && place_of topology v tree k == w)) p q less in
      omega (arith, moved, ordinal, counts, grows)

  pub pin_of : (g : Point → ℕ) (k : ℕ) → pin_value g (leg_of topology v pins tree k).crossing
      ≡ cond (is_coupler (segment_at topology (step_at tree k).segment).kind)
      (g (PinPoint (step_at tree k).segment (pins (step_at tree k).segment (ordinal_of tree k)))) 0
  pin_of g k =
      let s = (step_at tree k).segment in
      pin_at g (is_coupler (segment_at topology s).kind) ((segment_at topology s).from == place_of topology v tree (step_at tree k).parent)
      s (pins s (ordinal_of tree k)) (price_at topology s)

  pub pin_named : (P : Point) (k : ℕ) → 0 < pin_value (is_point P) (leg_of topology v pins tree k).crossing
      → (is_coupler (segment_at topology (step_at tree k).segment).kind ≡ true)
      × (P ≡ PinPoint (step_at tree k).segment (pins (step_at tree k).segment (ordinal_of tree k)))
  pin_named P k some =
      let s = (step_at tree k).segment in
      let Q = PinPoint s (pins s (ordinal_of tree k)) in
      let kind = is_coupler (segment_at topology s).kind in
      elim (cases_Bool kind) [
        | inl coupler ↦
            let e : pin_value (is_point P) (leg_of topology v pins tree k).crossing ≡ is_point P Q =
            pin_of (is_point P) k ∙ cond-true kind (is_point P Q) 0 coupler in
            (coupler, at_point-some P Q (omega (arith, some, e)))
        | inr run ↦
            let e : pin_value (is_point P) (leg_of topology v pins tree k).crossing ≡ 0 =
            pin_of (is_point P) k ∙ cond-false kind (is_point P Q) 0 run in
            absurd (omega (arith, some, e))
      ]

  pub ordinal-next : (k : ℕ) → k < length tree.steps
      → ordinal_of tree k ≡ count_by (λ s. s.segment == (step_at tree k).segment) (take k tree.steps) + 1
  ordinal-next k within =
      count_by_more_yes (λ s. s.segment == (step_at tree k).segment) tree.steps k no_step within
      (eq-eqb (step_at tree k).segment (step_at tree k).segment refl)

  pub ordinal-from : (k : ℕ) → k < length tree.steps → 1 ≤ ordinal_of tree k
  ordinal-from k within = omega (arith, ordinal-next k within)

  pub ordinal-within : (k : ℕ) → ordinal_of tree k ≤ count_by (λ s. s.segment == (step_at tree k).segment) tree.steps
  ordinal-within k = sum_by-take-le (λ s. one_if (s.segment == (step_at tree k).segment)) tree.steps (k + 1)

  pub ordinal-rises : (j k : ℕ) → j < k → k < length tree.steps → (step_at tree j).segment ≡ (step_at tree k).segment
      → ordinal_of tree j < ordinal_of tree k
  ordinal-rises j k less within same =
      let x = (step_at tree k).segment in
      let f : Step → ℕ = λ s. one_if (s.segment == x) in
      let moved : ordinal_of tree j ≡ sum_by f (take (j + 1) tree.steps) =
      ap (λ (n : ℕ). count_by (λ s. s.segment == n) (take (j + 1) tree.steps)) same in
      let part = sum_by-take-le f (take k tree.steps) (j + 1) in
      let fewer = ap (sum_by f) (take-take (j + 1) k tree.steps (omega arith)) in
      omega (arith, moved, part, fewer, ordinal-next k within)

  module _ (stem : ℕ) (cavities : List ℕ) (is_cut : IsCutTree topology v pins stem cavities tree) where
    pub pins_apart : (P : Point) (j k : ℕ) → j < k → k < length tree.steps
        → 0 < pin_value (is_point P) (leg_of topology v pins tree j).crossing
        → 0 < pin_value (is_point P) (leg_of topology v pins tree k).crossing → ⊥
    pins_apart P j k less within first second =
        let (coupler_j, at_j) = pin_named P j first in
        let (coupler_k, at_k) = pin_named P k second in
        let x = (step_at tree j).segment in
        let y = (step_at tree k).segment in
        let (same, pin) = pin_parts x (pins x (ordinal_of tree j)) y (pins y (ordinal_of tree k)) (sym at_j ∙ at_k) in
        is_cut.apart y (ordinal_of tree j) (ordinal_of tree k) coupler_k (ordinal-from j (omega arith))
        (ordinal-rises j k less within same) (ordinal-within k)
        (ap (λ (n : ℕ). pins n (ordinal_of tree j)) (sym same) ∙ pin)

    pub is_splice_at : (w p : ℕ) → p ≤ length tree.steps
        → 0 < named w (below (hung_of cavities tree.hangs) (legs_of topology v pins tree (length tree.steps)) p) → is_splice tree p ≡ true
    is_splice_at w p within some =
        let n = below (hung_of cavities tree.hangs) (legs_of topology v pins tree (length tree.steps)) p in
        let many : n ≢ 1 = named_many w n some in
        let degree = below-degree topology v pins tree _ cavities is_cut.wiring.hangs p in
        le-leb 3 (degree_of tree p) (omega (arith, many, degree, is_cut.degrees p within))

    splices_once : (P : Point)
        → sum_through (λ p. named (at_point P (splice_of topology v tree p))
        (below (hung_of cavities tree.hangs) (legs_of topology v pins tree (length tree.steps)) p)) (length tree.steps) ≤ 1
    splices_once P =
        let n = below (hung_of cavities tree.hangs) (legs_of topology v pins tree (length tree.steps)) in
        sum_through-once (λ p. named (at_point P (splice_of topology v tree p)) (n p)) (length tree.steps)
        (λ p within.
        omega (arith, named_le (at_point P (splice_of topology v tree p)) (n p), at_point-le P (splice_of topology v tree p)))
        (λ p q less within first second.
        let at_p = at_point-some P (point_of (splice_of topology v tree p))
        (omega (arith, first, named_le (at_point P (splice_of topology v tree p)) (n p))) in
        let at_q = at_point-some P (point_of (splice_of topology v tree q))
        (omega (arith, second, named_le (at_point P (splice_of topology v tree q)) (n q))) in
        splice_apart p q less (is_splice_at (at_point P (splice_of topology v tree q)) q within second) (sym at_p ∙ at_q))

    pub legs_once : (P : Point) (n : ℕ) → n ≤ length tree.steps
        → sum_by (λ leg. pin_value (is_point P) leg.crossing) (legs_of topology v pins tree n) ≤ 1
    legs_once P zero within = omega arith
    legs_once P (suc n) within =
        let f : Leg → ℕ = λ leg. pin_value (is_point P) leg.crossing in
        let once = sum_through-once (λ k. f (leg_of topology v pins tree k)) n
        (λ k small.
        let s = (step_at tree k).segment in
        let Q = PinPoint s (pins s (ordinal_of tree k)) in
        elim (cases_lt 0 (f (leg_of topology v pins tree k))) [
          | inr none ↦ omega (arith, none)
          | inl some ↦
              let coupler = (pin_named P k some).0 in
              let e : f (leg_of topology v pins tree k) ≡ is_point P Q =
              pin_of (is_point P) k ∙ cond-true (is_coupler (segment_at topology s).kind) (is_point P Q) 0 coupler in
              elim (one_if-cases (is_same_point P Q)) [
                | inl same ↦ omega (arith, e, same.1)
                | inr other ↦ omega (arith, e, other.1)
              ]
        ])
        (λ j k less small first second. pins_apart P j k less (omega arith) first second) in
        omega (arith, once, legs-through topology v pins tree f n)

    pub names_once : (P : Point)
        → names P (splice_of topology v tree) (Cavity (record { 0 = stem })) (hung_of cavities tree.hangs)
        (legs_of topology v pins tree (length tree.steps)) ≤ 1
    names_once (CavityPoint c) =
        let P = CavityPoint c in
        let hung = hung_of cavities tree.hangs in
        let legs = legs_of topology v pins tree (length tree.steps) in
        let threads = sum-hung_threads _ (thread_value (is_point P)) cavities tree.hangs is_cut.wiring.hangs in
        let crossings = sum_by-zero (λ leg. pin_value (is_point P) leg.crossing) legs (λ leg. no_pin P (λ x p. refl) leg.crossing) in
        let splices = sum_through-zero (λ p. named (at_point P (splice_of topology v tree p)) (below hung legs p)) (length legs)
        (λ p within. named_zero (below hung legs p)) in
        omega (
          arith,
          threads,
          crossings,
          splices,
          different_once (stem ∷ cavities) is_cut.different c,
          sum_by-cons (λ d. one_if (c == d)) stem cavities,
        )
    names_once (SplicePoint u o) =
        let P = SplicePoint u o in
        let hung = hung_of cavities tree.hangs in
        let legs = legs_of topology v pins tree (length tree.steps) in
        let threads = sum-hung_threads _ (thread_value (is_point P)) cavities tree.hangs is_cut.wiring.hangs in
        let none = sum_by-zero (λ (d : ℕ). 0) cavities (λ d. refl) in
        let crossings = sum_by-zero (λ leg. pin_value (is_point P) leg.crossing) legs (λ leg. no_pin P (λ x p. refl) leg.crossing) in
        let count = ap (λ n. sum_through (λ p. named (at_point P (splice_of topology v tree p)) (below hung legs p)) n)
        (length-legs topology v pins tree (length tree.steps)) in
        omega (arith, threads, none, crossings, count, splices_once P)
    names_once (PinPoint x r) =
        let P = PinPoint x r in
        let hung = hung_of cavities tree.hangs in
        let legs = legs_of topology v pins tree (length tree.steps) in
        let threads = sum-hung_threads _ (thread_value (is_point P)) cavities tree.hangs is_cut.wiring.hangs in
        let none = sum_by-zero (λ (d : ℕ). 0) cavities (λ d. refl) in
        let splices = sum_through-zero (λ p. named (at_point P (splice_of topology v tree p)) (below hung legs p)) (length legs)
        (λ p within. named_zero (below hung legs p)) in
        omega (arith, threads, none, splices, legs_once P (length tree.steps) (omega arith))
