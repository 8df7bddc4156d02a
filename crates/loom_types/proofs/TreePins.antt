-- The wires of a layout end at the pins of its steps, and at no others.
use Rattle.std.proofs.Common.{ℕ, zero, suc, List, [], ◌∷◌, true, length, take, ◌≡◌, ◌+◌, ◌*◌, ◌<◌, ◌≤◌, ◌==◌, inl, inr, refl, sym, ap, ◌∙◌, subst, sum_by, count_by, arith}
use Rattle.std.specs.Bool.{IsTrue}
use Rattle.std.specs.List.{Contains}
use Rattle.std.proofs.lemmas.Bool.{cases_lt, cases_eq, cond-true}
use Rattle.std.proofs.lemmas.List.Sums.{sum_by-cons, sum_by_more, get_or-le-sum_by}
use Rattle.loom_topology.specs.Topology.{TopologyView, segment_at, is_coupler}
use Rattle.loom_topology.specs.WiringTree.{Step, Tree, IsWiringTree, no_step, step_at}
use Rattle.loom_types.specs.declared.wire.End.{End}
use Rattle.loom_types.specs.declared.wire.End.TheVariants.{Cavity, Splice, Pin}
use Rattle.loom_types.specs.declared.wire.Wire.{Wire}
use Rattle.loom_types.specs.LayoutWires.{Crossing, Over, Through, Leg, thread_from, segment_no, splice_of, ordinal_of, leg_of, legs_of, hung_of, cut}
use Rattle.loom_types.specs.Slots.{EndsAtPin}
use Rattle.loom_types.specs.WireCost.{Point, PinPoint, point_of}
use Rattle.loom_types.proofs.Tallies.{one_if, one_if-eq, one_if-ne, AreHungBelow, below}
use Rattle.loom_types.proofs.CutWeights.{wire_weight, thread_weight, crossing_weight, spliced_weight, weight-cut}
use Rattle.loom_types.proofs.EndTests.{at_point, at_point-cases, one_if-true, same_point-refl}
use Rattle.loom_types.proofs.CutGrowth.{pin_value, is_point}
use Rattle.loom_types.proofs.TreeLegs.{length-legs, are_legs, sum-hung_threads, all_hung, take_all}
use Rattle.loom_types.proofs.TreeNames.{sum_by-zero, sum_through-zero, pin_parts, pin_of, pin_named, ordinal-next, ordinal-from, ordinal-within}
use Rattle.loom_types.proofs.TreeForms.{spliced_zero}

sum_found : {X : Type 0} (f : X → ℕ) (xs : List X) → 0 < sum_by f xs → (x : X) × Contains xs x × (0 < f x)
sum_found f [] some = absurd (omega (arith, some))
sum_found f (x ∷ xs) some = elim (cases_lt 0 (f x)) [
  | inl here ↦ (x, (0, omega arith, refl), here)
  | inr none ↦
      let (y, (k, within, e), later) = sum_found f xs (omega (arith, some, none, sum_by-cons f x xs)) in
      (y, (suc k, omega (arith, within), e), later)
]

sum_has : {X : Type 0} (f : X → ℕ) (xs : List X) (x : X) → Contains xs x → f x ≤ sum_by f xs
sum_has f xs x (k, within, e) = subst (λ y. f y ≤ sum_by f xs) e (get_or-le-sum_by f xs k x within)

-- an end at a pin's point is one of its sides
pin_end : (x p : ℕ) (e : End) → PinPoint x p ≡ point_of e → (side : ℕ) × (e ≡ Pin (segment_no x) p side)
pin_end x p (Cavity c) same = absurd (cc)
pin_end x p (Splice v j) same = absurd (cc)
pin_end x p (Pin y q s) same =
    let parts = pin_parts x p y.0 q same in
    let coupler : y ≡ segment_no x = ap segment_no (sym parts.0) in
    let pin : q ≡ p = sym parts.1 in
    (s, cc)

end_at : (x p : ℕ) (e : End) (side : ℕ) → e ≡ Pin (segment_no x) p side → at_point (PinPoint x p) e ≡ 1
end_at x p e side same =
    ap (at_point (PinPoint x p)) same ∙ one_if-true _ (same_point-refl (PinPoint x p))

pin_moved : (pins : ℕ → ℕ → ℕ) (x y ordinal p : ℕ) → x ≡ y → p ≡ pins y ordinal → pins x ordinal ≡ p
pin_moved pins x y ordinal p same pin = ap (λ (z : ℕ). pins z ordinal) same ∙ sym pin

crossing_ends : (P : Point) (crossing : Crossing) → crossing_weight (at_point P) 0 crossing ≡ 2 * pin_value (is_point P) crossing
crossing_ends P (Over segment length) = omega arith
crossing_ends P (Through coupler pin near far) = omega arith

module _ (topology : TopologyView) (v : ℕ) (pins : ℕ → ℕ → ℕ) (tree : Tree) where
  legs_found : (h : Leg → ℕ) (n : ℕ) → 0 < sum_by h (legs_of topology v pins tree n)
      → (k : ℕ) × (k < n) × (0 < h (leg_of topology v pins tree k))
  legs_found h zero some = absurd (omega (arith, some))
  legs_found h (suc n) some = elim (cases_lt 0 (h (leg_of topology v pins tree n))) [
    | inl here ↦ (n, omega arith, here)
    | inr none ↦
        let (k, within, later) = legs_found h n
        (omega (arith, some, none, sum_by-cons h (leg_of topology v pins tree n) (legs_of topology v pins tree n))) in
        (k, omega (arith, within), later)
  ]

  legs_have : (h : Leg → ℕ) (k n : ℕ) → k < n → h (leg_of topology v pins tree k) ≤ sum_by h (legs_of topology v pins tree n)
  legs_have h k zero within = absurd (omega (arith, within))
  legs_have h k (suc n) within = elim (cases_eq k n) [
    | inl e ↦
        omega (
          arith,
          ap (λ m. h (leg_of topology v pins tree m)) e,
          sum_by-cons h (leg_of topology v pins tree n) (legs_of topology v pins tree n),
        )
    | inr other ↦
        omega (
          arith,
          legs_have h k n (omega (arith, within, other)),
          sum_by-cons h (leg_of topology v pins tree n) (legs_of topology v pins tree n),
        )
  ]

  -- the step that has an ordinal
  ordinal_found : (x i n : ℕ) → n ≤ length tree.steps → 1 ≤ i → i ≤ count_by (λ s. s.segment == x) (take n tree.steps)
      → (k : ℕ) × (k < length tree.steps) × ((step_at tree k).segment ≡ x) × (ordinal_of tree k ≡ i)
  ordinal_found x i zero within from to = absurd (omega (arith, from, to))
  ordinal_found x i (suc n) within from to =
      let f : Step → ℕ = λ s. one_if (s.segment == x) in
      let one_more : n + 1 ≡ suc n = omega arith in
      let moved = ap (λ m. sum_by f (take m tree.steps)) one_more in
      let more = sum_by_more f tree.steps n no_step (omega (arith, within)) in
      elim (cases_lt (sum_by f (take n tree.steps)) i) [
        | inr earlier ↦ ordinal_found x i n (omega (arith, within)) from earlier
        | inl last ↦ elim (cases_eq (step_at tree n).segment x) [
          | inr other ↦ absurd (omega (arith, last, to, moved, more, one_if-ne (step_at tree n).segment x other))
          | inl e ↦
              let counted = ap (λ (y : ℕ). count_by (λ s. s.segment == y) (take n tree.steps)) e in (
                n,
                omega (arith, within),
                e,
                omega (
                  arith,
                  last,
                  to,
                  moved,
                  more,
                  one_if-eq (step_at tree n).segment x e,
                  counted,
                  ordinal-next topology v pins tree n (omega (arith, within)),
                ),
              )
        ]
      ]

  module _ (stem : ℕ) (cavities : List ℕ) (wiring : IsWiringTree topology cavities v tree) (net : ℕ) where
    abbrev all_wires : List Wire
    all_wires =
        cut net (splice_of topology v tree) (Cavity (record { 0 = stem })) (hung_of cavities tree.hangs)
        (legs_of topology v pins tree (length tree.steps))

    ends_at_pin : (x p : ℕ) → sum_by (wire_weight (at_point (PinPoint x p)) 0) all_wires
        ≡ sum_by (λ leg. crossing_weight (at_point (PinPoint x p)) 0 leg.crossing) (legs_of topology v pins tree (length tree.steps))
    ends_at_pin x p =
        let P = PinPoint x p in
        let hung = hung_of cavities tree.hangs in
        let legs = legs_of topology v pins tree (length tree.steps) in
        let hung_below : AreHungBelow hung (length legs) =
        all_hung _ (λ h. h.point ≤ length legs) cavities tree.hangs
        (λ c h r. omega (arith, r.0, length-legs topology v pins tree (length tree.steps))) wiring.hangs in
        let all = weight-cut (at_point P) 0 net (splice_of topology v tree) (Cavity (record { 0 = stem })) hung legs
        (are_legs topology v pins tree (length tree.steps) wiring.parent) hung_below in
        let threads = sum-hung_threads _ (thread_weight (at_point P) 0) cavities tree.hangs wiring.hangs in
        let none = sum_by-zero (λ d. thread_weight (at_point P) 0 (thread_from (Cavity (record { 0 = d })))) cavities (λ d. refl) in
        let splices = sum_through-zero (λ q. spliced_weight (at_point P (splice_of topology v tree q)) (below hung legs q)) (length legs)
        (λ q within. spliced_zero (below hung legs q)) in
        omega (arith, all, threads, none, splices)

    pub pin_has_step : (x p : ℕ) (w : Wire) → Contains all_wires w → EndsAtPin w x p
        → IsTrue (is_coupler (segment_at topology x).kind)
        × ((ordinal : ℕ) × (1 ≤ ordinal) × (ordinal ≤ count_by (λ s. s.segment == x) tree.steps) × (pins x ordinal ≡ p))
    pin_has_step x p w has (side, ends) =
        let P = PinPoint x p in
        let one : 1 ≤ wire_weight (at_point P) 0 w = elim ends [
          | inl from ↦ omega (arith, end_at x p w.from side from)
          | inr to ↦ omega (arith, end_at x p w.to side to)
        ] in
        let (k, within, some) = legs_found (λ leg. crossing_weight (at_point P) 0 leg.crossing) (length tree.steps)
        (omega (arith, one, sum_has (wire_weight (at_point P) 0) all_wires w has, ends_at_pin x p)) in
        let (coupler, at) = pin_named topology v pins tree P k
        (omega (arith, some, crossing_ends P (leg_of topology v pins tree k).crossing)) in
        let y = (step_at tree k).segment in
        let parts = pin_parts x p y (pins y (ordinal_of tree k)) at in
        let same : x ≡ y = parts.0 in
        let pin : p ≡ pins y (ordinal_of tree k) = parts.1 in (
          ap (λ (z : ℕ). is_coupler (segment_at topology z).kind) same ∙ coupler,
          (
            ordinal_of tree k,
            ordinal-from topology v pins tree k within,
            subst (λ z. ordinal_of tree k ≤ count_by (λ s. s.segment == z) tree.steps) (sym same) (ordinal-within topology v pins tree k),
            pin_moved pins x y (ordinal_of tree k) p same pin,
          ),
        )

    pub step_has_pin : (x p ordinal : ℕ) → IsTrue (is_coupler (segment_at topology x).kind) → 1 ≤ ordinal
        → ordinal ≤ count_by (λ s. s.segment == x) tree.steps → pins x ordinal ≡ p
        → (w : Wire) × Contains all_wires w × EndsAtPin w x p
    step_has_pin x p ordinal coupler from to e =
        let P = PinPoint x p in
        let n = length tree.steps in
        let counted = ap (count_by (λ s. s.segment == x)) (take_all tree.steps) in
        let (k, within, same, at) = ordinal_found x ordinal n (omega arith) from (omega (arith, to, counted)) in
        let y = (step_at tree k).segment in
        let kind : is_coupler (segment_at topology y).kind ≡ true =
        ap (λ (z : ℕ). is_coupler (segment_at topology z).kind) same ∙ coupler in
        let pin : pins y (ordinal_of tree k) ≡ p =
        ap (λ (z : ℕ). pins z (ordinal_of tree k)) same ∙ (ap (pins x) at ∙ e) in
        let value : pin_value (is_point P) (leg_of topology v pins tree k).crossing ≡ 1 =
        pin_of topology v pins tree (is_point P) k
        ∙ (cond-true (is_coupler (segment_at topology y).kind) (is_point P (PinPoint y (pins y (ordinal_of tree k)))) 0 kind
        ∙ (ap (λ (z : ℕ). is_point P (PinPoint z (pins y (ordinal_of tree k)))) same
        ∙ (ap (λ (q : ℕ). is_point P (PinPoint x q)) pin ∙ one_if-true _ (same_point-refl P)))) in
        let some = legs_have (λ leg. crossing_weight (at_point P) 0 leg.crossing) k n within in
        let (w, has, weighs) = sum_found (wire_weight (at_point P) 0) all_wires
        (omega (arith, value, some, crossing_ends P (leg_of topology v pins tree k).crossing, ends_at_pin x p)) in
        elim (at_point-cases P w.from) [
          | inl here ↦ let (side, is) = pin_end x p w.from here.0 in (w, has, (side, inl is))
          | inr not_from ↦ elim (at_point-cases P w.to) [
            | inl here ↦ let (side, is) = pin_end x p w.to here.0 in (w, has, (side, inr is))
            | inr not_to ↦ absurd (omega (arith, weighs, not_from, not_to))
          ]
        ]
