-- Two steps of a layout through one pin make two of its wires end at the pin's side 1.
use Rattle.std.proofs.Common.{ℕ, zero, suc, List, [], ◌∷◌, Bool, true, false, length, map, take, ◌≡◌, ◌+◌, ◌<◌, ◌≤◌, ◌==◌, ◌&&◌, inl, inr, refl, ap, ◌∙◌, sum_by, count_by, arith}
use Rattle.std.specs.Bool.{IsTrue}
use Rattle.std.specs.Prelude.{IsPermutation}
use Rattle.std.proofs.lemmas.Bool.{cases_lt, cases_eq, cases_order, cond-true}
use Rattle.std.proofs.lemmas.List.Sorted.{sum_by-IsPermutation}
use Rattle.std.proofs.lemmas.List.Sums.{sum_by-cons, sum_by_more}
use Rattle.loom_topology.proofs.Sums.{sum_by-map}
use Rattle.loom_topology.specs.Legal.{cavities_of_mask}
use Rattle.loom_topology.specs.Topology.{TopologyView, segment_at, is_coupler}
use Rattle.loom_topology.specs.WiringTree.{Step, Tree, IsWiringTree, no_step, step_at}
use Rattle.loom_types.specs.declared.layout.Layout.{Layout}
use Rattle.loom_types.specs.declared.wire.End.{End}
use Rattle.loom_types.specs.declared.wire.End.TheVariants.{Cavity}
use Rattle.loom_types.specs.declared.wire.Wire.{Wire}
use Rattle.loom_types.specs.Laws.{set_wires}
use Rattle.loom_types.specs.LayoutTree.{IsLaidOut, step_of, tree_of}
use Rattle.loom_types.specs.LayoutWires.{Hung, Crossing, Over, Through, Leg, bare, pin_side, splice_of, ordinal_of, leg_of, legs_of, hung_of, cut}
use Rattle.loom_types.specs.SetMask.{rest_of, stem_cavity, stem_node}
use Rattle.loom_types.specs.Slots.{steps_over}
use Rattle.loom_types.specs.WireCost.{PinPoint}
use Rattle.loom_types.specs.WireTree.{ends_of, ends_at}
use Rattle.loom_types.proofs.Tallies.{one_if, one_if-eq, one_if-ne, HasSides, AreHungBelow}
use Rattle.loom_types.proofs.CutGrowth.{pin_value, is_point, met-wires}
use Rattle.loom_types.proofs.CutWeights.{wire_weight, crossing_weight, weight-cut}
use Rattle.loom_types.proofs.EndTests.{one_if-true, same_point-refl}
use Rattle.loom_types.proofs.TreeForms.{at_end, ends-met}
use Rattle.loom_types.proofs.TreeLegs.{length-legs, are_legs, leg_sides, all_hung, take_all}
use Rattle.loom_types.proofs.TreeNames.{pin_of, ordinal-next}

-- a pin's two sides, of which a step has each once
one_side : (A : Bool) → one_if (A && true) + one_if (A && false) ≡ one_if A
one_side true = refl
one_side false = refl

crossing_first : (x r : ℕ) (crossing : Crossing) → HasSides crossing
    → crossing_weight (at_end (pin_side x r 1)) 0 crossing ≡ pin_value (is_point (PinPoint x r)) crossing
crossing_first x r (Over segment length) sides = omega arith
crossing_first x r (Through y q near far) (inl (e, f)) =
    let A = x == y && r == q in
    omega (arith, one_side A, ap (λ (n : ℕ). one_if (A && 1 == n)) e, ap (λ (n : ℕ). one_if (A && 1 == n)) f)
crossing_first x r (Through y q near far) (inr (e, f)) =
    let A = x == y && r == q in
    omega (arith, one_side A, ap (λ (n : ℕ). one_if (A && 1 == n)) e, ap (λ (n : ℕ). one_if (A && 1 == n)) f)

module _ (topology : TopologyView) (v : ℕ) (pins : ℕ → ℕ → ℕ) (tree : Tree) where
  leg_counts : (h : Leg → ℕ) (k n : ℕ) → k < n → h (leg_of topology v pins tree k) ≤ sum_by h (legs_of topology v pins tree n)
  leg_counts h k zero within = absurd (omega (arith, within))
  leg_counts h k (suc n) within =
      let more = sum_by-cons h (leg_of topology v pins tree n) (legs_of topology v pins tree n) in
      elim (cases_eq k n) [
        | inl e ↦ omega (arith, ap (λ m. h (leg_of topology v pins tree m)) e, more)
        | inr other ↦ omega (arith, leg_counts h k n (omega (arith, within, other)), more)
      ]

  two_legs_count : (h : Leg → ℕ) (j k n : ℕ) → j < k → k < n
      → h (leg_of topology v pins tree j) + h (leg_of topology v pins tree k) ≤ sum_by h (legs_of topology v pins tree n)
  two_legs_count h j k zero less within = absurd (omega (arith, within))
  two_legs_count h j k (suc n) less within =
      let more = sum_by-cons h (leg_of topology v pins tree n) (legs_of topology v pins tree n) in
      elim (cases_eq k n) [
        | inl e ↦
            omega (arith, leg_counts h j n (omega (arith, less, e)), ap (λ m. h (leg_of topology v pins tree m)) e, more)
        | inr other ↦ omega (arith, two_legs_count h j k n less (omega (arith, within, other)), more)
      ]

  -- the step that has an ordinal
  ordinal_found : (x i n : ℕ) → n ≤ length tree.steps → 1 ≤ i → i ≤ count_by (λ s. s.segment == x) (take n tree.steps)
      → (k : ℕ) × (k < length tree.steps) × ((step_at tree k).segment ≡ x) × (ordinal_of tree k ≡ i)
  ordinal_found x i zero within from to = absurd (omega (arith, from, to))
  ordinal_found x i (suc n) within from to =
      let f : Step → ℕ = λ s. one_if (s.segment == x) in
      let one_more : n + 1 ≡ suc n = omega arith in
      let moved = ap (λ m. sum_by f (take m tree.steps)) one_more in
      let more = sum_by_more f tree.steps n no_step (omega (arith, within)) in
      elim (cases_lt (sum_by f (take n tree.steps)) i) [
        | inr earlier ↦ ordinal_found x i n (omega (arith, within)) from earlier
        | inl last ↦ elim (cases_eq (step_at tree n).segment x) [
          | inr other ↦ absurd (omega (arith, last, to, moved, more, one_if-ne (step_at tree n).segment x other))
          | inl e ↦
              let counted = ap (λ (y : ℕ). count_by (λ s. s.segment == y) (take n tree.steps)) e in (
                n,
                omega (arith, within),
                e,
                omega (
                  arith,
                  last,
                  to,
                  moved,
                  more,
                  one_if-eq (step_at tree n).segment x e,
                  counted,
                  ordinal-next topology v pins tree n (omega (arith, within)),
                ),
              )
        ]
      ]

  -- a step through the pin counts once at its side 1
  counts_at : (x p k : ℕ) → IsTrue (is_coupler (segment_at topology x).kind) → (step_at tree k).segment ≡ x
      → pins x (ordinal_of tree k) ≡ p → crossing_weight (at_end (pin_side x p 1)) 0 (leg_of topology v pins tree k).crossing ≡ 1
  counts_at x p k coupler same at =
      let P = PinPoint x p in
      let y = (step_at tree k).segment in
      let kind : is_coupler (segment_at topology y).kind ≡ true =
      ap (λ (z : ℕ). is_coupler (segment_at topology z).kind) same ∙ coupler in
      let pin : pins y (ordinal_of tree k) ≡ p = ap (λ (z : ℕ). pins z (ordinal_of tree k)) same ∙ at in
      crossing_first x p (leg_of topology v pins tree k).crossing (leg_sides topology v pins tree k)
      ∙ (pin_of topology v pins tree (is_point P) k
      ∙ (cond-true (is_coupler (segment_at topology y).kind) (is_point P (PinPoint y (pins y (ordinal_of tree k)))) 0 kind
      ∙ (ap (λ (z : ℕ). is_point P (PinPoint z (pins y (ordinal_of tree k)))) same
      ∙ (ap (λ (q : ℕ). is_point P (PinPoint x q)) pin ∙ one_if-true _ (same_point-refl P)))))

  module _ (x p one other : ℕ) (coupler : IsTrue (is_coupler (segment_at topology x).kind)) (from : 1 ≤ one) (less : one < other)
      (to : other ≤ count_by (λ s. s.segment == x) tree.steps) (pin_one : pins x one ≡ p) (pin_other : pins x other ≡ p) where
    abbrev weight : Leg → ℕ
    weight leg = crossing_weight (at_end (pin_side x p 1)) 0 leg.crossing

    two_crossings : 2 ≤ sum_by weight (legs_of topology v pins tree (length tree.steps))
    two_crossings =
        let n = length tree.steps in
        let counted = ap (count_by (λ s. s.segment == x)) (take_all tree.steps) in
        let (j, j_in, j_same, j_at) = ordinal_found x one n (omega arith) from (omega (arith, less, to, counted)) in
        let (k, k_in, k_same, k_at) = ordinal_found x other n (omega arith) (omega (arith, from, less)) (omega (arith, to, counted)) in
        let first = counts_at x p j coupler j_same (ap (pins x) j_at ∙ pin_one) in
        let second = counts_at x p k coupler k_same (ap (pins x) k_at ∙ pin_other) in
        elim (cases_order j k) [
          | inl e ↦ absurd (omega (arith, less, j_at, k_at, ap (λ (m : ℕ). ordinal_of tree m) e))
          | inr (inl before) ↦ omega (arith, first, second, two_legs_count weight j k n before k_in)
          | inr (inr behind) ↦ omega (arith, first, second, two_legs_count weight k j n behind j_in)
        ]

    pub two_ends : (stem : ℕ) (cavities : List ℕ) → IsWiringTree topology cavities v tree → (net : ℕ)
        → 2 ≤ ends_at (map ends_of (cut net (splice_of topology v tree) (Cavity (record { 0 = stem })) (hung_of cavities tree.hangs)
        (legs_of topology v pins tree (length tree.steps)))) (pin_side x p 1)
    two_ends stem cavities wiring net =
        let hung : List Hung = hung_of cavities tree.hangs in
        let legs : List Leg = legs_of topology v pins tree (length tree.steps) in
        let stem_end : End = Cavity (record { 0 = stem }) in
        let wires : List Wire = cut net (splice_of topology v tree) stem_end hung legs in
        let hung_below : AreHungBelow hung (length legs) =
        all_hung _ (λ h. h.point ≤ length legs) cavities tree.hangs
        (λ c h r. omega (arith, r.0, length-legs topology v pins tree (length tree.steps))) wiring.hangs in
        let all = weight-cut (at_end (pin_side x p 1)) 0 net (splice_of topology v tree) stem_end hung legs
        (are_legs topology v pins tree (length tree.steps) wiring.parent) hung_below in
        omega (arith, ends-met (map ends_of wires) (pin_side x p 1), met-wires (at_end (pin_side x p 1)) wires, all, two_crossings)

ends-bare : (wires : List Wire) → map ends_of (map bare wires) ≡ map ends_of wires
ends-bare [] = refl
ends-bare (w ∷ wires) = ap (λ l. ends_of w ∷ l) (ends-bare wires)

-- two steps of a layout through one pin make two ends at its side 1, in whichever order its wires stand, and whatever their rows
pub two_ends_at : (topology : TopologyView) (net : ℕ) (pins : ℕ → ℕ → ℕ) (terminals : List ℕ) (mask : ℕ) (layout : Layout) (wires : List Wire)
    → IsLaidOut topology terminals mask layout → IsPermutation (set_wires topology net pins terminals mask layout) (map bare wires)
    → (coupler pin one other : ℕ) → IsTrue (is_coupler (segment_at topology coupler).kind) → 1 ≤ one → one < other
    → other ≤ steps_over layout coupler → pins coupler one ≡ pin → pins coupler other ≡ pin
    → 2 ≤ ends_at (map ends_of wires) (pin_side coupler pin 1)
two_ends_at topology net pins terminals mask layout wires laid same coupler pin one other kind from less to pin_one pin_other =
    let e : End = pin_side coupler pin 1 in
    let own : List Wire = set_wires topology net pins terminals mask layout in
    let over : count_by (λ s. s.segment == coupler) (tree_of layout).steps ≡ steps_over layout coupler =
    sum_by-map (λ s. one_if (s.segment == coupler)) step_of layout.steps in
    let two = two_ends topology (stem_node topology terminals mask) pins (tree_of layout) coupler pin one other kind from less
    (omega (arith, to, over)) pin_one pin_other (stem_cavity terminals mask) (cavities_of_mask terminals (rest_of mask)) laid.tree net in
    let moved = sum_by-IsPermutation (wire_weight (at_end e) 0) own (map bare wires) same in
    let rowless = ap (λ ws. ends_at ws e) (ends-bare wires) in
    omega (
      arith,
      two,
      moved,
      rowless,
      ends-met (map ends_of own) e,
      met-wires (at_end e) own,
      ends-met (map ends_of (map bare wires)) e,
      met-wires (at_end e) (map bare wires),
    )
