-- Steps over the open segments at a node, which rise.
use Rattle.std.proofs.Common.{◌≡◌, ℕ, zero, suc, ◌+◌, ◌-◌, ◌<◌, ◌≤◌, List, Option, length, map, get_or, true, sym, ◌∙◌, ap, subst, inl, inr, arith}
use Rattle.std.specs.List.Sorted.{IsStrictlyIncreasing}
use Rattle.std.proofs.lemmas.Bool.{cases_lt}
use Rattle.std.proofs.lemmas.List.{get_or-map, length-map}
use Rattle.loom_base.specs.declared.positions.SegmentNo.{SegmentNo}
use Rattle.loom_topology.specs.Topology.{TopologyView, segment_at, is_open_to, open_at}
use Rattle.loom_topology.specs.Ties.{StepsTo}
use Rattle.loom_topology.proofs.Leads.{open_among-below, open_among-passes, open_among-rising, Contains-from_Leads}
use Rattle.loom_layout.specs.Rule.{IsLowestStep}

-- in a list that rises a later number is no less
rises : (xs : List ℕ) → IsStrictlyIncreasing xs → (i d : ℕ) → i + d < length xs → get_or xs i 0 ≤ get_or xs (i + d) 0
rises xs rising i zero h =
    let e : get_or xs i 0 ≡ get_or xs (i + 0) 0 = ap (λ k. get_or xs k 0) (let z : i ≡ i + 0 = omega arith in z) in
    omega (arith, e)
rises xs rising i (suc d) h =
    let before = rises xs rising i d (omega arith) in
    let step : get_or xs (i + d) 0 < get_or xs (i + d + 1) 0 = rising (i + d) (omega arith) in
    let e : get_or xs (i + d + 1) 0 ≡ get_or xs (i + suc d) 0 = ap (λ k. get_or xs k 0) (let z : i + d + 1 ≡ i + suc d = omega arith in z) in
    omega (arith, before, step, e)

module _ (topology : TopologyView) (v : ℕ) (items : List SegmentNo) (listed : map (λ s. s.0) items ≡ open_at topology v) where
  -- the k-th segment at the node
  number_at : (k e : ℕ) (d : SegmentNo) → k < length items → get_or (open_at topology v) k e ≡ (get_or items k d).0
  number_at k e d h = ap (λ xs. get_or xs k e) (sym listed) ∙ get_or-map (λ s. s.0) items k d e h

  count : length items ≡ length (open_at topology v)
  count = sym (length-map items (λ (s : SegmentNo). s.0)) ∙ ap length listed

  within : (k : ℕ) → k < length items → k < length (open_at topology v)
  within k h = omega (arith, h, count)

  pub item_below : (k : ℕ) (d : SegmentNo) → k < length items → (get_or items k d).0 < length topology.segments
  item_below k d h =
      subst (λ (s : ℕ). s < length topology.segments) (number_at k 0 d h) (open_among-below topology.segments v k 0 (within k h))

  pub item_opens : (k : ℕ) (d : SegmentNo) → k < length items → is_open_to (segment_at topology (get_or items k d).0) v ≡ true
  item_opens k d h =
      subst (λ (s : ℕ). is_open_to (segment_at topology s) v ≡ true) (number_at k 0 d h) (open_among-passes topology.segments v k 0 (within k h))

  module _ (least : ℕ → ℕ → Option ℕ) (mask i : ℕ) (d : SegmentNo)
      (none : (k : ℕ) → k < i → (u : ℕ) → StepsTo topology least mask v (get_or items k d).0 u → ⊥) where
    -- a step goes over some segment at the node, and no earlier one than the i-th
    place_of_step : (s w : ℕ) → StepsTo topology least mask v s w → (j : ℕ) × (j < length items) × (i ≤ j) × ((get_or items j d).0 ≡ s)
    place_of_step s w steps =
        let (j, below, found) = Contains-from_Leads topology s v w steps.0 in
        let h : j < length items = omega (arith, below, count) in
        let e : (get_or items j d).0 ≡ s = sym (number_at j s d h) ∙ found in
        elim (cases_lt j i) [
          | inl before ↦ absurd (none j before w (subst (λ (k : ℕ). StepsTo topology least mask v k w) (sym e) steps))
          | inr after ↦ (j, h, after, e)
        ]

    -- where none of the segments at the node leads along a least way, no segment does
    pub no_step : length items ≤ i → (s w : ℕ) → StepsTo topology least mask v s w → ⊥
    no_step all s w steps = let p = place_of_step s w steps in absurd (omega (arith, all, p.1, p.2))

    -- the first that leads along a least way is the lowest
    pub lowest_step : (u : ℕ) → i < length items → StepsTo topology least mask v (get_or items i d).0 u
        → IsLowestStep topology least mask v (get_or items i d).0 u
    lowest_step u here steps = record {
      steps = steps;
      lowest = record {
        holds = (u, steps);
        least = λ s other.
            let p = place_of_step s other.0 other.1 in
            let order = rises (open_at topology v) (open_among-rising topology.segments v) i (p.0 - i)
            (omega (arith, within p.0 p.1, p.2)) in
            let e : get_or (open_at topology v) (i + (p.0 - i)) 0 ≡ get_or (open_at topology v) p.0 0 =
            ap (λ k. get_or (open_at topology v) k 0) (let z : i + (p.0 - i) ≡ p.0 = omega (arith, p.2) in z) in
            omega (arith, order, e, number_at i 0 d here, number_at p.0 0 d p.1, p.3);
      };
    }
