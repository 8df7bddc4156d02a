-- Wires cost the same in any order, and whatever their rows are.
use Rattle.std.proofs.Common.{◌≡◌, inl, inr, ℕ, ◌+◌, ◌-◌, ◌*◌, ◌||◌, Bool, true, false, cond, List, [], ◌∷◌, map, refl, sym, ap, ap₂, ◌∙◌, arith, sum_by}
use Rattle.std.specs.List.{list_any}
use Rattle.std.proofs.lemmas.Bool.{cases_Bool, false_from_ne_true, both_ways}
use Rattle.std.proofs.lemmas.List.Sums.{sum_by-cons}
use Rattle.loom_topology.specs.Topology.{TopologyView, branch_at}
use Rattle.loom_topology.proofs.Sums.{sum_by-map}
use Rattle.loom_types.specs.declared.wire.Wire.{Wire}
use Rattle.loom_types.specs.LayoutWires.{bare}
use Rattle.loom_types.specs.WireCost.{Point, CavityPoint, SplicePoint, PinPoint, point_of, is_same_point, points_of, distinct_points, point_cost, wires_cost}
use Rattle.loom_types.proofs.EndTests.{same_point-true, same_point-refl}
use Rattle.loom_plan.proofs.Reorder.{Reordered, nothing, keep, turn, then, sum-reordered, any-reordered, twos-reordered}

module _ (g : Point → ℕ) where
  -- what a point adds to those behind it
  adds : Point → List Point → ℕ
  adds p ps = cond (list_any (is_same_point p) ps) 0 (g p)

  distinct-next : (p : Point) (ps : List Point) → sum_by g (distinct_points (p ∷ ps)) ≡ adds p ps + sum_by g (distinct_points ps)
  unfolding adds
  distinct-next p ps =
      elim (list_any (is_same_point p) ps)
      as (λ (b : Bool). sum_by g (cond b (distinct_points ps) (p ∷ distinct_points ps)) ≡ cond b 0 (g p) + sum_by g (distinct_points ps))
      [ true ↦ omega arith | false ↦ sum_by-cons g p (distinct_points ps) ]

  adds-reordered : (p : Point) {ps qs : List Point} → Reordered ps qs → adds p ps ≡ adds p qs
  unfolding adds
  adds-reordered p r = ap (λ (b : Bool). cond b 0 (g p)) (any-reordered (is_same_point p) r)

  adds-past : (p q : Point) (ps : List Point) → is_same_point p q ≡ false → adds p (q ∷ ps) ≡ adds p ps
  unfolding adds
  adds-past p q ps other = ap (λ (b : Bool). cond (b || list_any (is_same_point p) ps) 0 (g p)) other

  distinct-turned : (p q : Point) (ps : List Point)
      → sum_by g (distinct_points (p ∷ q ∷ ps)) ≡ sum_by g (distinct_points (q ∷ p ∷ ps))
  distinct-turned p q ps = elim (cases_Bool (is_same_point p q)) [
    | inl same ↦
        let e = same_point-true p q same in
        ap₂ (λ (a b : Point). sum_by g (distinct_points (a ∷ b ∷ ps))) e (sym e)
    | inr other ↦
        let turned : is_same_point q p ≡ false = false_from_ne_true (is_same_point q p) (λ same.
        let e = same_point-true q p same in
        both_ways (is_same_point p q) other (ap (is_same_point p) e ∙ same_point-refl p)) in
        omega (
          arith,
          distinct-next p (q ∷ ps),
          distinct-next q ps,
          distinct-next q (p ∷ ps),
          distinct-next p ps,
          adds-past p q ps other,
          adds-past q p ps turned,
        )
  ]

  distinct-reordered : {ps qs : List Point} → Reordered ps qs → sum_by g (distinct_points ps) ≡ sum_by g (distinct_points qs)
  distinct-reordered nothing = refl
  distinct-reordered (keep {xs = us} {ys = vs} p r) =
      let rest = distinct-reordered r in
      let same = adds-reordered p r in
      omega (arith, distinct-next p us, distinct-next p vs, rest, same)
  distinct-reordered (turn {xs = us} p q) = distinct-turned p q us
  distinct-reordered (then r s) = distinct-reordered r ∙ distinct-reordered s

point_cost-reordered : (topology : TopologyView) {ps qs : List Point} → Reordered ps qs → (p : Point)
    → point_cost topology ps p ≡ point_cost topology qs p
point_cost-reordered topology r (CavityPoint cavity) = refl
point_cost-reordered topology r (SplicePoint node ordinal) =
    ap (λ (n : ℕ). (n - 2) * branch_at topology node) (sum-reordered (λ q. cond (is_same_point (SplicePoint node ordinal) q) 1 0) r)
point_cost-reordered topology r (PinPoint coupler pin) = refl

-- what points cost
abbrev points_cost : TopologyView → List Point → ℕ
points_cost topology ps = sum_by (point_cost topology ps) (distinct_points ps)

points_cost-reordered : (topology : TopologyView) {ps qs : List Point} → Reordered ps qs → points_cost topology ps ≡ points_cost topology qs
points_cost-reordered topology {ps = ps} {qs = qs} r =
    distinct-reordered (point_cost topology ps) r
    ∙ ap (λ (g : Point → ℕ). sum_by g (distinct_points qs)) (λ i p. point_cost-reordered topology r p i)

pub cost-reordered : (topology : TopologyView) {ws vs : List Wire} → Reordered ws vs → wires_cost topology ws ≡ wires_cost topology vs
cost-reordered topology r =
    ap₂ (λ (a b : ℕ). a + b) (sum-reordered (λ (w : Wire). w.length) r)
    (points_cost-reordered topology (twos-reordered (λ (w : Wire). point_of w.from) (λ (w : Wire). point_of w.to) r))

points-bare : (ws : List Wire) → points_of (map bare ws) ≡ points_of ws
points-bare [] = refl
points-bare (w ∷ ws) = ap (λ (ps : List Point). point_of w.from ∷ point_of w.to ∷ ps) (points-bare ws)

pub cost-bare : (topology : TopologyView) (ws : List Wire) → wires_cost topology (map bare ws) ≡ wires_cost topology ws
cost-bare topology ws =
    ap₂ (λ (a b : ℕ). a + b) (sum_by-map (λ (w : Wire). w.length) bare ws) (ap (points_cost topology) (points-bare ws))
