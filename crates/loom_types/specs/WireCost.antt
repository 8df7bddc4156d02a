use Rattle.std.specs.Prelude.{ℕ, List, [], ◌∷◌, Bool, false, ◌+◌, ◌-◌, ◌*◌, ◌==◌, ◌&&◌, sum_by, count_by, if◌then◌else◌}
use Rattle.std.specs.List.{flat_map, list_any}
use Rattle.loom_topology.specs.Topology.{TopologyView, branch_at, price_at}
use Rattle.loom_types.specs.declared.wire.End.{End}
use Rattle.loom_types.specs.declared.wire.End.TheVariants.{Cavity, Splice, Pin}
use Rattle.loom_types.specs.declared.wire.Wire.{Wire}

-- where wires of one net end: the two sides of a pin are one point
pub data Point : Type 0 where
  CavityPoint : (cavity : ℕ) → Point
  SplicePoint : (node ordinal : ℕ) → Point
  PinPoint : (coupler pin : ℕ) → Point

abbrev pub point_of : End → Point
point_of (Cavity cavity) = CavityPoint cavity.0
point_of (Splice node ordinal) = SplicePoint node.0 ordinal
point_of (Pin coupler pin side) = PinPoint coupler.0 pin

abbrev pub is_same_point : Point → Point → Bool
is_same_point (CavityPoint a) (CavityPoint b) = a == b
is_same_point (SplicePoint v j) (SplicePoint w k) = v == w && j == k
is_same_point (PinPoint x p) (PinPoint y q) = x == y && p == q
is_same_point p q = false

-- the points at which wires end, one for each end
abbrev pub points_of : List Wire → List Point
points_of wires = flat_map (λ w. point_of w.from ∷ point_of w.to ∷ []) wires

-- the points, each once
abbrev pub distinct_points : List Point → List Point
distinct_points [] = []
distinct_points (p ∷ ps) = if list_any (is_same_point p) ps then distinct_points ps else p ∷ distinct_points ps

-- what a point costs: a pin its coupler's price, a splice the branch cost for each end past the second
abbrev pub point_cost : TopologyView → List Point → Point → ℕ
point_cost topology ends (CavityPoint cavity) = 0
point_cost topology ends (SplicePoint node ordinal) =
    (count_by (is_same_point (SplicePoint node ordinal)) ends - 2) * branch_at topology node
point_cost topology ends (PinPoint coupler pin) = price_at topology coupler

-- the cost of wires of one net: the sum of their lengths, each pin's coupler once, and each splice
abbrev pub wires_cost : TopologyView → List Wire → ℕ
wires_cost topology wires =
    sum_by (λ w. w.length) wires + sum_by (point_cost topology (points_of wires)) (distinct_points (points_of wires))
