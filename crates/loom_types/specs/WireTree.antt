use Rattle.std.specs.Prelude.{ℕ, List, [], ◌∷◌, Bool, false, ◌≡◌, ◌<◌, ◌≤◌, ◌==◌, ◌&&◌, Contains, count_by, if◌then◌else◌}
use Rattle.std.specs.List.{flat_map}
use Rattle.loom_types.specs.declared.wire.End.{End}
use Rattle.loom_types.specs.declared.wire.End.TheVariants.{Cavity, Splice, Pin}
use Rattle.loom_types.specs.declared.wire.Wire.{Wire}
use Rattle.loom_types.specs.Joined.{Chain}

-- the two ends of a wire, which are all that a tree is about
abbrev pub ends_of : Wire → End × End
ends_of w = (w.from, w.to)

abbrev pub is_same_end : End → End → Bool
is_same_end (Cavity c) (Cavity d) = c.0 == d.0
is_same_end (Splice v j) (Splice w k) = v.0 == w.0 && j == k
is_same_end (Pin x p s) (Pin y q t) = x.0 == y.0 && p == q && s == t
is_same_end e f = false

-- how many wires end there
abbrev pub ends_at : List (End × End) → End → ℕ
ends_at ws e = count_by (is_same_end e) (flat_map (λ w. w.0 ∷ w.1 ∷ []) ws)

abbrev pub HasEnd : List (End × End) → End → Type 0
HasEnd ws e = 0 < ends_at ws e

-- the point of a tree at which an end lies: sides 1 and 2 of a pin are one point, and a side of another number is one by itself
abbrev pub joint_of : End → End
joint_of (Cavity cavity) = Cavity cavity
joint_of (Splice node ordinal) = Splice node ordinal
joint_of (Pin coupler pin side) = Pin coupler pin (if side == 2 then 1 else side)

-- a wire, either way round, between the points of its ends
pub data Edge (ws : List (End × End)) : End → End → Type 0 where
  forth : (w : End × End) → Contains ws w → Edge ws (joint_of w.0) (joint_of w.1)
  back : (w : End × End) → Contains ws w → Edge ws (joint_of w.1) (joint_of w.0)

abbrev pub Reaches : List (End × End) → End → End → Type 0
Reaches ws p q = Chain (Edge ws) p q

-- laid one after another, from the last to the first, each wire joins two points that those before it don't join
abbrev pub HasNoCycle : List (End × End) → Type 0
HasNoCycle [] = Unit {0}
HasNoCycle (w ∷ ws) = (Reaches ws (joint_of w.0) (joint_of w.1) → ⊥) × HasNoCycle ws

-- wires form one tree whose leaves are these cavities: they are connected, without a cycle; one of them ends at each of the cavities and
-- none at another; at least three end at each splice; and where one ends at a pin, one ends at side 1 and one at side 2
pub record FormsTree (cavities : List ℕ) (ws : List (End × End)) : Type 0 where
  pub connected : (e f : End) → HasEnd ws e → HasEnd ws f → Reaches ws (joint_of e) (joint_of f)
  pub no_cycle : HasNoCycle ws
  pub cavity : (c : ℕ) → Contains cavities c → ends_at ws (Cavity (record { 0 = c })) ≡ 1
  pub no_other_cavity : (c : ℕ) → HasEnd ws (Cavity (record { 0 = c })) → Contains cavities c
  pub splice : (node ordinal : ℕ) → HasEnd ws (Splice (record { 0 = node }) ordinal) → 3 ≤ ends_at ws (Splice (record { 0 = node }) ordinal)
  pub pin : (coupler pin side : ℕ) → HasEnd ws (Pin (record { 0 = coupler }) pin side)
      → (ends_at ws (Pin (record { 0 = coupler }) pin 1) ≡ 1) × (ends_at ws (Pin (record { 0 = coupler }) pin 2) ≡ 1)
