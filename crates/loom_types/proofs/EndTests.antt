-- Tests for one end, for one joint and for one point, as numbers.
use Rattle.std.proofs.Common.{ℕ, Bool, true, false, ◌≡◌, ◌≤◌, ◌==◌, ◌&&◌, ◌⊎◌, inl, inr, refl, sym, ap, ◌∙◌, arith}
use Rattle.std.proofs.lemmas.Bool.{eq-eqb, eqb-true, and_parts, and_from, false≢true, cond-true}
use Rattle.loom_types.specs.declared.wire.End.{End}
use Rattle.loom_types.specs.declared.wire.End.TheVariants.{Cavity, Splice, Pin}
use Rattle.loom_types.specs.WireCost.{Point, CavityPoint, SplicePoint, PinPoint, point_of, is_same_point}
use Rattle.loom_types.specs.WireTree.{is_same_end, joint_of}
use Rattle.loom_types.proofs.Tallies.{one_if}

pub same_end-true : (e d : End) → is_same_end e d ≡ true → e ≡ d
same_end-true (Cavity c) (Cavity d) h = ap (λ (n : ℕ). Cavity (record { 0 = n })) (eqb-true c.0 d.0 h)
same_end-true (Splice v j) (Splice w k) h =
    let parts = and_parts (v.0 == w.0) (j == k) h in
    let node : v ≡ w = ap (λ (n : ℕ). record { 0 = n }) (eqb-true v.0 w.0 parts.0) in
    let ordinal : j ≡ k = eqb-true j k parts.1 in
    cc
same_end-true (Pin x p s) (Pin y q t) h =
    let parts = and_parts (x.0 == y.0 && p == q) (s == t) h in
    let front = and_parts (x.0 == y.0) (p == q) parts.0 in
    let coupler : x ≡ y = ap (λ (n : ℕ). record { 0 = n }) (eqb-true x.0 y.0 front.0) in
    let pin : p ≡ q = eqb-true p q front.1 in
    let side : s ≡ t = eqb-true s t parts.1 in
    cc
same_end-true e d h = absurd (false≢true h)

pub same_end-refl : (e : End) → is_same_end e e ≡ true
same_end-refl (Cavity c) = eq-eqb c.0 c.0 refl
same_end-refl (Splice v j) = and_from (v.0 == v.0) (j == j) (eq-eqb v.0 v.0 refl) (eq-eqb j j refl)
same_end-refl (Pin x p s) =
    and_from (x.0 == x.0 && p == p) (s == s)
    (and_from (x.0 == x.0) (p == p) (eq-eqb x.0 x.0 refl) (eq-eqb p p refl)) (eq-eqb s s refl)

pub same_point-true : (P Q : Point) → is_same_point P Q ≡ true → P ≡ Q
same_point-true (CavityPoint c) (CavityPoint d) h = ap CavityPoint (eqb-true c d h)
same_point-true (SplicePoint v j) (SplicePoint w k) h =
    let parts = and_parts (v == w) (j == k) h in
    let node : v ≡ w = eqb-true v w parts.0 in
    let ordinal : j ≡ k = eqb-true j k parts.1 in
    cc
same_point-true (PinPoint x p) (PinPoint y q) h =
    let parts = and_parts (x == y) (p == q) h in
    let coupler : x ≡ y = eqb-true x y parts.0 in
    let pin : p ≡ q = eqb-true p q parts.1 in
    cc
same_point-true P Q h = absurd (false≢true h)

pub same_point-refl : (P : Point) → is_same_point P P ≡ true
same_point-refl (CavityPoint c) = eq-eqb c c refl
same_point-refl (SplicePoint v j) = and_from (v == v) (j == j) (eq-eqb v v refl) (eq-eqb j j refl)
same_point-refl (PinPoint x p) = and_from (x == x) (p == p) (eq-eqb x x refl) (eq-eqb p p refl)

point-joint : (e : End) → point_of (joint_of e) ≡ point_of e
point-joint (Cavity c) = refl
point-joint (Splice v j) = refl
point-joint (Pin x p s) = refl

pub point_from_joint : (e d : End) → joint_of e ≡ joint_of d → point_of e ≡ point_of d
point_from_joint e d same = sym (point-joint e) ∙ (ap point_of same ∙ point-joint d)

-- one, where the end has the joint, or lies at the point
abbrev pub at_joint : End → End → ℕ
at_joint joint e = one_if (is_same_end joint (joint_of e))

abbrev pub at_point : Point → End → ℕ
at_point P e = one_if (is_same_point P (point_of e))

pub one_if-true : (b : Bool) → b ≡ true → one_if b ≡ 1
one_if-true b e = cond-true b 1 0 e

pub one_if-cases : (b : Bool) → ((b ≡ true) × (one_if b ≡ 1)) ⊎ ((b ≡ false) × (one_if b ≡ 0))
one_if-cases true = inl (refl, refl)
one_if-cases false = inr (refl, refl)

pub at_joint-here : (e : End) → at_joint (joint_of e) e ≡ 1
at_joint-here e = one_if-true (is_same_end (joint_of e) (joint_of e)) (same_end-refl (joint_of e))

pub at_point-here : (e : End) → at_point (point_of e) e ≡ 1
at_point-here e = one_if-true (is_same_point (point_of e) (point_of e)) (same_point-refl (point_of e))

pub at_joint-cases : (j e : End) → ((j ≡ joint_of e) × (at_joint j e ≡ 1)) ⊎ (at_joint j e ≡ 0)
at_joint-cases j e = elim (one_if-cases (is_same_end j (joint_of e))) [
  | inl here ↦ inl (same_end-true j (joint_of e) here.0, here.1)
  | inr other ↦ inr other.1
]

pub at_point-cases : (P : Point) (e : End) → ((P ≡ point_of e) × (at_point P e ≡ 1)) ⊎ (at_point P e ≡ 0)
at_point-cases P e = elim (one_if-cases (is_same_point P (point_of e))) [
  | inl here ↦ inl (same_point-true P (point_of e) here.0, here.1)
  | inr other ↦ inr other.1
]

pub at_point-le : (P : Point) (e : End) → at_point P e ≤ 1
at_point-le P e = elim (at_point-cases P e) [ inl here ↦ omega (arith, here.1) | inr none ↦ omega (arith, none) ]

-- ends of one joint lie at one point
pub at_joint-le : (p e : End) → at_joint (joint_of p) e ≤ at_point (point_of p) e
at_joint-le p e = elim (at_joint-cases (joint_of p) e) [
  | inl here ↦
      let same : is_same_point (point_of p) (point_of e) ≡ true =
      ap (is_same_point (point_of p)) (sym (point_from_joint p e here.0)) ∙ same_point-refl (point_of p) in
      omega (arith, here.1, one_if-true (is_same_point (point_of p) (point_of e)) same)
  | inr none ↦ omega (arith, none)
]
