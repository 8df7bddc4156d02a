-- Two lists of wires in strict order with the same members are equal.
use Rattle.std.proofs.Common.{◌≡◌, suc, ◌≤◌, inl, inr, List, [], ◌∷◌, length, refl, sym, subst, ◌∙◌, arith}
use Rattle.std.specs.List.{AllPairs, Contains}
use Rattle.std.proofs.lemmas.Cmp.{tied_itself}
use Rattle.loom_base.proofs.Contained.{Contains-here, Contains-cons, Contains-cases}
use Rattle.loom_topology.specs.Topology.{TopologyView}
use Rattle.loom_types.specs.declared.plan.PinLine.{PinLine}
use Rattle.loom_types.specs.declared.wire.Wire.{Wire}
use Rattle.loom_types.specs.WireOrder.{IsWireBefore}
use Rattle.loom_wires.specs.declared.laid_set.LaidSet.{LaidSet}
use Rattle.loom_wires.specs.Wires.{AreWires}
use Rattle.loom_wires.specs.WireTotals.{wire_cmp_total}

-- each wire stands before all later ones
abbrev pub Rise : List Wire → Type 0
Rise [] = Unit {0}
Rise (w ∷ ws) = ((v : Wire) → Contains ws v → IsWireBefore w v) × Rise ws

pub rise-from_pairs : (ws : List Wire) → AllPairs IsWireBefore ws → Rise ws
rise-from_pairs [] h = tt
rise-from_pairs (w ∷ ws) h = (
  λ v listed. subst (IsWireBefore w) listed.2 (h 0 (suc listed.0) v (omega arith) (omega (arith, listed.1))),
  rise-from_pairs ws (λ i j d before within. h (suc i) (suc j) d (omega arith) (omega arith)),
)

not_itself : (w : Wire) → IsWireBefore w w → ⊥
not_itself w before = let tied = tied_itself wire_cmp_total w in absurd (cc)

not_both : (w v : Wire) → IsWireBefore w v → IsWireBefore v w → ⊥
not_both w v one other = not_itself w (wire_cmp_total.trans w v w one other)

-- the first wires are equal
same_first : (x y : Wire) (xs ys : List Wire) → Rise (x ∷ xs) → Rise (y ∷ ys) → Contains (y ∷ ys) x → Contains (x ∷ xs) y → x ≡ y
same_first x y xs ys rises others to from = elim (Contains-cases x y ys to) [
  | inl same ↦ sym same
  | inr later ↦ elim (Contains-cases y x xs from) [
    | inl same ↦ same
    | inr behind ↦ absurd (not_both x y (rises.0 y behind) (others.0 x later))
  ]
]

-- what stands behind the first wire of a list stands behind that of the other
behind_first : (x y : Wire) (xs ys : List Wire) → x ≡ y → Rise (x ∷ xs) → ((w : Wire) → Contains (x ∷ xs) w → Contains (y ∷ ys) w) → (w : Wire) → Contains xs w → Contains ys w
behind_first x y xs ys same rises to w listed = elim (Contains-cases w y ys (to w (Contains-cons w x xs listed))) [
  | inl first ↦ absurd (not_itself w (subst (λ v. IsWireBefore v w) (same ∙ first) (rises.0 w listed)))
  | inr later ↦ later
]

none_listed : (w : Wire) → Contains [] w → ⊥
none_listed w listed = absurd (omega (arith, listed.1))

pub same_members : (xs ys : List Wire) → Rise xs → Rise ys → ((w : Wire) → Contains xs w → Contains ys w) → ((w : Wire) → Contains ys w → Contains xs w) → xs ≡ ys
same_members [] [] rises others to from = refl
same_members [] (y ∷ ys) rises others to from = absurd (none_listed y (from y (Contains-here y ys)))
same_members (x ∷ xs) [] rises others to from = absurd (none_listed x (to x (Contains-here x xs)))
same_members (x ∷ xs) (y ∷ ys) rises others to from =
    let same = same_first x y xs ys rises others (to x (Contains-here x xs)) (from y (Contains-here y ys)) in
    let rest = same_members xs ys rises.1 others.1 (behind_first x y xs ys same rises to) (behind_first y x ys xs (sym same) others from) in
    λ i. same i ∷ rest i

-- ---- how many

-- wires in order that all stand in another list in order are no more than those
pub length-le : (ys xs : List Wire) → Rise xs → Rise ys → ((w : Wire) → Contains xs w → Contains ys w) → length xs ≤ length ys
length-le ys [] rises others to = omega arith
length-le [] (x ∷ xs) rises others to = absurd (none_listed x (to x (Contains-here x xs)))
length-le (y ∷ ys) (x ∷ xs) rises others to = elim (Contains-cases x y ys (to x (Contains-here x xs))) [
  | inl same ↦ let fewer = length-le ys xs rises.1 others.1 (behind_first x y xs ys (sym same) rises to) in omega (arith, fewer)
  | inr later ↦
      let fewer = length-le ys (x ∷ xs) rises others.1 (λ w listed. elim (Contains-cases w y ys (to w listed)) [
        | inl first ↦ elim (Contains-cases w x xs listed) [
          | inl same ↦ subst (Contains ys) same later
          | inr behind ↦ absurd (not_both x w (rises.0 w behind) (subst (λ v. IsWireBefore v x) first (others.0 x later)))
        ]
        | inr inside ↦ inside
      ]) in
      omega (arith, fewer)
]

pub wires_are_unique : (topology : TopologyView) (pins : List PinLine) (sets : List LaidSet) (wires others : List Wire) → AreWires topology pins sets wires → AreWires topology pins sets others → wires ≡ others
wires_are_unique topology pins sets wires others one other =
    same_members wires others (rise-from_pairs wires one.order) (rise-from_pairs others other.order)
    (λ w listed. let of = one.each w listed in other.all of.0 w of.1 of.2)
    (λ w listed. let of = other.each w listed in one.all of.0 w of.1 of.2)
