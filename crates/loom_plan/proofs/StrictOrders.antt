-- Two lists in a strict order with the same members are one list; sets, slots and wires are in strict orders.
use Rattle.std.proofs.Common.{◌≡◌, ℕ, ◌<◌, inl, inr, List, [], ◌∷◌, map, refl, sym, ap, subst, ◌∙◌, arith, Contains}
use Rattle.std.specs.List.{AllPairs}
use Rattle.std.specs.declared.cmp.Ordering.{Ordering}
use Rattle.std.specs.declared.cmp.Ordering.TheVariants.{Less, Equal, Greater}
use Rattle.std.specs.Ordering.{nat_cmp, ordering_then}
use Rattle.std.specs.Cmp.{IsTotalOrder, on_total, then_total, nat_cmp_total}
use Rattle.std.specs.Cmp.Lexicographic.{slice_cmp, lists_total, nat_list_cmp_total}
use Rattle.std.proofs.lemmas.Cmp.{tied_itself}
use Rattle.loom_base.specs.declared.positions.SegmentNo.{SegmentNo}
use Rattle.loom_base.proofs.Contained.{Contains-here, Contains-cons, Contains-cases, Contains-map}
use Rattle.loom_types.specs.declared.plan.SetLine.{SetLine}
use Rattle.loom_types.specs.declared.wire.End.{End}
use Rattle.loom_types.specs.declared.wire.End.TheVariants.{Cavity, Splice, Pin}
use Rattle.loom_types.specs.declared.wire.Wire.{Wire}
use Rattle.loom_types.specs.Slots.{Slot, IsSlotBefore}
use Rattle.loom_types.specs.WireOrder.{end_cmp, route_cmp, wire_cmp, IsWireBefore}
use Rattle.loom_active.specs.LiveSets.{IsListedBefore, IsSetBefore}
use Rattle.loom_active.proofs.Pairs.{pairs-none, pairs-cons, pairs-head, pairs-tail}

none_listed : {X : Type 0} (x : X) → Contains [] x → ⊥
none_listed x listed = absurd (omega (arith, listed.1))

module _ {X : Type 0} (R : X → X → Type 0) (not_both : (x y : X) → R x y → R y x → ⊥) where
  same_first : (x y : X) (xs ys : List X) → AllPairs R (x ∷ xs) → AllPairs R (y ∷ ys) → Contains (y ∷ ys) x → Contains (x ∷ xs) y → x ≡ y
  same_first x y xs ys rises others to from = elim (Contains-cases x y ys to) [
    | inl same ↦ sym same
    | inr later ↦ elim (Contains-cases y x xs from) [
      | inl same ↦ same
      | inr behind ↦ absurd (not_both x y (pairs-head R x xs rises y behind) (pairs-head R y ys others x later))
    ]
  ]

  -- what stands behind the first of one list stands behind the first of the other
  behind_first : (x y : X) (xs ys : List X) → x ≡ y → AllPairs R (x ∷ xs) → ((z : X) → Contains (x ∷ xs) z → Contains (y ∷ ys) z)
      → (z : X) → Contains xs z → Contains ys z
  behind_first x y xs ys same rises to z listed = elim (Contains-cases z y ys (to z (Contains-cons z x xs listed))) [
    | inl first ↦
        let before : R z z = subst (λ (v : X). R v z) (same ∙ first) (pairs-head R x xs rises z listed) in
        absurd (not_both z z before before)
    | inr later ↦ later
  ]

  pub same-members : (xs ys : List X) → AllPairs R xs → AllPairs R ys → ((x : X) → Contains xs x → Contains ys x)
      → ((x : X) → Contains ys x → Contains xs x) → xs ≡ ys
  same-members [] [] rises others to from = refl
  same-members [] (y ∷ ys) rises others to from = absurd (none_listed y (from y (Contains-here y ys)))
  same-members (x ∷ xs) [] rises others to from = absurd (none_listed x (to x (Contains-here x xs)))
  same-members (x ∷ xs) (y ∷ ys) rises others to from =
      let same = same_first x y xs ys rises others (to x (Contains-here x xs)) (from y (Contains-here y ys)) in
      let rest =
      same-members xs ys (pairs-tail R x xs rises) (pairs-tail R y ys others) (behind_first x y xs ys same rises to)
      (behind_first y x ys xs (sym same) others from) in
      λ i. same i ∷ rest i

-- what holds between the images of a list's elements
pub pairs-from_map : {X Y : Type 0} (R : Y → Y → Type 0) (f : X → Y) (xs : List X) → AllPairs R (map f xs) → AllPairs (λ a b. R (f a) (f b)) xs
pairs-from_map {X} R f [] all = pairs-none (λ (a b : X). R (f a) (f b))
pairs-from_map {X} R f (x ∷ xs) all =
    pairs-cons (λ (a b : X). R (f a) (f b)) x xs
    (λ y at. pairs-head R (f x) (map f xs) all (f y) (Contains-map f xs y at))
    (pairs-from_map R f xs (pairs-tail R (f x) (map f xs) all))

-- ---- the orders

pub numbers_once : (x y : ℕ) → x < y → y < x → ⊥
numbers_once x y one other = omega (arith, one, other)

-- of two numbers, then two others
listed_once : (net mask other_net other_mask : ℕ) → IsListedBefore net mask other_net other_mask → IsListedBefore other_net other_mask net mask → ⊥
listed_once net mask other_net other_mask one other = elim one [
  | inl a ↦ elim other [ inl b ↦ omega (arith, a, b) | inr b ↦ omega (arith, a, b.0) ]
  | inr a ↦ elim other [ inl b ↦ omega (arith, a.0, b) | inr b ↦ omega (arith, a.1, b.1) ]
]

pub sets_once : (one other : SetLine) → IsSetBefore one other → IsSetBefore other one → ⊥
sets_once one other a b = listed_once one.net.0 one.mask other.net.0 other.mask a b

pub slots_once : (one other : Slot) → IsSlotBefore one other → IsSlotBefore other one → ⊥
slots_once one other a b = elim a [
  | inl net ↦ elim b [ inl back ↦ omega (arith, net, back) | inr same ↦ omega (arith, net, same.0) ]
  | inr rest ↦ elim b [
    | inl back ↦ omega (arith, rest.0, back)
    | inr more ↦ listed_once one.coupler one.ordinal other.coupler other.ordinal rest.1 more.1
  ]
]

-- an end as a list of numbers: its kind, and then its own numbers
code_of_end : End → List ℕ
code_of_end (Cavity c) = 0 ∷ c.0 ∷ []
code_of_end (Splice v j) = 1 ∷ v.0 ∷ j ∷ []
code_of_end (Pin x p s) = 2 ∷ x.0 ∷ p ∷ s ∷ []

then-Equal : (o : Ordering) → ordering_then o Equal ≡ o
then-Equal Less = refl
then-Equal Equal = refl
then-Equal Greater = refl

-- ends are ordered as these lists are
end_cmp-codes : (e f : End) → slice_cmp nat_cmp (code_of_end e) (code_of_end f) ≡ end_cmp e f
unfolding code_of_end
end_cmp-codes (Cavity c) (Cavity d) = then-Equal (nat_cmp c.0 d.0)
end_cmp-codes (Cavity c) (Splice w k) = refl
end_cmp-codes (Cavity c) (Pin y q t) = refl
end_cmp-codes (Splice v j) (Cavity d) = refl
end_cmp-codes (Splice v j) (Splice w k) = ap (ordering_then (nat_cmp v.0 w.0)) (then-Equal (nat_cmp j k))
end_cmp-codes (Splice v j) (Pin y q t) = refl
end_cmp-codes (Pin x p s) (Cavity d) = refl
end_cmp-codes (Pin x p s) (Splice w k) = refl
end_cmp-codes (Pin x p s) (Pin y q t) =
    ap (λ o. ordering_then (nat_cmp x.0 y.0) (ordering_then (nat_cmp p q) o)) (then-Equal (nat_cmp s t))

end_cmp_total : IsTotalOrder end_cmp
end_cmp_total = subst IsTotalOrder (λ i e f. end_cmp-codes e f i) (on_total code_of_end nat_list_cmp_total)

route_cmp_total : IsTotalOrder route_cmp
route_cmp_total = lists_total (on_total (λ (s : SegmentNo). s.0) nat_cmp_total)

wire_cmp_total : IsTotalOrder wire_cmp
wire_cmp_total =
    then_total
    (then_total
    (then_total (on_total (λ (w : Wire). w.net.0) nat_cmp_total) (on_total (λ (w : Wire). w.from) end_cmp_total))
    (on_total (λ (w : Wire). w.to) end_cmp_total))
    (on_total (λ (w : Wire). w.route) route_cmp_total)

pub wires_once : (one other : Wire) → IsWireBefore one other → IsWireBefore other one → ⊥
wires_once one other a b =
    let itself = wire_cmp_total.trans one other one a b in
    let tied = tied_itself wire_cmp_total one in
    absurd (cc)
