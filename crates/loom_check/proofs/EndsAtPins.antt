-- The wires that end at pins, put together wire by wire.
use Rattle.std.proofs.Common.{◌≡◌, ℕ, ◌+◌, ◌<◌, ◌≤◌, inl, inr, Bool, true, false, cond, ◌&&◌, ◌||◌, List, [], ◌∷◌, ◌++◌, Option, Some, None, length, get_or, take, refl, sym, ap, ap₂, subst, ◌∙◌, arith, eqb}
use Rattle.std.specs.HashMap.{get}
use Rattle.std.specs.Option.{is_some}
use Rattle.std.specs.HashSet.{contains}
use Rattle.std.proofs.lemmas.Bool.{cases_Bool, cond-true, cond-false, and_parts, and_from, eqb-true, eq-eqb, false≢true, true≢false}
use Rattle.std.proofs.lemmas.List.{take_more, take_all, length-take-le}
use Rattle.std.proofs.lemmas.Option.{same_Some}
use Rattle.loom_types.specs.declared.wire.End.{End}
use Rattle.loom_types.specs.declared.wire.End.TheVariants.{Cavity, Splice, Pin}
use Rattle.loom_types.specs.declared.wire.Wire.{Wire}
use Rattle.loom_types.specs.Slots.{EndsAtPin}
use Rattle.loom_audit.specs.FirstFailure.{EachBefore}
use Rattle.loom_audit.specs.Grouping.{is_same_pair}
use Rattle.loom_audit.proofs.Firsts.{before_more, each_from_before}
use Rattle.loom_check.specs.MetParts.{ArePlaces}
use Rattle.loom_check.specs.PinTables.{pin_of, is_at, ends_at, PinNets, PinSet, PinTable, positions_at, IsNoted, AreKept, IsEndNoted, AreShared, IsWirePlaced, EndsAtShared, KnowsEnds}
use Rattle.loom_check.proofs.MetPlaces.{places-with, places-without}

-- ---- pins of ends

pub pair-same : (p q : ℕ × ℕ) → is_same_pair p q ≡ true → p ≡ q
pair-same p q same =
    let parts = and_parts (eqb p.0 q.0) (eqb p.1 q.1) same in
    ap₂ (λ (a b : ℕ). (a, b)) (eqb-true p.0 q.0 parts.0) (eqb-true p.1 q.1 parts.1)

pub pair-is : (p : ℕ × ℕ) → is_same_pair p p ≡ true
pair-is p = and_from (eqb p.0 p.0) (eqb p.1 p.1) (eq-eqb p.0 p.0 refl) (eq-eqb p.1 p.1 refl)

pub at-is : (own : Option (ℕ × ℕ)) (pin : ℕ × ℕ) → is_at own pin ≡ true → own ≡ Some pin
at-is None pin holds = absurd (false≢true holds)
at-is (Some own) pin holds = ap Some (pair-same own pin holds)

pub is-at : (own : Option (ℕ × ℕ)) (pin : ℕ × ℕ) → own ≡ Some pin → is_at own pin ≡ true
is-at own pin is = ap (λ (o : Option (ℕ × ℕ)). is_at o pin) is ∙ pair-is pin

some-none : {X : Type 0} (x : X) → None ≡ Some x → ⊥
some-none {X} x e = false≢true (ap (λ (o : Option X). is_some o) e)

pub pin-end : (end : End) (coupler pin : ℕ) → pin_of end ≡ Some (coupler, pin) → (side : ℕ) × (end ≡ Pin (record { 0 = coupler }) pin side)
pin-end (Cavity cavity) coupler pin e = absurd (some-none (coupler, pin) e)
pin-end (Splice node ordinal) coupler pin e = absurd (some-none (coupler, pin) e)
pin-end (Pin own number side) coupler pin e =
    let same : (own.0, number) ≡ (coupler, pin) = same_Some (own.0, number) (coupler, pin) e in
    (side, ap (λ (k : ℕ × ℕ). Pin (record { 0 = k.0 }) k.1 side) same)

pub end-pin : (end : End) (coupler pin side : ℕ) → end ≡ Pin (record { 0 = coupler }) pin side → pin_of end ≡ Some (coupler, pin)
end-pin end coupler pin side is = ap pin_of is

pub or-split : {C : Type 0} (a b : Bool) → (a || b) ≡ true → (a ≡ true → C) → (b ≡ true → C) → C
or-split true b e one other = one refl
or-split false b e one other = other e

pub or-left : (a b : Bool) → a ≡ true → (a || b) ≡ true
or-left a b e = ap (λ (x : Bool). x || b) e

pub or-right : (a b : Bool) → b ≡ true → (a || b) ≡ true
or-right true b e = refl
or-right false b e = e

-- the test is that of the definition
pub ends-pin : (w : Wire) (coupler pin : ℕ) → ends_at w (coupler, pin) ≡ true → EndsAtPin w coupler pin
ends-pin w coupler pin holds =
    or-split (is_at (pin_of w.from) (coupler, pin)) (is_at (pin_of w.to) (coupler, pin)) holds
    (λ from. let (side, is) = pin-end w.from coupler pin (at-is (pin_of w.from) (coupler, pin) from) in (side, inl is))
    (λ to. let (side, is) = pin-end w.to coupler pin (at-is (pin_of w.to) (coupler, pin) to) in (side, inr is))

pub pin-ends : (w : Wire) (coupler pin : ℕ) → EndsAtPin w coupler pin → ends_at w (coupler, pin) ≡ true
pin-ends w coupler pin (side, inl is) =
    or-left (is_at (pin_of w.from) (coupler, pin)) (is_at (pin_of w.to) (coupler, pin))
    (is-at (pin_of w.from) (coupler, pin) (end-pin w.from coupler pin side is))
pin-ends w coupler pin (side, inr is) =
    or-right (is_at (pin_of w.from) (coupler, pin)) (is_at (pin_of w.to) (coupler, pin))
    (is-at (pin_of w.to) (coupler, pin) (end-pin w.to coupler pin side is))

-- ---- shared pins

-- a pin was put among the shared ones
pub kept-shared : (nets : PinNets) (old new : PinSet) (own : ℕ × ℕ)
    → ((pin : ℕ × ℕ) → contains is_same_pair new pin ≡ cond (is_same_pair own pin) true (contains is_same_pair old pin))
    → AreKept nets old nets new
kept-shared nets old new own put pin lacks = (
  elim (cases_Bool (is_same_pair own pin)) [
    | inl same ↦ absurd (true≢false (sym (put pin ∙ cond-true (is_same_pair own pin) true (contains is_same_pair old pin) same) ∙ lacks))
    | inr other ↦ sym (put pin ∙ cond-false (is_same_pair own pin) true (contains is_same_pair old pin) other) ∙ lacks
  ],
  λ net has. has,
)

-- a pin got its first net
pub kept-nets : (old new : PinNets) (shared : PinSet) (own : ℕ × ℕ) (net : ℕ) → get is_same_pair old own ≡ None
    → ((pin : ℕ × ℕ) → get is_same_pair new pin ≡ cond (is_same_pair own pin) (Some net) (get is_same_pair old pin))
    → AreKept old shared new shared
kept-nets old new shared own net none put pin lacks = (
  lacks,
  λ was has. elim (cases_Bool (is_same_pair own pin)) [
    | inl same ↦ absurd (some-none was (sym none ∙ ap (get is_same_pair old) (pair-same own pin same) ∙ has))
    | inr other ↦ put pin ∙ cond-false (is_same_pair own pin) (Some net) (get is_same_pair old pin) other ∙ has
  ],
)

-- both ends of a wire were noted
module _ (wires : List Wire) (n : ℕ) (w : Wire) (within : n < length wires) (is : w ≡ get_or wires n w) (nets from_nets to_nets : PinNets)
    (shared from_shared to_shared : PinSet) (kept_from : AreKept nets shared from_nets from_shared)
    (noted_from : IsEndNoted (pin_of w.from) w.net.0 from_nets from_shared) (kept_to : AreKept from_nets from_shared to_nets to_shared)
    (noted_to : IsEndNoted (pin_of w.to) w.net.0 to_nets to_shared) where
  own-noted : IsNoted to_nets to_shared w
  own-noted pin ends lacks =
      or-split (is_at (pin_of w.from) pin) (is_at (pin_of w.to) pin) ends
      (λ from. (kept_to pin lacks).1 w.net.0 (noted_from pin from (kept_to pin lacks).0))
      (λ to. noted_to pin to lacks)

  still-noted : (v : Wire) → IsNoted nets shared v → IsNoted to_nets to_shared v
  still-noted v noted pin ends lacks =
      let after = kept_to pin lacks in
      let before = kept_from pin after.0 in
      after.1 v.net.0 (before.1 v.net.0 (noted pin ends before.0))

  pub noted-more : EachBefore (λ i v. IsNoted nets shared v) wires n → EachBefore (λ i v. IsNoted to_nets to_shared v) wires (n + 1)
  noted-more before =
      before_more (λ i v. IsNoted to_nets to_shared v) wires n w within (λ i v lt at. still-noted v (before i v lt at))
      (subst (IsNoted to_nets to_shared) is own-noted)

pub shared-all : (wires : List Wire) (n : ℕ) (nets : PinNets) (shared : PinSet) → length wires ≤ n
    → EachBefore (λ i v. IsNoted nets shared v) wires n → AreShared wires (contains is_same_pair shared)
shared-all wires n nets shared past before i j w v pin at_i at_j ends_w ends_v differ =
    let each = each_from_before (λ i u. IsNoted nets shared u) wires n past before in
    elim (cases_Bool (contains is_same_pair shared pin)) [
      | inl has ↦ has
      | inr lacks ↦
          absurd (differ (same_Some w.net.0 v.net.0 (sym (each i w at_i pin ends_w lacks) ∙ each j v at_j pin ends_v lacks)))
    ]

-- ---- positions at shared pins

pub ends-more : (shared : PinSet) (wires : List Wire) (n position : ℕ) (w : Wire) (old new : PinTable) → n < length wires → w ≡ get_or wires n w
    → position ≡ n → IsWirePlaced w shared position old new → KnowsEnds (contains is_same_pair shared) (take n wires) old
    → KnowsEnds (contains is_same_pair shared) (take (n + 1) wires) new
ends-more shared wires n position w old new within is placed added known pin =
    let P : Wire → Type 0 = EndsAtShared (contains is_same_pair shared) pin in
    let positions : List ℕ = positions_at old pin in
    let lines : List Wire = take n wires in
    let more : lines ++ w ∷ [] ≡ take (n + 1) wires = ap (λ (u : Wire). lines ++ u ∷ []) is ∙ sym (take_more wires n w within) in
    let place : length lines ≡ position = length-take-le n wires (omega (arith, within)) ∙ sym placed in
    let its : Bool = ends_at w pin && contains is_same_pair shared pin in
    subst (λ (l : List Wire). ArePlaces P l (positions_at new pin)) more
    (subst (ArePlaces P (lines ++ w ∷ [])) (sym (added pin))
    (elim (cases_Bool its) [
      | inl holds ↦
          subst (ArePlaces P (lines ++ w ∷ []))
          (ap (λ (k : ℕ). positions ++ k ∷ []) place ∙ sym (cond-true its (positions ++ position ∷ []) positions holds))
          (places-with P lines w positions (known pin) holds)
      | inr lacks ↦
          subst (ArePlaces P (lines ++ w ∷ [])) (sym (cond-false its (positions ++ position ∷ []) positions lacks))
          (places-without P lines w positions (known pin) (λ holds. true≢false (sym holds ∙ lacks)))
    ]))

pub ends-all : (is_shared : ℕ × ℕ → Bool) (wires : List Wire) (n : ℕ) (table : PinTable) → length wires ≤ n → KnowsEnds is_shared (take n wires) table
    → KnowsEnds is_shared wires table
ends-all is_shared wires n table past known = subst (λ (l : List Wire). KnowsEnds is_shared l table) (take_all n wires past) known
