-- What a set of reserved pins has once those of another coupler are added.
use Rattle.std.proofs.Common.{◌≡◌, ℕ, ◌+◌, ◌<◌, ◌≤◌, Bool, true, false, cond, ◌==◌, ◌&&◌, ◌||◌, List, [], ◌∷◌, refl, sym, subst, ap, ◌∙◌, arith, length, Some, inl, inr}
use Rattle.std.specs.HashSet.{HashSet, contains}
use Rattle.std.specs.List.{Contains, list_any, slice_get}
use Rattle.std.proofs.lemmas.Bool.{cases_Bool, cases_eq, eq-eqb, eqb-true, ne_eqb, true≢false}
use Rattle.std.proofs.lemmas.Option.{same_Some, slice_get_within}
use Rattle.loom_pins.specs.declared.slot.CouplerPins.{CouplerPins}
use Rattle.loom_pins.specs.Holders.{pair_eq, AreReserved}
use Rattle.loom_base.proofs.Contained.{Contains-here, Contains-cons, Contains-cases}

-- one more key
pub one-more : (old same key rest : Bool) → cond (same && key) true (old || (same && rest)) ≡ (old || (same && (rest || key)))
one-more true true true true = refl
one-more true true true false = refl
one-more true true false true = refl
one-more true true false false = refl
one-more true false true true = refl
one-more true false true false = refl
one-more true false false true = refl
one-more true false false false = refl
one-more false true true true = refl
one-more false true true false = refl
one-more false true false true = refl
one-more false true false false = refl
one-more false false true true = refl
one-more false false true false = refl
one-more false false false true = refl
one-more false false false false = refl

pub listed : (pin : ℕ) (pins : List ℕ) → list_any (λ x. x == pin) pins ≡ true → Contains pins pin
listed pin [] e = absurd (true≢false (sym e))
listed pin (x ∷ xs) e = elim (cases_Bool (x == pin)) [
  | inl same ↦ subst (λ (y : ℕ). Contains (x ∷ xs) y) (eqb-true x pin same) (Contains-here x xs)
  | inr other ↦ Contains-cons pin x xs (listed pin xs (sym (ap (λ (b : Bool). b || list_any (λ y. y == pin) xs) other) ∙ e))
]

either_true : (a b : Bool) → b ≡ true → (a || b) ≡ true
either_true true b e = refl
either_true false b e = e

pub from_list : (pin : ℕ) (pins : List ℕ) → Contains pins pin → list_any (λ x. x == pin) pins ≡ true
from_list pin [] (k, below, at) = absurd (omega (arith, below))
from_list pin (x ∷ xs) h = elim (Contains-cases pin x xs h) [
  | inl same ↦ ap (λ (b : Bool). b || list_any (λ y. y == pin) xs) (eq-eqb x pin same)
  | inr later ↦ either_true (x == pin) (list_any (λ y. y == pin) xs) (from_list pin xs later)
]

or_false : (b : Bool) → (b || false) ≡ b
or_false true = refl
or_false false = refl

-- no key yet of a coupler
pub nothing-more : (old same : Bool) → old ≡ (old || (same && false))
nothing-more true true = refl
nothing-more true false = refl
nothing-more false true = refl
nothing-more false false = refl

-- the set has the reserved pins of the couplers before this one
pub record AreAdded {S : Type 0} (couplers : List CouplerPins) (reserved : HashSet (ℕ × ℕ) S) (number : ℕ) : Type 0 where
  pub done : (at pin : ℕ) (coupler : CouplerPins) → at < number → slice_get couplers at ≡ Some coupler
      → contains pair_eq reserved (at, pin) ≡ list_any (λ x. x == pin) coupler.reserved
  pub clear : (at pin : ℕ) → number ≤ at → contains pair_eq reserved (at, pin) ≡ false

pub added-next : {S : Type 0} (couplers : List CouplerPins) (old new : HashSet (ℕ × ℕ) S) (number : ℕ) (coupler : CouplerPins) (pins : List ℕ)
    → slice_get couplers number ≡ Some coupler → pins ≡ coupler.reserved
    → ((other pin : ℕ) → contains pair_eq new (other, pin)
    ≡ (contains pair_eq old (other, pin) || (number == other && list_any (λ x. x == pin) pins)))
    → AreAdded couplers old number → AreAdded couplers new (number + 1)
added-next couplers old new number coupler pins stands same adds added =
    let other : (at pin : ℕ) → (number ≡ at → ⊥) → contains pair_eq new (at, pin) ≡ contains pair_eq old (at, pin) = λ at pin ne.
    adds at pin ∙ ap (λ (b : Bool). contains pair_eq old (at, pin) || (b && list_any (λ x. x == pin) pins)) (ne_eqb number at ne)
    ∙ or_false (contains pair_eq old (at, pin)) in
    record {
      done = λ at pin c lt is. elim (cases_eq number at) [
        | inl e ↦
            let here : coupler ≡ c = same_Some coupler c (sym (subst (λ (k : ℕ). slice_get couplers k ≡ Some coupler) e stands) ∙ is) in
            adds at pin ∙ ap (λ (b : Bool). b || (number == at && list_any (λ x. x == pin) pins)) (added.clear at pin (omega (arith, e)))
            ∙ ap (λ (b : Bool). b && list_any (λ x. x == pin) pins) (eq-eqb number at e)
            ∙ ap (λ (ps : List ℕ). list_any (λ x. x == pin) ps) (same ∙ ap (λ (k : CouplerPins). k.reserved) here)
        | inr ne ↦ other at pin ne ∙ added.done at pin c (omega (arith, lt, ne)) is
      ];
      clear = λ at pin le. other at pin (λ e. omega (arith, le, e)) ∙ added.clear at pin (omega (arith, le));
    }

pub added-all : {S : Type 0} (couplers : List CouplerPins) (reserved : HashSet (ℕ × ℕ) S) (number : ℕ) → length couplers ≤ number
    → AreAdded couplers reserved number → AreReserved couplers reserved
added-all couplers reserved number all added at coupler is pin =
    let lt : at < number = omega (arith, all, slice_get_within couplers at coupler is) in (
      (λ e. listed pin coupler.reserved (sym (added.done at pin coupler lt is) ∙ e)),
      (λ h. added.done at pin coupler lt is ∙ from_list pin coupler.reserved h),
    )
