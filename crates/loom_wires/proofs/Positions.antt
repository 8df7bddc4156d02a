-- The positions of sets that pass a test.
use Rattle.std.proofs.Common.{◌≡◌, ℕ, ◌+◌, ◌-◌, ◌<◌, ◌≤◌, Bool, true, false, cond, eqb, Option, Some, None, slice_get, List, [], ◌∷◌, ◌++◌, length, map, take, get_or, refl, sym, ap, subst, ◌∙◌, arith, add-zero, append_assoc, inl, inr}
use Rattle.std.specs.List.{All, filter, Contains}
use Rattle.std.specs.Option.{option_map_or}
use Rattle.std.proofs.lemmas.Bool.Decides.{nat_tests}
use Rattle.std.proofs.lemmas.List.{take_more, length-take-le, length-append, get_or-map, get_or-append-add}
use Rattle.std.proofs.lemmas.List.Elements.{All-nil, All-cons}
use Rattle.std.proofs.lemmas.Option.{get_or_from_slice_get, slice_get_within}
use Rattle.loom_base.proofs.Contained.{Contains-cases}
use Rattle.loom_rows.specs.declared.cond.Cond.{Never}
use Rattle.loom_wires.specs.declared.laid_set.LaidSet.{LaidSet}
use Rattle.loom_wires.specs.FoundWires.{positions_from, positions, ends_with, with_position, conds_at}

module _ (p : LaidSet → Bool) where
  positions_from-append : (at : ℕ) (xs ys : List LaidSet) → positions_from p at (xs ++ ys) ≡ positions_from p at xs ++ positions_from p (at + length xs) ys
  positions_from-append at [] ys = ap (λ n. positions_from p n ys) (sym (add-zero at))
  positions_from-append at (x ∷ xs) ys =
      let moved : at + 1 + length xs ≡ at + length (x ∷ xs) = omega arith in
      by (p x) (positions_from-append (at + 1) xs ys ∙ ap (λ n. positions_from p (at + 1) xs ++ positions_from p n ys) moved)
    where
      by : (b : Bool) → positions_from p (at + 1) (xs ++ ys) ≡ positions_from p (at + 1) xs ++ positions_from p (at + length (x ∷ xs)) ys
          → cond b (at ∷ positions_from p (at + 1) (xs ++ ys)) (positions_from p (at + 1) (xs ++ ys))
          ≡ cond b (at ∷ positions_from p (at + 1) xs) (positions_from p (at + 1) xs) ++ positions_from p (at + length (x ∷ xs)) ys
      by true rest = ap (λ l. at ∷ l) rest
      by false rest = rest

  -- the positions among one set more
  pub positions-more : (sets : List LaidSet) (k : ℕ) (set : LaidSet) → k < length sets → set ≡ get_or sets k set
      → positions p (take (k + 1) sets) ≡ positions p (take k sets) ++ cond (p set) (k ∷ []) []
  positions-more sets k set lt at =
      ap (positions p) (take_more sets k set lt) ∙ positions_from-append 0 (take k sets) (get_or sets k set ∷ [])
      ∙ (λ i. positions p (take k sets) ++ positions_from p (place i) (sym at i ∷ []))
    where
      place : 0 + length (take k sets) ≡ k
      place = let long = length-take-le k sets (omega arith) in omega arith

  pub positions-below : (at bound : ℕ) (sets : List LaidSet) → at + length sets ≤ bound → All (λ n. n < bound) (positions_from p at sets)
  positions-below at bound [] fits = All-nil (λ n. n < bound)
  positions-below at bound (set ∷ sets) fits = by (p set) (positions-below (at + 1) bound sets (omega (arith, fits)))
    where
      by : (b : Bool) → All (λ n. n < bound) (positions_from p (at + 1) sets) → All (λ n. n < bound) (cond b (at ∷ positions_from p (at + 1) sets) (positions_from p (at + 1) sets))
      by true rest = All-cons (λ n. n < bound) at (positions_from p (at + 1) sets) (omega (arith, fits)) rest
      by false rest = rest

  -- a set that passes has a position
  pub positions-some : (at : ℕ) (sets : List LaidSet) (set : LaidSet) → Contains sets set → p set ≡ true → positions_from p at sets ≡ [] → ⊥
  positions-some at [] set listed passes none = absurd (omega (arith, listed.1))
  positions-some at (other ∷ sets) set listed passes none = elim (Contains-cases set other sets listed) [
    | inl same ↦
        let here : cond true (at ∷ positions_from p (at + 1) sets) (positions_from p (at + 1) sets) ≡ [] =
        ap (λ b. cond b (at ∷ positions_from p (at + 1) sets) (positions_from p (at + 1) sets)) (sym (ap p same ∙ passes)) ∙ none in
        absurd (cc)
    | inr later ↦ positions-some (at + 1) sets set later passes (by (p other) none)
  ]
    where
      by : (b : Bool) → cond b (at ∷ positions_from p (at + 1) sets) (positions_from p (at + 1) sets) ≡ [] → positions_from p (at + 1) sets ≡ []
      by true e = absurd (cc)
      by false e = e

  -- the conditions at the positions are those of the sets that pass
  conds-from : (before sets all : List LaidSet) (at : ℕ) → all ≡ before ++ sets → at ≡ length before → conds_at all (positions_from p at sets) ≡ map (λ set. set.cond) (filter p sets)
  conds-from before [] all at whole place = refl
  conds-from before (set ∷ sets) all at whole place =
      by (p set) (conds-from (before ++ set ∷ []) sets all (at + 1) (whole ∙ sym (append_assoc before (set ∷ []) sets)) (omega (arith, place, length-append before (set ∷ []))))
    where
      here : get_or (map (λ s. s.cond) all) at Never ≡ set.cond
      here =
          get_or-map (λ (s : LaidSet). s.cond) all at set Never (omega (arith, place, ap length whole, length-append before (set ∷ sets)))
          ∙ ap (λ (s : LaidSet). s.cond)
          ((λ i. get_or (whole i) (at_end i) set) ∙ get_or-append-add before (set ∷ sets) 0 set)
        where
          at_end : at ≡ length before + 0
          at_end = omega (arith, place)

      by : (b : Bool) → conds_at all (positions_from p (at + 1) sets) ≡ map (λ s. s.cond) (filter p sets)
          → conds_at all (cond b (at ∷ positions_from p (at + 1) sets) (positions_from p (at + 1) sets)) ≡ map (λ s. s.cond) (cond b (set ∷ filter p sets) (filter p sets))
      by true rest = λ i. here i ∷ rest i
      by false rest = rest

  pub conds-positions : (sets : List LaidSet) → conds_at sets (positions p sets) ≡ map (λ set. set.cond) (filter p sets)
  conds-positions sets = conds-from [] sets sets 0 refl refl

-- ---- a position at the end

pub ends_with-below : (at : ℕ) (ns : List ℕ) → All (λ n. n < at) ns → ends_with at ns ≡ false
ends_with-below at ns below = by (slice_get ns (length ns - 1)) refl
  where
    by : (o : Option ℕ) → slice_get ns (length ns - 1) ≡ o → option_map_or (λ n. eqb n at) o false ≡ false
    by None e = refl
    by (Some n) e =
        let lt : n < at = subst (λ m. m < at) (get_or_from_slice_get ns (length ns - 1) n n e) (below (length ns - 1) n (slice_get_within ns (length ns - 1) n e)) in
        other n lt
      where
        other : (n : ℕ) → n < at → eqb n at ≡ false
        other n lt = grind (arith, nat_tests)

last-push : (ns : List ℕ) (at : ℕ) → slice_get (ns ++ at ∷ []) (length ns) ≡ Some at
last-push [] at = refl
last-push (n ∷ ns) at = last-push ns at

ends_with-push : (at : ℕ) (ns : List ℕ) → ends_with at (ns ++ at ∷ []) ≡ true
ends_with-push at ns = ap (λ o. option_map_or (λ n. eqb n at) o false) (ap (slice_get (ns ++ at ∷ [])) place ∙ last-push ns at) ∙ itself
  where
    place : length (ns ++ at ∷ []) - 1 ≡ length ns
    place = omega (arith, length-append ns (at ∷ []))

    itself : eqb at at ≡ true
    itself = grind (arith, nat_tests)

pub with_position-new : (at : ℕ) (ns : List ℕ) → All (λ n. n < at) ns → with_position at ns ≡ ns ++ at ∷ []
with_position-new at ns below = ap (λ b. cond b ns (ns ++ at ∷ [])) (ends_with-below at ns below)

-- a position that was put at the end stays there
pub with_position-again : (at : ℕ) (ns : List ℕ) → with_position at (with_position at ns) ≡ with_position at ns
with_position-again at ns = by (ends_with at ns) refl
  where
    by : (b : Bool) → ends_with at ns ≡ b → with_position at (cond b ns (ns ++ at ∷ [])) ≡ cond b ns (ns ++ at ∷ [])
    by true e = ap (λ b. cond b ns (ns ++ at ∷ [])) e
    by false e = ap (λ b. cond b (ns ++ at ∷ []) ((ns ++ at ∷ []) ++ at ∷ [])) (ends_with-push at ns)
