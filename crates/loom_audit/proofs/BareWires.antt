-- Wires compared with those at positions, one after another.
use Rattle.std.proofs.Common.{◌≡◌, ℕ, ◌+◌, ◌<◌, ◌≤◌, Option, Some, None, List, [], ◌∷◌, ◌++◌, length, get_or, take, drop, map, refl, sym, ap, ◌∙◌, arith, append-nil, length-append}
use Rattle.std.specs.List.{filter_map, slice_get}
use Rattle.std.proofs.lemmas.List.{take_more, take_all, length-take-le, map_push, map-append, get_or_append_left, get_or_push, take-append-drop}
use Rattle.std.proofs.lemmas.List.Elements.{filter_map-append}
use Rattle.std.proofs.lemmas.Option.{slice_get-get_or, slice_get_within, get_or_from_slice_get}
use Rattle.loom_types.specs.declared.plan.Plan.{Plan}
use Rattle.loom_types.specs.declared.wire.Wire.{Wire}
use Rattle.loom_types.specs.LayoutWires.{bare}
use Rattle.loom_audit.specs.SetWires.{wires_at}

-- the first `at` wires are those at the positions, but for their rows
pub record AreBareBefore (wires : List Wire) (plan : Plan) (positions : List ℕ) (at : ℕ) : Type 0 where
  pub within : at ≤ length wires
  pub same : take at wires ≡ map bare (wires_at plan positions)

pub bare_none : (wires : List Wire) (plan : Plan) → AreBareBefore wires plan [] 0
bare_none wires plan = record { within = omega arith; same = refl }

module _ (wires : List Wire) (plan : Plan) (positions : List ℕ) where
  -- the wire at a position, if there is one
  one-more : (k p : ℕ) → k < length positions → p ≡ get_or positions k p
      → wires_at plan (take (k + 1) positions) ≡ wires_at plan (take k positions) ++ wires_at plan (p ∷ [])
  one-more k p lt at =
      ap (wires_at plan) (take_more positions k p lt ∙ ap (λ (n : ℕ). take k positions ++ n ∷ []) (sym at))
      ∙ filter_map-append (slice_get plan.wires) (take k positions) (p ∷ [])

  found : (p : ℕ) (w : Wire) → slice_get plan.wires p ≡ Some w → wires_at plan (p ∷ []) ≡ w ∷ []
  found p w is = ap (λ (o : Option Wire). filter_map (λ (x : Option Wire). x) (o ∷ [])) is

  not-found : (p : ℕ) → slice_get plan.wires p ≡ None → wires_at plan (p ∷ []) ≡ []
  not-found p is = ap (λ (o : Option Wire). filter_map (λ (x : Option Wire). x) (o ∷ [])) is

  pub bare_skip : (k p at : ℕ) → k < length positions → p ≡ get_or positions k p → slice_get plan.wires p ≡ None
      → AreBareBefore wires plan (take k positions) at → AreBareBefore wires plan (take (k + 1) positions) at
  bare_skip k p at lt is none before = record {
    within = before.within;
    same =
        before.same
        ∙ ap (map bare) (sym (append-nil (wires_at plan (take k positions))) ∙ ap (λ (l : List Wire). wires_at plan (take k positions) ++ l) (sym (not-found p none)) ∙ sym (one-more k p lt is));
  }

  module _ (k p at : ℕ) (w d : Wire) (lt : k < length positions) (is : p ≡ get_or positions k p) (some : slice_get plan.wires p ≡ Some w)
      (before : AreBareBefore wires plan (take k positions) at) where
    grown : wires_at plan (take (k + 1) positions) ≡ wires_at plan (take k positions) ++ w ∷ []
    grown = one-more k p lt is ∙ ap (λ (l : List Wire). wires_at plan (take k positions) ++ l) (found p w some)

    pub bare_more : slice_get wires at ≡ Some (bare w) → AreBareBefore wires plan (take (k + 1) positions) (at + 1)
    bare_more there =
        let within : at < length wires = slice_get_within wires at (bare w) there in
        let same : get_or wires at d ≡ bare w = get_or_from_slice_get wires at (bare w) d there in
        record {
          within = omega arith;
          same =
              take_more wires at d within
              ∙ (λ i. before.same i ++ same i ∷ [])
              ∙ sym (map_push bare (wires_at plan (take k positions)) w)
              ∙ ap (map bare) (sym grown);
        }

    so_far : at ≡ length (map bare (wires_at plan (take k positions)))
    so_far = sym (length-take-le at wires before.within) ∙ ap length before.same

    abbrev later : List Wire
    later = map bare (wires_at plan (drop (k + 1) positions))

    all-listed : map bare (wires_at plan positions) ≡ (map bare (wires_at plan (take k positions)) ++ bare w ∷ []) ++ later
    all-listed =
        ap (λ (l : List ℕ). map bare (wires_at plan l)) (sym (take-append-drop (k + 1) positions))
        ∙ ap (map bare) (filter_map-append (slice_get plan.wires) (take (k + 1) positions) (drop (k + 1) positions))
        ∙ map-append bare (wires_at plan (take (k + 1) positions)) (wires_at plan (drop (k + 1) positions))
        ∙ ap (λ (l : List Wire). l ++ later) (ap (map bare) grown ∙ map_push bare (wires_at plan (take k positions)) w)

    -- the wire there is the one at the position, if all are
    pub bare_there : wires ≡ map bare (wires_at plan positions) → slice_get wires at ≡ Some (bare w)
    bare_there all =
        let front : List Wire = map bare (wires_at plan (take k positions)) ++ bare w ∷ [] in
        let long : length front ≡ length (map bare (wires_at plan (take k positions))) + 1 = length-append (map bare (wires_at plan (take k positions))) (bare w ∷ []) in
        let whole : length wires ≡ length front + length later = ap length (all ∙ all-listed) ∙ length-append front later in
        let within : at < length wires = omega (arith, so_far, long, whole) in
        let same : get_or wires at d ≡ bare w =
        ap (λ (l : List Wire). get_or l at d) (all ∙ all-listed)
        ∙ get_or_append_left front later d at (omega (arith, so_far, long))
        ∙ get_or_push (map bare (wires_at plan (take k positions))) (bare w) d at (sym so_far) in
        slice_get-get_or wires at d within ∙ ap Some same

  pub bare_all : (k at : ℕ) → length positions ≤ k → AreBareBefore wires plan (take k positions) at → at ≡ length wires → wires ≡ map bare (wires_at plan positions)
  bare_all k at past before end =
      sym (take_all at wires (omega arith))
      ∙ before.same
      ∙ ap (λ (l : List ℕ). map bare (wires_at plan l)) (take_all k positions past)

  pub bare_few : (k at : ℕ) → length positions ≤ k → AreBareBefore wires plan (take k positions) at → wires ≡ map bare (wires_at plan positions) → at ≡ length wires
  bare_few k at past before all =
      sym (length-take-le at wires before.within)
      ∙ ap length (before.same ∙ ap (λ (l : List ℕ). map bare (wires_at plan l)) (take_all k positions past) ∙ sym all)
