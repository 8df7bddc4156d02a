-- The positions of the live wires, and the wires that stand there.
use Rattle.std.proofs.Common.{◌≡◌, ℕ, ◌+◌, Bool, true, false, cond, List, [], ◌∷◌, ◌++◌, append_assoc, append-nil, zero-add, refl, sym, ◌∙◌, ap, ap₂, arith}
use Rattle.std.specs.Prelude.{Option, Some, map, filter, length, slice_get, get_or}
use Rattle.std.specs.List.{range_with_len}
use Rattle.std.specs.Option.{option_map_or}
use Rattle.std.proofs.Math.Seq.{get_or-append_seam}
use Rattle.std.proofs.lemmas.List.{length-append, length_push}
use Rattle.std.proofs.lemmas.List.Elements.{filter-append}
use Rattle.std.proofs.lemmas.Option.{slice_get_read}
use Rattle.loom_topology.proofs.OpenSegments.{range_with_len-more}
use Rattle.loom_types.specs.declared.plan.Plan.{Plan}
use Rattle.loom_formula.specs.RowList.{value_of}
use Rattle.loom_extract.specs.Variant.{live_positions, TakesLiveWires}

-- the numbers below one more that pass a test: that number decides whether it stands at the end
filter-range_more : (p : ℕ → Bool) (n : ℕ) (passes : Bool) → p n ≡ passes
    → filter p (range_with_len 0 n) ++ cond passes (n ∷ []) [] ≡ filter p (range_with_len 0 (n + 1))
filter-range_more p n passes is =
    ap (λ (b : Bool). filter p (range_with_len 0 n) ++ cond b (n ∷ []) []) (sym is)
    ∙ sym (filter-append p (range_with_len 0 n) (n ∷ []))
    ∙ ap (λ (m : ℕ). filter p (range_with_len 0 n ++ m ∷ [])) (sym (zero-add n))
    ∙ ap (filter p) (sym (range_with_len-more 0 n))

pub filter-more_yes : (p : ℕ → Bool) (n : ℕ) (found : List ℕ) → found ≡ filter p (range_with_len 0 n) → p n ≡ true
    → found ++ n ∷ [] ≡ filter p (range_with_len 0 (n + 1))
filter-more_yes p n found so passes = ap (λ (ns : List ℕ). ns ++ n ∷ []) so ∙ filter-range_more p n true passes

pub filter-more_no : (p : ℕ → Bool) (n : ℕ) (found : List ℕ) → found ≡ filter p (range_with_len 0 n) → p n ≡ false
    → found ≡ filter p (range_with_len 0 (n + 1))
filter-more_no p n found so fails = so ∙ sym (append-nil _) ∙ filter-range_more p n false fails

module _ {A : Type 0} (q : A → Bool) where
  -- the elements at the positions that pass, one position more
  picks_more : (at : ℕ → Option A) (p : ℕ → Bool) (n : ℕ) (ns : List ℕ) (x : A) (xs : List A) → at n ≡ Some x → p n ≡ q x
      → map at (filter p ns) ≡ map Some (filter q xs) → map at (filter p (n ∷ ns)) ≡ map Some (filter q (x ∷ xs))
  picks_more at p n ns x xs here same rest =
      ap (λ (b : Bool). map at (cond b (n ∷ filter p ns) (filter p ns))) same
      ∙ elim (q x) as (λ b. map at (cond b (n ∷ filter p ns) (filter p ns)) ≡ map Some (cond b (x ∷ filter q xs) (filter q xs))) [
        | true ↦ ap₂ ◌∷◌ here rest
        | false ↦ rest
      ]

  -- whether the element at a position passes
  abbrev passes_at : List A → ℕ → Bool
  passes_at xs n = option_map_or q (slice_get xs n) false

  -- past the first elements, those at the positions that pass are those that pass
  picks_past : (front xs all : List A) (n : ℕ) → all ≡ front ++ xs → n ≡ length front
      → map (slice_get all) (filter (passes_at all) (range_with_len n (length xs))) ≡ map Some (filter q xs)
  picks_past front [] all n whole at = refl
  picks_past front (x ∷ xs) all n whole at =
      let here : slice_get all n ≡ Some x =
      slice_get_read all (length all) n x refl
      (let long : length all ≡ length front + length (x ∷ xs) = ap length whole ∙ length-append front (x ∷ xs) in omega arith)
      (sym (ap₂ (λ (ys : List A) (k : ℕ). get_or ys k x) whole at ∙ get_or-append_seam front x xs x)) in
      picks_more (slice_get all) (passes_at all) n (range_with_len (n + 1) (length xs)) x xs here
      (ap (λ (o : Option A). option_map_or q o false) here)
      (picks_past (front ++ x ∷ []) xs all (n + 1) (whole ∙ sym (append_assoc front (x ∷ []) xs))
      (ap (λ k. k + 1) at ∙ sym (length_push front x)))

-- the wires at the live positions are the live wires
pub positions_take : (plan : Plan) (choice : ℕ → Bool) → TakesLiveWires plan choice (live_positions plan choice)
positions_take plan choice = picks_past (λ w. value_of plan.rows choice w.row) [] plan.wires plan.wires 0 refl refl
