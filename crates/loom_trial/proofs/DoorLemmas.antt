-- What is made of the doors, and of one door more.
use Rattle.std.proofs.Common.{◌≡◌, ℕ, zero, suc, ◌+◌, ◌-◌, ◌≤◌, List, [], ◌∷◌, ◌++◌, map, sym, ap, ◌∙◌, arith}
use Rattle.std.specs.List.{range_with_len, flat_map}
use Rattle.std.proofs.lemmas.List.{map-append, flat_map_more}
use Rattle.loom_trial.specs.Trial.{doors}

-- the doors before a number
abbrev pub doors_before : ℕ → List ℕ
doors_before i = doors (i - 1)

range_next : (a k j : ℕ) → a + k ≡ j → range_with_len a (suc k) ≡ range_with_len a k ++ j ∷ []
range_next a zero j is = let same : a ≡ j = omega (arith, is) in ap (λ x. x ∷ []) same
range_next a (suc k) j is = ap (λ xs. a ∷ xs) (range_next (a + 1) k j (omega (arith, is)))

doors_next : (i : ℕ) → 1 ≤ i → doors_before (i + 1) ≡ doors_before i ++ i ∷ []
doors_next i low =
    let more : i + 1 - 1 ≡ suc (i - 1) = omega (arith, low) in
    ap (range_with_len 1) more ∙ range_next 1 (i - 1) i (omega (arith, low))

-- what is made of the doors is made of one door more
pub map_next : {A : Type 0} (f : ℕ → A) (i : ℕ) → 1 ≤ i → map f (doors_before i) ++ f i ∷ [] ≡ map f (doors_before (i + 1))
map_next f i low = sym (ap (map f) (doors_next i low) ∙ map-append f (doors_before i) (i ∷ []))

-- what stands behind others is made of one door more
pub flat_next : {A : Type 0} (f : ℕ → List A) (before : List A) (i : ℕ) → 1 ≤ i → (before ++ flat_map f (doors_before i)) ++ f i ≡ before ++ flat_map f (doors_before (i + 1))
flat_next f before i low =
    flat_map_more f before (doors_before i) i ∙ ap (λ is. before ++ flat_map f is) (sym (doors_next i low))
