-- The names of the true options, collected in order.
use Rattle.std.proofs.Common.{◌≡◌, ℕ, ◌+◌, List, [], ◌∷◌, ◌++◌, map, Bool, true, false, if◌then◌else◌, refl, sym, ap, ◌∙◌, arith}
use Rattle.std.specs.Prelude.{filter}
use Rattle.std.specs.List.{range_with_len}
use Rattle.std.proofs.lemmas.List.{map-append, map-id}
use Rattle.std.proofs.lemmas.List.Elements.{filter-append}
use Rattle.std.proofs.lemmas.List.FromFn.{map-range_with_len_more}

range_more : (i : ℕ) → range_with_len 0 (i + 1) ≡ range_with_len 0 i ++ i ∷ []
range_more i =
    sym (map-id (range_with_len 0 (i + 1))) ∙ map-range_with_len_more (λ n. n) 0 i i (omega arith)
    ∙ ap (λ ns. ns ++ i ∷ []) (map-id (range_with_len 0 i))

-- one option, where it is true
one_name : (p : ℕ → Bool) (name : ℕ → List ℕ) (i : ℕ) → (if p i then name i ∷ [] else []) ≡ map name (filter p (i ∷ []))
one_name p name i =
    elim (p i) as (λ b. (if b then name i ∷ [] else []) ≡ map name (if b then i ∷ [] else [])) [ true ↦ refl | false ↦ refl ]

-- the names of the true options up to one more
pub options_next : (p : ℕ → Bool) (name : ℕ → List ℕ) (made after : List (List ℕ)) (b : Bool) (one : List ℕ) (i : ℕ) → made ≡ map name (filter p (range_with_len 0 i)) → b ≡ p i → one ≡ name i → after ≡ made ++ (if b then one ∷ [] else []) → after ≡ map name (filter p (range_with_len 0 (i + 1)))
options_next p name made after b one i was here called added =
    added
    ∙ ap (λ ns. ns ++ (if b then one ∷ [] else [])) was
    ∙ ap (λ ns. map name (filter p (range_with_len 0 i)) ++ ns)
    (ap (λ v. if v then one ∷ [] else []) here ∙ ap (λ n. if p i then n ∷ [] else []) called ∙ one_name p name i)
    ∙ sym (ap (λ ns. map name (filter p ns)) (range_more i) ∙ ap (map name) (filter-append p (range_with_len 0 i) (i ∷ []))
    ∙ map-append name (filter p (range_with_len 0 i)) (filter p (i ∷ [])))
