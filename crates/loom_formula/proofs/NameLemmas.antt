-- Names are found by their bytes.
use Rattle.std.proofs.Common.{◌≡◌, ℕ, zero, suc, ◌+◌, Bool, true, false, not, List, [], ◌∷◌, length, nat_lt, cond, get_or, Some, None, refl, sym, ap, ◌∙◌, subst, bytes_eq, arith}
use Rattle.std.specs.List.{position, position_or_len, prefix_len, slice_get, IsDistinct, AllByRecursion}
use Rattle.std.proofs.lemmas.Bool.Decides.{nat_tests}
use Rattle.std.proofs.lemmas.List.Quantifiers.{position-Some}
use Rattle.std.proofs.lemmas.Map.Keys.{IsDistinct-head, IsDistinct-tail}
use Rattle.std.proofs.lemmas.Option.{slice_get-get_or, slice_get_within, same_Some}
use Rattle.std.proofs.lemmas.Slice.Eq.{bytes_eq-Decides}

-- the place at which a name is found holds that name
pub position-stored : (names : List (List ℕ)) (name : List ℕ) (at : ℕ) → position (bytes_eq name) names ≡ Some at → slice_get names at ≡ Some name
position-stored names name at found =
    let facts = position-Some (bytes_eq name) names at [] found in
    let same : name ≡ get_or names at [] = (bytes_eq-Decides name (get_or names at [])).0 facts.1 in
    slice_get-get_or names at [] facts.0 ∙ ap Some (sym same)

pub bytes_eq-flip : (a b : List ℕ) → bytes_eq a b ≡ false → bytes_eq b a ≡ false
bytes_eq-flip a b differ =
    let Differ : Bool → Type 0 = λ v. bytes_eq b a ≡ v → bytes_eq b a ≡ false in
    elim (bytes_eq b a) as Differ [
      | true ↦ λ same. absurd (cc (differ, (bytes_eq-Decides a b).1 (sym ((bytes_eq-Decides b a).0 same))))
      | false ↦ λ same. same
    ] refl

-- a name among names that all differ from a name differs from it
pub differs-at : (names : List (List ℕ)) (first name : List ℕ) (at : ℕ) → AllByRecursion (λ other. bytes_eq first other ≡ false) names → slice_get names at ≡ Some name → bytes_eq first name ≡ false
differs-at [] first name at differ found = absurd (cc (found))
differs-at (other ∷ names) first name zero differ found = subst (λ (n : List ℕ). bytes_eq first n ≡ false) (same_Some other name found) differ.0
differs-at (other ∷ names) first name (suc at) differ found = differs-at names first name at differ.1 found

place-at : (names : List (List ℕ)) (name : List ℕ) (at : ℕ) → IsDistinct bytes_eq names → slice_get names at ≡ Some name → position_or_len (bytes_eq name) names ≡ at
place-at [] name at distinct found = absurd (cc (found))
place-at (first ∷ names) name zero distinct found =
    ap (λ b. cond (not b) (1 + prefix_len (λ x. not (bytes_eq name x)) names) 0) ((bytes_eq-Decides name first).1 (sym (same_Some first name found)))
place-at (first ∷ names) name (suc at) distinct found =
    let differ = differs-at names first name at (IsDistinct-head bytes_eq first names distinct) found in
    ap (λ b. cond (not b) (1 + prefix_len (λ x. not (bytes_eq name x)) names) 0) (bytes_eq-flip first name differ)
    ∙ ap (λ n. 1 + n) (place-at names name at (IsDistinct-tail bytes_eq first names distinct) found) ∙ omega arith

-- among names of which each stands once, a name is found where it stands
pub position-at : (names : List (List ℕ)) (name : List ℕ) (at : ℕ) → IsDistinct bytes_eq names → slice_get names at ≡ Some name → position (bytes_eq name) names ≡ Some at
position-at names name at distinct found =
    let place = place-at names name at distinct found in
    let within : nat_lt at (length names) ≡ true = let inside = slice_get_within names at name found in grind (arith, nat_tests) in
    ap (λ n. cond (nat_lt n (length names)) (Some n) None) place ∙ ap (λ b. cond b (Some at) None) within
