-- Lists of numbers, one for each node, and what a push to one of them leaves.
use Rattle.std.proofs.Common.{◌≡◌, ◌<◌, ◌-◌, [], ◌∷◌, ◌++◌, length, map, take, get_or, ℕ, List, sym, ap, ◌∙◌, arith}
use Rattle.std.proofs.Math.ListN.{set}
use Rattle.std.proofs.Math.Seq.{take-append_seam}
use Rattle.std.proofs.lemmas.List.{map-set, get_or-map, get_or-set_same, set-set, set-get_or, length-append, length-map}

-- the lists, seen through f, once one of them has a number more at its end
pub map-set-push : {X : Type 0} (f : X → List ℕ) (lists : List X) (seen : List (List ℕ)) (v s : ℕ) (old new : X) → map f lists ≡ seen → v < length seen → old ≡ get_or lists v old → f new ≡ f old ++ s ∷ [] → map f (set lists v new) ≡ set seen v (get_or seen v [] ++ s ∷ [])
map-set-push f lists seen v s old new e below at pushed =
    let within : v < length lists = omega (arith, ap length e, length-map lists f) in
    map-set f lists v new
    ∙ ap (set (map f lists) v) (pushed ∙ ap (λ l. l ++ s ∷ []) (ap f at ∙ sym (get_or-map f lists v old [] within)))
    ∙ ap (λ l. set l v (get_or l v [] ++ s ∷ [])) e

-- once one of them has lost its last number
pub map-set-pop : {X : Type 0} (f : X → List ℕ) (lists : List X) (seen : List (List ℕ)) (v : ℕ) (old new : X) → map f lists ≡ seen → v < length seen → old ≡ get_or lists v old → f new ≡ take (length (f old) - 1) (f old) → map f (set lists v new) ≡ set seen v (take (length (get_or seen v []) - 1) (get_or seen v []))
map-set-pop f lists seen v old new e below at popped =
    let within : v < length lists = omega (arith, ap length e, length-map lists f) in
    map-set f lists v new
    ∙ ap (set (map f lists) v) (popped ∙ ap (λ l. take (length l - 1) l) (ap f at ∙ sym (get_or-map f lists v old [] within)))
    ∙ ap (λ l. set l v (take (length (get_or l v []) - 1) (get_or l v []))) e

take-push : (l : List ℕ) (s : ℕ) → take (length (l ++ s ∷ []) - 1) (l ++ s ∷ []) ≡ l
take-push l s =
    let e : length (l ++ s ∷ []) - 1 ≡ length l = omega (arith, length-append l (s ∷ [])) in
    ap (λ n. take n (l ++ s ∷ [])) e ∙ take-append_seam l (s ∷ [])

-- a push is undone by a pop
pub pop-push : (lists pushed : List (List ℕ)) (v s : ℕ) → v < length lists → pushed ≡ set lists v (get_or lists v [] ++ s ∷ []) → set pushed v (take (length (get_or pushed v []) - 1) (get_or pushed v [])) ≡ lists
pop-push lists pushed v s within e =
    let at : get_or pushed v [] ≡ get_or lists v [] ++ s ∷ [] = ap (λ l. get_or l v []) e ∙ get_or-set_same lists v _ [] within in
    ap (λ l. set pushed v (take (length l - 1) l)) at
    ∙ ap (set pushed v) (take-push (get_or lists v []) s)
    ∙ ap (λ l. set l v (get_or lists v [])) e
    ∙ set-set lists v _ _
    ∙ set-get_or lists v []
