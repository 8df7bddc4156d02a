-- An element of a list that clauses see through a function.
use Rattle.std.proofs.Common.{◌≡◌, ◌<◌, length, map, get_or, ℕ, List, sym, ap, ◌∙◌, arith, subst}
use Rattle.std.specs.List.{All}
use Rattle.std.proofs.lemmas.List.{length-map, get_or-map}

-- what holds of each of the seen holds of one element, seen
pub All-seen : {X Y : Type 0} (f : X → Y) (P : Y → Type 0) (xs : List X) (i : ℕ) (x : X) → i < length (map f xs) → x ≡ get_or xs i x → All P (map f xs) → P (f x)
All-seen f P xs i x within at all =
    let lt : i < length xs = omega (arith, within, length-map xs f) in
    let e : get_or (map f xs) i (f x) ≡ f x = get_or-map f xs i x (f x) lt ∙ sym (ap f at) in
    subst P e (all i (f x) within)
