-- Lists in which each element stands in a relation to the later ones; lists of the same elements; images of lists.
use Rattle.std.proofs.Common.{◌≡◌, ℕ, zero, suc, ◌<◌, List, [], ◌∷◌, ◌++◌, length, map, get_or, Some, slice_get, refl, ap, subst, arith, Contains, inl, inr}
use Rattle.std.specs.List.{AllPairs}
use Rattle.std.proofs.lemmas.List.{get_or_default}
use Rattle.std.proofs.lemmas.Option.{same_Some}
use Rattle.std.proofs.lemmas.List.Elements.{Contains-append_cases}
use Rattle.loom_base.proofs.Contained.{Contains-here, Contains-cons, Contains-from_map}

pub at_index : {X : Type 0} (xs : List X) (k : ℕ) (d : X) → k < length xs → Contains xs (get_or xs k d)
at_index xs k d lt = (k, lt, get_or_default xs k (get_or xs k d) d lt)

module _ {X : Type 0} (R : X → X → Type 0) where
  pub pairs-none : AllPairs R []
  pairs-none i j d lt in_j = absurd (omega arith)

  pub pairs-cons : (x : X) (xs : List X) → ((y : X) → Contains xs y → R x y) → AllPairs R xs → AllPairs R (x ∷ xs)
  pairs-cons x xs first rest zero zero d lt in_j = absurd (omega arith)
  pairs-cons x xs first rest zero (suc j) d lt in_j = first (get_or xs j d) (at_index xs j d (omega arith))
  pairs-cons x xs first rest (suc i) zero d lt in_j = absurd (omega arith)
  pairs-cons x xs first rest (suc i) (suc j) d lt in_j = rest i j d (omega arith) (omega arith)

  pub pairs-head : (x : X) (xs : List X) → AllPairs R (x ∷ xs) → (y : X) → Contains xs y → R x y
  pairs-head x xs all y (k, lt, e) = subst (λ (z : X). R x z) e (all 0 (suc k) y (omega arith) (omega arith))

  pub pairs-tail : (x : X) (xs : List X) → AllPairs R (x ∷ xs) → AllPairs R xs
  pairs-tail x xs all i j d lt in_j = all (suc i) (suc j) d (omega arith) (omega arith)

  pub pairs-append : (xs ys : List X) → AllPairs R xs → AllPairs R ys → ((x y : X) → Contains xs x → Contains ys y → R x y) → AllPairs R (xs ++ ys)
  pairs-append [] ys left right across = right
  pairs-append (x ∷ xs) ys left right across =
      pairs-cons x (xs ++ ys)
      (λ y at. elim (Contains-append_cases xs ys y at) [ inl in_x ↦ pairs-head x xs left y in_x | inr in_y ↦ across x y (Contains-here x xs) in_y ])
      (pairs-append xs ys (pairs-tail x xs left) right (λ a b at_a at_b. across a b (Contains-cons a x xs at_a) at_b))

-- an image of a list keeps a relation
pub pairs-map : {X Y : Type 0} (R : Y → Y → Type 0) (f : X → Y) (xs : List X) → AllPairs (λ a b. R (f a) (f b)) xs → AllPairs R (map f xs)
pairs-map R f [] all = pairs-none R
pairs-map {X} R f (x ∷ xs) all =
    pairs-cons R (f x) (map f xs)
    (λ y at. let s = Contains-from_map f xs y at in subst (λ z. R (f x) z) s.2 (pairs-head (λ (a b : X). R (f a) (f b)) x xs all s.0 s.1))
    (pairs-map R f xs (pairs-tail (λ (a b : X). R (f a) (f b)) x xs all))

pub slice_get-map : {X Y : Type 0} (f : X → Y) (xs : List X) (i : ℕ) (x : X) → slice_get xs i ≡ Some x → slice_get (map f xs) i ≡ Some (f x)
slice_get-map f [] i x e = absurd (cc)
slice_get-map f (y ∷ xs) zero x e = ap (λ z. Some (f z)) (same_Some y x e)
slice_get-map f (y ∷ xs) (suc i) x e = slice_get-map f xs i x e

-- lists of one length with the same elements at each place are one list
pub same_lists : {X : Type 0} (xs ys : List X) → length xs ≡ length ys → ((i : ℕ) (x y : X) → slice_get xs i ≡ Some x → slice_get ys i ≡ Some y → x ≡ y) → xs ≡ ys
same_lists [] [] e same = refl
same_lists [] (y ∷ ys) e same = absurd (omega arith)
same_lists (x ∷ xs) [] e same = absurd (omega arith)
same_lists (x ∷ xs) (y ∷ ys) e same =
    let first = same 0 x y refl refl in
    let rest = same_lists xs ys (omega arith) (λ i a b at_a at_b. same (suc i) a b at_a at_b) in
    λ i. first i ∷ rest i
