-- Elements and the numbers beside them, and what holds of the members of a list.
use Rattle.std.proofs.Common.{◌≡◌, ℕ, suc, ◌+◌, ◌<◌, List, [], ◌∷◌, ◌++◌, length, map, take, drop, get_or, Some, slice_get, refl, sym, ap, subst, ◌∙◌, arith, Contains, inl, inr, append_assoc}
use Rattle.std.specs.List.{All, AllPairs, AllZip}
use Rattle.std.proofs.lemmas.List.{drop_more, length_push}
use Rattle.loom_base.proofs.Contained.{Contains-here, Contains-cons, Contains-cases, Contains-map}
use Rattle.loom_active.proofs.Pairs.{at_index, pairs-none, pairs-cons, pairs-head, pairs-tail}
use Rattle.loom_plan.specs.Stages.{numbered}

-- what holds of each member holds of all
pub All-members : {X : Type 0} (P : X → Type 0) (xs : List X) → ((x : X) → Contains xs x → P x) → All P xs
All-members P xs each k d lt = each (get_or xs k d) (at_index xs k d lt)

-- elements stand in the relation of their images
pub pairs-of_map : {X Y : Type 0} (R : Y → Y → Type 0) (f : X → Y) (xs : List X) → AllPairs R (map f xs) → AllPairs (λ a b. R (f a) (f b)) xs
pairs-of_map {X} R f [] all = pairs-none (λ (a b : X). R (f a) (f b))
pairs-of_map {X} R f (x ∷ xs) all =
    pairs-cons (λ (a b : X). R (f a) (f b)) x xs (λ y at. pairs-head R (f x) (map f xs) all (f y) (Contains-map f xs y at))
    (pairs-of_map R f xs (pairs-tail R (f x) (map f xs) all))

-- ---- a number beside each element

-- place by place
pub zip-from_places : {X : Type 0} (R : X → ℕ → Type 0) (xs : List X) (ns : List ℕ) → length ns ≡ length xs
    → ((i n : ℕ) (x : X) → slice_get ns i ≡ Some n → slice_get xs i ≡ Some x → R x n) → AllZip R xs ns
zip-from_places R [] [] e each = tt
zip-from_places R [] (n ∷ ns) e each = absurd (omega (arith, e))
zip-from_places R (x ∷ xs) [] e each = absurd (omega (arith, e))
zip-from_places R (x ∷ xs) (n ∷ ns) e each =
    (each 0 n x refl refl, zip-from_places R xs ns (omega (arith, e)) (λ i m y at_n at_x. each (suc i) m y at_n at_x))

pub zip-of_map : {X Y : Type 0} (R : Y → ℕ → Type 0) (f : X → Y) (xs : List X) (ns : List ℕ) → AllZip R (map f xs) ns → AllZip (λ x n. R (f x) n) xs ns
zip-of_map R f [] [] z = tt
zip-of_map R f [] (n ∷ ns) z = absurd z
zip-of_map R f (x ∷ xs) [] z = absurd z
zip-of_map R f (x ∷ xs) (n ∷ ns) z = (z.0, zip-of_map R f xs ns z.1)

-- the first numbers stand beside the first list
pub zip-split : {X Y : Type 0} (R : Y → ℕ → Type 0) (f : X → Y) (xs : List X) (ys : List Y) (ns : List ℕ) → AllZip R (map f xs ++ ys) ns
    → AllZip (λ x n. R (f x) n) xs (take (length xs) ns) × AllZip R ys (drop (length xs) ns)
zip-split R f [] ys ns z = (tt, z)
zip-split R f (x ∷ xs) ys [] z = absurd z
zip-split R f (x ∷ xs) ys (n ∷ ns) z = let (first, rest) = zip-split R f xs ys ns z.1 in ((z.0, first), rest)

module _ {X Y : Type 0} (R : X → ℕ → Type 0) (line : X → ℕ → Y) where
  -- a line is that of an element and the number beside it
  pub numbered-from : (xs : List X) (ns : List ℕ) (y : Y) → AllZip R xs ns → Contains (numbered line xs ns) y
      → (x : X) × (n : ℕ) × Contains xs x × R x n × (line x n ≡ y)
  numbered-from [] ns y z (k, lt, at) = absurd (omega (arith, lt))
  numbered-from (x ∷ xs) [] y z at = absurd z
  numbered-from (x ∷ xs) (n ∷ ns) y z at = elim (Contains-cases y (line x n) (numbered line xs ns) at) [
    | inl same ↦ (x, n, Contains-here x xs, z.0, same)
    | inr later ↦
        let (v, m, has, r, e) = numbered-from xs ns y z.1 later in
        (v, m, Contains-cons v x xs has, r, e)
  ]

  -- each element has its line
  pub numbered-all : (xs : List X) (ns : List ℕ) (x : X) → AllZip R xs ns → Contains xs x → (n : ℕ) × R x n × Contains (numbered line xs ns) (line x n)
  numbered-all [] ns x z (k, lt, at) = absurd (omega (arith, lt))
  numbered-all (v ∷ xs) [] x z at = absurd z
  numbered-all (v ∷ xs) (n ∷ ns) x z at = elim (Contains-cases x v xs at) [
    | inl same ↦
        (n, subst (λ (w : X). R w n) same z.0, subst (λ (w : X). Contains (line v n ∷ numbered line xs ns) (line w n)) same (Contains-here (line v n) (numbered line xs ns)))
    | inr later ↦
        let (m, r, has) = numbered-all xs ns x z.1 later in
        (m, r, Contains-cons (line x m) (line v n) (numbered line xs ns) has)
  ]

  -- what lines have of their elements
  pub map-numbered_elements : {Z : Type 0} (f : Y → Z) (g : X → Z) → ((x : X) (n : ℕ) → f (line x n) ≡ g x) → (xs : List X) (ns : List ℕ) → AllZip R xs ns
      → map f (numbered line xs ns) ≡ map g xs
  map-numbered_elements f g e [] ns z = refl
  map-numbered_elements f g e (x ∷ xs) [] z = absurd z
  map-numbered_elements f g e (x ∷ xs) (n ∷ ns) z = λ i. e x n i ∷ map-numbered_elements f g e xs ns z.1 i

  -- and of their numbers
  pub map-numbered_numbers : (f : Y → ℕ) → ((x : X) (n : ℕ) → f (line x n) ≡ n) → (xs : List X) (ns : List ℕ) → AllZip R xs ns
      → map f (numbered line xs ns) ≡ ns
  map-numbered_numbers f e [] [] z = refl
  map-numbered_numbers f e [] (n ∷ ns) z = absurd z
  map-numbered_numbers f e (x ∷ xs) [] z = absurd z
  map-numbered_numbers f e (x ∷ xs) (n ∷ ns) z = λ i. e x n i ∷ map-numbered_numbers f e xs ns z.1 i

-- one line more
pub numbered-more : {X Y : Type 0} (line : X → ℕ → Y) (all done : List Y) (x : X) (rest : List X) (ns : List ℕ) (n : ℕ)
    → length done < length ns → n ≡ get_or ns (length done) n
    → all ≡ done ++ numbered line (x ∷ rest) (drop (length done) ns)
    → all ≡ (done ++ line x n ∷ []) ++ numbered line rest (drop (length (done ++ line x n ∷ [])) ns)
numbered-more line all done x rest ns n lt at e =
    let more : drop (length done) ns ≡ n ∷ drop (length done + 1) ns =
    drop_more ns (length done) n lt ∙ ap (λ m. m ∷ drop (length done + 1) ns) (sym at) in
    e
    ∙ ap (λ l. done ++ numbered line (x ∷ rest) l) more
    ∙ sym (append_assoc done (line x n ∷ []) (numbered line rest (drop (length done + 1) ns)))
    ∙ ap (λ k. (done ++ line x n ∷ []) ++ numbered line rest (drop k ns)) (sym (length_push done (line x n)))
