-- What a list holds, after something was put before it, and what a filter and a map of it hold.
use Rattle.std.proofs.Common.{◌≡◌, ℕ, zero, suc, ◌+◌, ◌<◌, ◌≤◌, List, [], ◌∷◌, map, Bool, true, false, cond, refl, sym, ap, subst, ◌∙◌, arith, inl, inr, ◌⊎◌}
use Rattle.std.specs.List.{Contains, filter, range_with_len}
use Rattle.std.proofs.lemmas.Bool.{cases_eq, cases_Bool}

pub Contains-here : {A : Type 0} (x : A) (xs : List A) → Contains (x ∷ xs) x
Contains-here x xs = (0, omega arith, refl)

pub Contains-cons : {A : Type 0} (x y : A) (xs : List A) → Contains xs x → Contains (y ∷ xs) x
Contains-cons x y xs (k, below, at) = (suc k, omega arith, at)

-- the first, or one of the others
pub Contains-cases : {A : Type 0} (x y : A) (xs : List A) → Contains (y ∷ xs) x → (y ≡ x) ⊎ Contains xs x
Contains-cases x y xs (zero, below, at) = inl at
Contains-cases x y xs (suc k, below, at) = inr (k, omega arith, at)

-- the only one
pub Contains-one : {A : Type 0} (x y : A) → Contains (y ∷ []) x → y ≡ x
Contains-one x y h = elim (Contains-cases x y [] h) [ inl same ↦ same | inr (k, below, at) ↦ absurd (omega (arith, below)) ]

-- what was mapped stands in the map
pub Contains-map : {A B : Type 0} (f : A → B) (xs : List A) (x : A) → Contains xs x → Contains (map f xs) (f x)
Contains-map f [] x (k, below, at) = absurd (omega (arith, below))
Contains-map f (y ∷ xs) x h = elim (Contains-cases x y xs h) [
  | inl same ↦ subst (λ z. Contains (map f (y ∷ xs)) (f z)) same (Contains-here (f y) (map f xs))
  | inr later ↦ Contains-cons (f x) (f y) (map f xs) (Contains-map f xs x later)
]

-- and what stands there was mapped
pub Contains-from_map : {A B : Type 0} (f : A → B) (xs : List A) (z : B) → Contains (map f xs) z → (x : A) × Contains xs x × (f x ≡ z)
Contains-from_map f [] z (k, below, at) = absurd (omega (arith, below))
Contains-from_map f (y ∷ xs) z h = elim (Contains-cases z (f y) (map f xs) h) [
  | inl same ↦ (y, Contains-here y xs, same)
  | inr later ↦
      let (x, listed, is) = Contains-from_map f xs z later in
      (x, Contains-cons x y xs listed, is)
]

kept : {A : Type 0} (b : Bool) (x y : A) (xs : List A) → Contains xs x → Contains (cond b (y ∷ xs) xs) x
kept true x y xs h = Contains-cons x y xs h
kept false x y xs h = h

-- what passes the test stands in the filter
pub Contains-filter : {A : Type 0} (p : A → Bool) (xs : List A) (x : A) → Contains xs x → p x ≡ true → Contains (filter p xs) x
Contains-filter p [] x (k, below, at) passes = absurd (omega (arith, below))
Contains-filter p (y ∷ xs) x h passes = elim (Contains-cases x y xs h) [
  | inl same ↦
      subst (λ b. Contains (cond b (y ∷ filter p xs) (filter p xs)) x) (sym (ap p same ∙ passes))
      (subst (Contains (y ∷ filter p xs)) same (Contains-here y (filter p xs)))
  | inr later ↦ kept (p y) x y (filter p xs) (Contains-filter p xs x later passes)
]

-- and what stands there stood in the list and passes the test
pub Contains-from_filter : {A : Type 0} (p : A → Bool) (xs : List A) (x : A) → Contains (filter p xs) x → Contains xs x × (p x ≡ true)
Contains-from_filter p [] x (k, below, at) = absurd (omega (arith, below))
Contains-from_filter p (y ∷ xs) x h = elim (cases_Bool (p y)) [
  | inl holds ↦
      let P = λ (b : Bool). Contains (cond b (y ∷ filter p xs) (filter p xs)) x in
      elim (Contains-cases x y (filter p xs) (subst P holds h)) [
        | inl same ↦ (subst (Contains (y ∷ xs)) same (Contains-here y xs), ap p (sym same) ∙ holds)
        | inr later ↦ let rest = Contains-from_filter p xs x later in (Contains-cons x y xs rest.0, rest.1)
      ]
  | inr lacks ↦
      let P = λ (b : Bool). Contains (cond b (y ∷ filter p xs) (filter p xs)) x in
      let rest = Contains-from_filter p xs x (subst P lacks h) in (Contains-cons x y xs rest.0, rest.1)
]

-- a range holds the numbers from its first on, so many of them
pub Contains-range_with_len : (a n s : ℕ) → a ≤ s → s < a + n → Contains (range_with_len a n) s
Contains-range_with_len a zero s from to = absurd (omega arith)
Contains-range_with_len a (suc n) s from to = elim (cases_eq a s) [
  | inl e ↦ (0, omega arith, e)
  | inr other ↦ Contains-cons s a (range_with_len (a + 1) n) (Contains-range_with_len (a + 1) n s (omega arith) (omega arith))
]

pub Contains-filter_range : (p : ℕ → Bool) (a n s : ℕ) → a ≤ s → s < a + n → p s ≡ true → Contains (filter p (range_with_len a n)) s
Contains-filter_range p a n s from to passes = Contains-filter p (range_with_len a n) s (Contains-range_with_len a n s from to) passes
