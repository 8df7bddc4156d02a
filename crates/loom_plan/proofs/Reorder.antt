-- Lists that hold the same, each as often, in another order.
use Rattle.std.proofs.Common.{◌≡◌, ℕ, ◌<◌, ◌||◌, Bool, true, false, List, [], ◌∷◌, map, refl, sym, ap, subst, ◌∙◌, arith, Contains, inl, inr, sum_by}
use Rattle.std.specs.List.{flat_map, list_any}
use Rattle.std.proofs.lemmas.List.Sums.{sum_by-cons}
use Rattle.loom_base.proofs.Contained.{Contains-here, Contains-cons, Contains-cases, Contains-map}

-- one list is the other in another order, by turns of neighbours
pub data Reordered {A : Type 0} : List A → List A → Type 0 where
  nothing : Reordered [] []
  keep : {xs ys : List A} (x : A) → Reordered xs ys → Reordered (x ∷ xs) (x ∷ ys)
  turn : {xs : List A} (x y : A) → Reordered (x ∷ y ∷ xs) (y ∷ x ∷ xs)
  then : {xs ys zs : List A} → Reordered xs ys → Reordered ys zs → Reordered xs zs

pub unmoved : {A : Type 0} (xs : List A) → Reordered xs xs
unmoved [] = nothing
unmoved (x ∷ xs) = keep x (unmoved xs)

pub turned : {A : Type 0} {xs ys : List A} → Reordered xs ys → Reordered ys xs
turned nothing = nothing
turned (keep x r) = keep x (turned r)
turned (turn x y) = turn y x
turned (then r s) = then (turned s) (turned r)

-- what the one list holds, the other holds
pub member-reordered : {A : Type 0} {xs ys : List A} → Reordered xs ys → (z : A) → Contains xs z → Contains ys z
member-reordered nothing z at = at
member-reordered (keep {xs = us} {ys = vs} x r) z at = elim (Contains-cases z x us at) [
  | inl same ↦ subst (Contains (x ∷ vs)) same (Contains-here x vs)
  | inr later ↦ Contains-cons z x vs (member-reordered r z later)
]
member-reordered (turn {xs = us} x y) z at = elim (Contains-cases z x (y ∷ us) at) [
  | inl same ↦ Contains-cons z y (x ∷ us) (subst (Contains (x ∷ us)) same (Contains-here x us))
  | inr later ↦ elim (Contains-cases z y us later) [
    | inl same ↦ subst (Contains (y ∷ x ∷ us)) same (Contains-here y (x ∷ us))
    | inr rest ↦ Contains-cons z y (x ∷ us) (Contains-cons z x us rest)
  ]
]
member-reordered (then r s) z at = member-reordered s z (member-reordered r z at)

-- no two elements are equal
abbrev pub AreDifferent : {A : Type 0} → List A → Type 0
AreDifferent [] = Unit {0}
AreDifferent (x ∷ xs) = (Contains xs x → ⊥) × AreDifferent xs

different-reordered : {A : Type 0} {xs ys : List A} → Reordered xs ys → AreDifferent xs → AreDifferent ys
different-reordered nothing d = d
different-reordered (keep x r) d = (λ at. d.0 (member-reordered (turned r) x at), different-reordered r d.1)
different-reordered (turn {xs = us} x y) d = (
  λ at. elim (Contains-cases y x us at) [
    | inl same ↦ d.0 (subst (λ z. Contains (y ∷ us) z) (sym same) (Contains-here y us))
    | inr later ↦ d.1.0 later
  ],
  (λ at. d.0 (Contains-cons x y us at), d.1.1),
)
different-reordered (then r s) d = different-reordered s (different-reordered r d)

pub different-from_map : {A B : Type 0} (f : A → B) (xs : List A) → AreDifferent (map f xs) → AreDifferent xs
different-from_map f [] d = tt
different-from_map f (x ∷ xs) d = (λ at. d.0 (Contains-map f xs x at), different-from_map f xs d.1)

-- a member can stand first
first_out : {A : Type 0} (ys : List A) (x : A) → Contains ys x → (rest : List A) × Reordered (x ∷ rest) ys
first_out [] x (k, below, at) = absurd (omega (arith, below))
first_out (y ∷ ys) x at = elim (Contains-cases x y ys at) [
  | inl same ↦ (ys, subst (λ z. Reordered (z ∷ ys) (y ∷ ys)) same (unmoved (y ∷ ys)))
  | inr later ↦ let (rest, r) = first_out ys x later in (y ∷ rest, then (turn x y) (keep y r))
]

-- lists without repetition that hold the same are one in another order
pub reordered-from_members : {A : Type 0} (xs ys : List A) → AreDifferent xs → AreDifferent ys
    → ((z : A) → Contains xs z → Contains ys z) → ((z : A) → Contains ys z → Contains xs z) → Reordered xs ys
reordered-from_members [] [] d e there back = nothing
reordered-from_members [] (y ∷ ys) d e there back = absurd (let at = back y (Contains-here y ys) in let lt : at.0 < 0 = at.1 in omega arith)
reordered-from_members (x ∷ xs) ys d e there back =
    let (rest, r) = first_out ys x (there x (Contains-here x xs)) in
    let own = different-reordered (turned r) e in
    let inner = reordered-from_members xs rest d.1 own.1
    (λ z at. elim (Contains-cases z x rest (member-reordered (turned r) z (there z (Contains-cons z x xs at)))) [
      | inl same ↦ absurd (d.0 (subst (λ u. Contains xs u) (sym same) at))
      | inr later ↦ later
    ])
    (λ z at. elim (Contains-cases z x xs (back z (member-reordered r z (Contains-cons z x rest at)))) [
      | inl same ↦ absurd (own.0 (subst (λ u. Contains rest u) (sym same) at))
      | inr later ↦ later
    ]) in
    then (keep x inner) r

-- ---- what doesn't depend on the order

pub sum-reordered : {A : Type 0} (f : A → ℕ) {xs ys : List A} → Reordered xs ys → sum_by f xs ≡ sum_by f ys
sum-reordered f nothing = refl
sum-reordered f (keep {xs = us} {ys = vs} x r) =
    let rest = sum-reordered f r in omega (arith, rest, sum_by-cons f x us, sum_by-cons f x vs)
sum-reordered f (turn {xs = us} x y) =
    omega (arith, sum_by-cons f x (y ∷ us), sum_by-cons f y us, sum_by-cons f y (x ∷ us), sum_by-cons f x us)
sum-reordered f (then r s) = sum-reordered f r ∙ sum-reordered f s

or-swap : (a b c : Bool) → (a || (b || c)) ≡ (b || (a || c))
or-swap true true c = refl
or-swap true false c = refl
or-swap false b c = refl

pub any-reordered : {A : Type 0} (p : A → Bool) {xs ys : List A} → Reordered xs ys → list_any p xs ≡ list_any p ys
any-reordered p nothing = refl
any-reordered p (keep x r) = ap (λ b. p x || b) (any-reordered p r)
any-reordered p (turn {xs = us} x y) = or-swap (p x) (p y) (list_any p us)
any-reordered p (then r s) = any-reordered p r ∙ any-reordered p s

pub map-reordered : {A B : Type 0} (f : A → B) {xs ys : List A} → Reordered xs ys → Reordered (map f xs) (map f ys)
map-reordered f nothing = nothing
map-reordered f (keep x r) = keep (f x) (map-reordered f r)
map-reordered f (turn x y) = turn (f x) (f y)
map-reordered f (then r s) = then (map-reordered f r) (map-reordered f s)

-- two for each element
two_moved : {A : Type 0} (a b c d : A) (rest : List A) → Reordered (a ∷ b ∷ c ∷ d ∷ rest) (c ∷ d ∷ a ∷ b ∷ rest)
two_moved a b c d rest =
    then (keep a (turn {xs = d ∷ rest} b c)) (then (turn {xs = b ∷ d ∷ rest} a c)
    (then (keep c (keep a (turn {xs = rest} b d))) (keep c (turn {xs = b ∷ rest} a d))))

pub twos-reordered : {A B : Type 0} (f g : A → B) {xs ys : List A} → Reordered xs ys
    → Reordered (flat_map (λ x. f x ∷ g x ∷ []) xs) (flat_map (λ x. f x ∷ g x ∷ []) ys)
twos-reordered f g nothing = nothing
twos-reordered f g (keep x r) = keep (f x) (keep (g x) (twos-reordered f g r))
twos-reordered f g (turn {xs = us} x y) = two_moved (f x) (g x) (f y) (g y) (flat_map (λ x. f x ∷ g x ∷ []) us)
twos-reordered f g (then r s) = then (twos-reordered f g r) (twos-reordered f g s)
