-- Sums over the points 0 to n, and over lists.
use Rattle.std.proofs.Common.{List, [], ◌∷◌, length, map, get_or, sum_by, refl, add-zero, add-suc, ◌<◌, ℕ, zero, suc, ◌≡◌, ◌≢◌, ◌+◌, ◌≤◌, arith, inl, inr}
use Rattle.std.specs.Int.{sum_through}
use Rattle.std.proofs.lemmas.Bool.{cases_eq}
use Rattle.std.proofs.lemmas.List.Sums.{sum_by-cons}

pub sum_through-le : (n : ℕ) (f g : ℕ → ℕ) → ((p : ℕ) → p ≤ n → f p ≤ g p) → sum_through f n ≤ sum_through g n
sum_through-le zero f g h = h 0 (omega arith)
sum_through-le (suc n) f g h =
    let before : sum_through f n ≤ sum_through g n = sum_through-le n f g (λ p below. h p (omega arith)) in
    let here : f (suc n) ≤ g (suc n) = h (suc n) (omega arith) in
    omega arith

pub sum_through-same : (n : ℕ) (f g : ℕ → ℕ) → ((p : ℕ) → p ≤ n → f p ≡ g p) → sum_through f n ≡ sum_through g n
sum_through-same n f g h =
    let one : sum_through f n ≤ sum_through g n = sum_through-le n f g (λ p below. omega (arith, h p below)) in
    let two : sum_through g n ≤ sum_through f n = sum_through-le n g f (λ p below. omega (arith, h p below)) in
    omega arith

pub part-le-sum_through : (n q : ℕ) (f : ℕ → ℕ) → q ≤ n → f q ≤ sum_through f n
part-le-sum_through zero q f h = let e : q ≡ 0 = omega arith in rw e (omega arith)
part-le-sum_through (suc n) q f h =
    elim (cases_eq q (suc n)) [
      | inl e ↦ rw e (omega arith)
      | inr other ↦ let below : f q ≤ sum_through f n = part-le-sum_through n q f (omega arith) in omega arith
    ]

-- where f is at most g but at q, the sums differ by no more than they do at q
pub sum_through-put_le : (n q : ℕ) (f g : ℕ → ℕ) → q ≤ n → ((p : ℕ) → p ≤ n → p ≢ q → f p ≤ g p)
    → sum_through f n + g q ≤ sum_through g n + f q
sum_through-put_le zero q f g h others = let e : q ≡ 0 = omega arith in rw e (omega arith)
sum_through-put_le (suc n) q f g h others =
    elim (cases_eq q (suc n)) [
      | inl e ↦
          let before : sum_through f n ≤ sum_through g n = sum_through-le n f g (λ p below. others p (omega arith) (omega arith)) in
          rw e (omega arith)
      | inr other ↦
          let before : sum_through f n + g q ≤ sum_through g n + f q =
          sum_through-put_le n q f g (omega arith) (λ p below. others p (omega arith)) in
          let here : f (suc n) ≤ g (suc n) = others (suc n) (omega arith) (omega arith) in
          omega arith
    ]

pub sum_through-put : (n q : ℕ) (f g : ℕ → ℕ) → q ≤ n → ((p : ℕ) → p ≤ n → p ≢ q → f p ≡ g p)
    → sum_through f n + g q ≡ sum_through g n + f q
sum_through-put n q f g h others =
    let one : sum_through f n + g q ≤ sum_through g n + f q =
    sum_through-put_le n q f g h (λ p below other. omega (arith, others p below other)) in
    let two : sum_through g n + f q ≤ sum_through f n + g q =
    sum_through-put_le n q g f h (λ p below other. omega (arith, others p below other)) in
    omega arith

pub sum_through-front : (n : ℕ) (f : ℕ → ℕ) → sum_through f (suc n) ≡ f 0 + sum_through (λ p. f (suc p)) n
sum_through-front zero f = refl
sum_through-front (suc n) f = omega (arith, sum_through-front n f)

-- the sum through n + m, in which point n stands twice
pub sum_through-append : (n m : ℕ) (f : ℕ → ℕ) → sum_through f (n + m) + f n ≡ sum_through f n + sum_through (λ j. f (n + j)) m
sum_through-append n zero f = rw add-zero refl
sum_through-append n (suc m) f = rw add-suc (omega (arith, sum_through-append n m f))

pub sum_by-same : {X : Type 0} (f g : X → ℕ) (xs : List X) (d : X)
    → ((k : ℕ) → k < length xs → f (get_or xs k d) ≡ g (get_or xs k d)) → sum_by f xs ≡ sum_by g xs
sum_by-same f g [] d h = refl
sum_by-same f g (x ∷ xs) d h =
    let rest : sum_by f xs ≡ sum_by g xs = sum_by-same f g xs d (λ k below. h (suc k) (omega arith)) in
    let here : f x ≡ g x = h 0 (omega arith) in
    omega (arith, sum_by-cons f x xs, sum_by-cons g x xs)

pub sum_by-none : {X : Type 0} (f : X → ℕ) (xs : List X) (d : X) → ((k : ℕ) → k < length xs → f (get_or xs k d) ≡ 0)
    → sum_by f xs ≡ 0
sum_by-none f [] d h = refl
sum_by-none f (x ∷ xs) d h =
    let rest : sum_by f xs ≡ 0 = sum_by-none f xs d (λ k below. h (suc k) (omega arith)) in
    let here : f x ≡ 0 = h 0 (omega arith) in
    omega (arith, sum_by-cons f x xs)

pub sum_by-map : {X Y : Type 0} (f : Y → ℕ) (g : X → Y) (xs : List X) → sum_by f (map g xs) ≡ sum_by (λ x. f (g x)) xs
sum_by-map f g [] = refl
sum_by-map f g (x ∷ xs) =
    omega (arith, sum_by-map f g xs, sum_by-cons f (g x) (map g xs), sum_by-cons (λ y. f (g y)) x xs)
