-- Sums over what a cut is made of, and how they go on from a point to its parent.
use Rattle.std.proofs.Common.{ℕ, suc, List, [], ◌∷◌, Bool, true, false, cond, not, length, get_or, ◌≡◌, ◌≢◌, ◌+◌, ◌≤◌, ◌==◌, ◌⊎◌, sum_by, count_by, refl, sym, ap, ◌∙◌, arith}
use Rattle.std.specs.List.{All, filter}
use Rattle.std.specs.Int.{sum_through}
use Rattle.std.proofs.lemmas.Bool.{eq-eqb, ne_eqb, eqb-true, eqb-false, not-true, not_from_true, both_ways, cond-true, cond-false}
use Rattle.std.proofs.lemmas.List.{length-map}
use Rattle.std.proofs.lemmas.List.Elements.{All-cons, All-head, All-tail, All-filter, filter_passes}
use Rattle.std.proofs.lemmas.List.Sums.{sum_by-cons, length-filter}
use Rattle.loom_topology.proofs.Sums.{sum_through-same, sum_by-map}
use Rattle.loom_types.specs.LayoutWires.{Thread, Hung, Crossing, Over, Through, Leg, threads_at, threads_elsewhere}

split_at : {X : Type 0} (g : X → ℕ) (x : X) (ins outs : List X) (b : Bool)
    → sum_by g (cond b (x ∷ ins) ins) + sum_by g (cond (not b) (x ∷ outs) outs) ≡ g x + (sum_by g ins + sum_by g outs)
split_at g x ins outs true = omega (arith, sum_by-cons g x ins)
split_at g x ins outs false = omega (arith, sum_by-cons g x outs)

pub sum_by-split : {X : Type 0} (g : X → ℕ) (test : X → Bool) (xs : List X)
    → sum_by g (filter test xs) + sum_by g (filter (λ x. not (test x)) xs) ≡ sum_by g xs
sum_by-split g test [] = refl
sum_by-split g test (x ∷ xs) =
    let e = split_at g x (filter test xs) (filter (λ y. not (test y)) xs) (test x) in
    let rest = sum_by-split g test xs in
    e ∙ omega (arith, rest, sum_by-cons g x xs)

pub none_at : {X : Type 0} (g : X → ℕ) (x : X) (rest : List X) (b : Bool) → (b ≡ true → g x ≡ 0) → sum_by g rest ≡ 0
    → sum_by g (cond b (x ∷ rest) rest) ≡ 0
none_at g x rest true h e = omega (arith, sum_by-cons g x rest, h refl, e)
none_at g x rest false h e = e

pub sum_by-none_passes : {X : Type 0} (g : X → ℕ) (test : X → Bool) (xs : List X) → ((x : X) → test x ≡ true → g x ≡ 0)
    → sum_by g (filter test xs) ≡ 0
sum_by-none_passes g test [] h = refl
sum_by-none_passes g test (x ∷ xs) h = none_at g x (filter test xs) (test x) (h x) (sum_by-none_passes g test xs h)

-- one, where a test holds
abbrev pub one_if : Bool → ℕ
one_if b = cond b 1 0

pub one_if-eq : (a b : ℕ) → a ≡ b → one_if (a == b) ≡ 1
one_if-eq a b e = cond-true (a == b) 1 0 (eq-eqb a b e)

pub one_if-ne : (a b : ℕ) → a ≢ b → one_if (a == b) ≡ 0
one_if-ne a b other = cond-false (a == b) 1 0 (ne_eqb a b other)

-- how a step goes through a pin: from one of its two sides to the other
abbrev pub HasSides : Crossing → Type 0
HasSides (Over segment length) = Unit {0}
HasSides (Through coupler pin near far) = ((near ≡ 1) × (far ≡ 2)) ⊎ ((near ≡ 2) × (far ≡ 1))

-- each step goes up to an earlier point
abbrev pub AreLegs : List Leg → Type 0
AreLegs [] = Unit {0}
AreLegs (leg ∷ legs) = (leg.parent ≤ length legs) × HasSides leg.crossing × AreLegs legs

-- how many threads come to a point from below: those that hang there, and one for each step up to it
abbrev pub below : List Hung → List Leg → ℕ → ℕ
below hung legs point = count_by (λ h. h.point == point) hung + count_by (λ leg. leg.parent == point) legs

-- a sum over threads, crossings, and points with what comes to them
abbrev pub tally : (Thread → ℕ) → (Crossing → ℕ) → (ℕ → ℕ → ℕ) → List Hung → List Leg → ℕ
tally T C S hung legs =
    sum_by (λ h. T h.thread) hung + sum_by (λ leg. C leg.crossing) legs
    + sum_through (λ p. S p (below hung legs p)) (length legs)

-- the hung threads once a thread went up a step
abbrev pub hung_up : ℕ → ℕ → Thread → List Hung → List Hung
hung_up point parent thread hung = record { point = parent; thread = thread } ∷ threads_elsewhere point hung

no_parent : (legs : List Leg) (p : ℕ) → AreLegs legs → length legs ≤ p → count_by (λ leg. leg.parent == p) legs ≡ 0
no_parent [] p are above = refl
no_parent (leg ∷ legs) p are above =
    let rest : count_by (λ l. l.parent == p) legs ≡ 0 = no_parent legs p are.2 (omega arith) in
    let here : one_if (leg.parent == p) ≡ 0 = one_if-ne leg.parent p (λ e. omega (arith, are.0, e)) in
    omega (arith, sum_by-cons (λ l. one_if (l.parent == p)) leg legs)

pub count_at : (hung : List Hung) (p : ℕ) → count_by (λ h. h.point == p) hung ≡ length (threads_at p hung)
count_at hung p =
    sym (length-map (filter (λ h. h.point == p) hung) (λ h. h.thread) ∙ length-filter (λ h. h.point == p) hung)

count_elsewhere : (hung : List Hung) (p q : ℕ) → q ≢ p
    → count_by (λ h. h.point == q) (threads_elsewhere p hung) ≡ count_by (λ h. h.point == q) hung
count_elsewhere hung p q other =
    let parts = sum_by-split (λ h. one_if (h.point == q)) (λ h. h.point == p) hung in
    let none : sum_by (λ h. one_if (h.point == q)) (filter (λ h. h.point == p) hung) ≡ 0 =
    sum_by-none_passes (λ h. one_if (h.point == q)) (λ h. h.point == p) hung
    (λ h here. one_if-ne h.point q (λ e. other (sym e ∙ eqb-true h.point p here))) in
    omega (arith, parts, none)

pub below_top : (hung : List Hung) (leg : Leg) (legs : List Leg) → AreLegs (leg ∷ legs)
    → below hung (leg ∷ legs) (suc (length legs)) ≡ length (threads_at (suc (length legs)) hung)
below_top hung leg legs are =
    omega (arith, count_at hung (suc (length legs)), no_parent (leg ∷ legs) (suc (length legs)) are (omega arith))

pub below_same : (hung : List Hung) (leg : Leg) (legs : List Leg) (thread : Thread) (p : ℕ) → p ≤ length legs
    → below (hung_up (suc (length legs)) leg.parent thread hung) legs p ≡ below hung (leg ∷ legs) p
below_same hung leg legs thread p within =
    let elsewhere = threads_elsewhere (suc (length legs)) hung in
    let new : Hung = record { point = leg.parent; thread = thread } in
    omega (
      arith,
      sum_by-cons (λ h. one_if (h.point == p)) new elsewhere,
      sum_by-cons (λ l. one_if (l.parent == p)) leg legs,
      count_elsewhere hung (suc (length legs)) p (omega arith),
    )

-- what a sum loses and gains where a point's threads are taken together and one goes up its step
pub tally-step : (T : Thread → ℕ) (C : Crossing → ℕ) (S : ℕ → ℕ → ℕ) (hung : List Hung) (leg : Leg) (legs : List Leg) (thread : Thread)
    → AreLegs (leg ∷ legs)
    → tally T C S hung (leg ∷ legs) + T thread
    ≡ tally T C S (hung_up (suc (length legs)) leg.parent thread hung) legs
    + (sum_by T (threads_at (suc (length legs)) hung) + C leg.crossing
    + S (suc (length legs)) (length (threads_at (suc (length legs)) hung)))
tally-step T C S hung leg legs thread are =
    let n = suc (length legs) in
    let new : Hung = record { point = leg.parent; thread = thread } in
    let elsewhere = threads_elsewhere n hung in
    let parts = sum_by-split (λ h. T h.thread) (λ h. h.point == n) hung in
    let here = sum_by-map T (λ h. h.thread) (filter (λ h. h.point == n) hung) in
    let kept = sum_by-cons (λ h. T h.thread) new elsewhere in
    let legs_sum = sum_by-cons (λ l. C l.crossing) leg legs in
    let before = sum_through-same (length legs) (λ p. S p (below (hung_up n leg.parent thread hung) legs p))
    (λ p. S p (below hung (leg ∷ legs) p)) (λ p within. ap (S p) (below_same hung leg legs thread p within)) in
    let top = ap (S n) (below_top hung leg legs are) in
    omega (arith, parts, here, kept, legs_sum, before, top)

-- the points of hung threads are at most n
abbrev pub AreHungBelow : List Hung → ℕ → Type 0
AreHungBelow hung n = All (λ h. h.point ≤ n) hung

pub below-up : (hung : List Hung) (n parent : ℕ) (thread : Thread) → AreHungBelow hung (suc n) → parent ≤ n
    → AreHungBelow (hung_up (suc n) parent thread hung) n
below-up hung n parent thread all within =
    let elsewhere = threads_elsewhere (suc n) hung in
    All-cons (λ h. h.point ≤ n) (record { point = parent; thread = thread }) elsewhere within
    (λ k d lt.
    let small : (get_or elsewhere k d).point ≤ suc n =
    All-filter (λ h. not (h.point == suc n)) (λ h. h.point ≤ suc n) hung all k d lt in
    let other : (get_or elsewhere k d).point ≢ suc n =
    eqb-false (get_or elsewhere k d).point (suc n)
    (not-true ((get_or elsewhere k d).point == suc n) (filter_passes (λ h. not (h.point == suc n)) hung k d lt)) in
    omega (arith, small, other))

-- where all hang at point 0, none hang elsewhere
pub sum_elsewhere : (g : Hung → ℕ) (hung : List Hung) → AreHungBelow hung 0 → sum_by g (threads_elsewhere 0 hung) ≡ 0
sum_elsewhere g [] all = refl
sum_elsewhere g (h ∷ hung) all =
    let first : h.point ≡ 0 = omega (arith, All-head (λ x. x.point ≤ 0) h hung all) in
    none_at g h (threads_elsewhere 0 hung) (not (h.point == 0))
    (λ passes. absurd (both_ways (not (h.point == 0)) (not_from_true (h.point == 0) (eq-eqb h.point 0 first)) passes))
    (sum_elsewhere g hung (All-tail (λ x. x.point ≤ 0) h hung all))

-- the sum where there is no step
pub tally-none : (T : Thread → ℕ) (C : Crossing → ℕ) (S : ℕ → ℕ → ℕ) (hung : List Hung) → AreHungBelow hung 0
    → tally T C S hung [] ≡ sum_by T (threads_at 0 hung) + S 0 (length (threads_at 0 hung))
tally-none T C S hung all =
    let parts = sum_by-split (λ h. T h.thread) (λ h. h.point == 0) hung in
    let here = sum_by-map T (λ h. h.thread) (filter (λ h. h.point == 0) hung) in
    let none = sum_elsewhere (λ h. T h.thread) hung all in
    let count : below hung [] 0 ≡ length (threads_at 0 hung) = omega (arith, count_at hung 0) in
    let top = ap (S 0) count in
    omega (arith, parts, here, none, top)
