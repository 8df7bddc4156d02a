-- How much is left to lay: it falls with each step and each split, and bounds the steps.
use Rattle.std.proofs.Common.{ℕ, zero, suc, List, [], ◌∷◌, Option, Some, None, Bool, true, false, cond, length, count_by, ◌≡◌, ◌+◌, ◌-◌, ◌*◌, ◌<◌, ◌≤◌, arith, sym, ◌∙◌, ap, subst, inl, inr, pow_pos, length-append}
use Rattle.std.specs.List.{range_with_len}
use Rattle.std.proofs.lemmas.Bool.{cases_eq, lt-ltb, le-ltb, ltb-true, cases_Bool, cond-true, cond-false}
use Rattle.std.proofs.lemmas.List.FromFn.{length-range_with_len}
use Rattle.std.proofs.lemmas.List.Sums.{sum_by-cons, count_by-le-length}
use Rattle.loom_topology.specs.Topology.{TopologyView, IsSound, no_segment, price_at}
use Rattle.loom_topology.specs.Ties.{IsFirstPart, StepsTo}
use Rattle.loom_topology.proofs.Leads.{below-from_Leads}
use Rattle.loom_layout.specs.Layout.{Laying, Laid, hang, split, over}
use Rattle.loom_layout.specs.Walk.{costs_less, nearer, left_of}
use Rattle.loom_layout.proofs.Apart.{some_part, some_rest}
use Rattle.loom_layout.proofs.Grown.{sum_of_two}

-- a step goes over a segment that is there, and stays among the nodes
pub step_within : (topology : TopologyView) (least : ℕ → ℕ → Option ℕ) (mask v s u : ℕ) → IsSound topology
    → StepsTo topology least mask v s u → (s < length topology.segments) × (u < length topology.nodes) × (1 ≤ price_at topology s)
step_within topology least mask v s u sound steps =
    let below = below-from_Leads topology s v u steps.0 in
    let g = sound.segments s no_segment below in (
      below,
      elim steps.0.1 [
        | inl e ↦ subst (λ (w : ℕ). w < length topology.nodes) e.1 g.to_below
        | inr e ↦ subst (λ (w : ℕ). w < length topology.nodes) e.0 g.from_below
      ],
      g.price_from,
    )

count-cons : (p : ℕ → Bool) (x : ℕ) (xs : List ℕ) → count_by p (x ∷ xs) ≡ cond (p x) 1 0 + count_by p xs
count-cons p x xs = sum_by-cons (λ y. cond (p y) 1 0) x xs

counted : (b : Bool) → b ≡ true → ◌≡◌ {A = ℕ} (cond b 1 0) 1
counted b e = cond-true b 1 0 e

uncounted : (b : Bool) → b ≡ false → ◌≡◌ {A = ℕ} (cond b 1 0) 0
uncounted b e = cond-false b 1 0 e

-- what passes the first test passes the second
at_most_at : (p q : Bool) → (p ≡ true → q ≡ true) → ◌≤◌ (cond p 1 0) (cond q 1 0)
at_most_at p q to = elim (cases_Bool p) [
  | inl passes ↦ omega (arith, counted p passes, counted q (to passes))
  | inr fails ↦ omega (arith, uncounted p fails)
]

count_at_most : (p q : ℕ → Bool) → ((k : ℕ) → p k ≡ true → q k ≡ true) → (xs : List ℕ) → count_by p xs ≤ count_by q xs
count_at_most p q to [] = omega arith
count_at_most p q to (x ∷ xs) =
    omega (arith, count-cons p x xs, count-cons q x xs, at_most_at (p x) (q x) (to x), count_at_most p q to xs)

-- and a number of the range passes the second alone
count_less : (p q : ℕ → Bool) → ((k : ℕ) → p k ≡ true → q k ≡ true) → (u : ℕ) → p u ≡ false → q u ≡ true
    → (a n : ℕ) → a ≤ u → u < a + n → count_by p (range_with_len a n) < count_by q (range_with_len a n)
count_less p q to u out in_it a zero from below = absurd (omega (arith, from, below))
count_less p q to u out in_it a (suc n) from below = elim (cases_eq u a) [
  | inl e ↦
      let fails : p a ≡ false = ap p (sym e) ∙ out in
      let passes : q a ≡ true = ap q (sym e) ∙ in_it in
      omega (
        arith,
        count-cons p a (range_with_len (a + 1) n),
        count-cons q a (range_with_len (a + 1) n),
        uncounted (p a) fails,
        counted (q a) passes,
        count_at_most p q to (range_with_len (a + 1) n),
      )
  | inr other ↦
      omega (
        arith,
        count-cons p a (range_with_len (a + 1) n),
        count-cons q a (range_with_len (a + 1) n),
        at_most_at (p a) (q a) (to a),
        count_less p q to u out in_it (a + 1) n (omega (arith, from, other)) (omega (arith, below)),
      )
]

less_through : (x : Option ℕ) (m n : ℕ) → m ≤ n → costs_less x (Some m) ≡ true → costs_less x (Some n) ≡ true
less_through None m n below e = absurd (let f : false ≡ true = e in cc)
less_through (Some k) m n below e = lt-ltb k n (omega (arith, below, ltb-true k m e))

module _ (topology : TopologyView) (least : ℕ → ℕ → Option ℕ) where
  pub nearer-le : (mask v : ℕ) → nearer topology least mask v ≤ length topology.nodes
  unfolding nearer
  nearer-le mask v = omega (
    arith,
    count_by-le-length (λ u. costs_less (least mask u) (least mask v)) (range_with_len 0 (length topology.nodes)),
    length-range_with_len 0 (length topology.nodes),
  )

  -- a step comes to a node of a lower cost
  pub nearer_after : (mask v s u : ℕ) → IsSound topology → StepsTo topology least mask v s u
      → nearer topology least mask u < nearer topology least mask v
  unfolding nearer
  nearer_after mask v s u sound steps =
      let (there, node, price) = step_within topology least mask v s u sound steps in
      let (k, sum, whole) = steps.1 in
      let (m, n, behind, paid, total) = sum_of_two (least mask u) (Some (price_at topology s)) k sum in
      let cost : price_at topology s ≡ n = let f : Some (price_at topology s) ≡ Some n = paid in cc in
      let less : m < k = omega (arith, price, total, cost) in
      let out : costs_less (least mask u) (least mask u) ≡ false =
      ap (λ x. costs_less x x) behind ∙ le-ltb m m (omega arith) in
      let in_it : costs_less (least mask u) (least mask v) ≡ true =
      ap (λ x. costs_less x (least mask v)) behind ∙ (ap (costs_less (Some m)) whole ∙ lt-ltb m k less) in
      count_less (λ w. costs_less (least mask w) (least mask u)) (λ w. costs_less (least mask w) (least mask v))
      (λ w e.
      let low : costs_less (least mask w) (Some m) ≡ true = ap (costs_less (least mask w)) (sym behind) ∙ e in
      ap (costs_less (least mask w)) whole ∙ less_through (least mask w) m k (omega (arith, less)) low)
      u out in_it 0 (length topology.nodes) (omega arith) (omega (arith, node))

  pub left_after : (mask v s u : ℕ) → IsSound topology → StepsTo topology least mask v s u
      → left_of topology least mask u < left_of topology least mask v
  left_after mask v s u sound steps = omega (arith, nearer_after mask v s u sound steps)

  one_more : (a n : ℕ) → 0 < a → n ≤ a * n
  one_more zero n some = absurd (omega (arith, some))
  one_more (suc a) n some = omega arith

  whole_left : (part rest mask n : ℕ) → part + rest ≡ mask → 2 * mask * n ≡ 2 * part * n + 2 * rest * n
  whole_left part rest mask n e = rw (← e) (omega arith)

  module _ (mask v part : ℕ) (first : IsFirstPart mask part) where
    parts : 2 * mask * length topology.nodes ≡ 2 * part * length topology.nodes + 2 * (mask - part) * length topology.nodes
    parts = whole_left part (mask - part) mask (length topology.nodes) (omega (arith, first.rest))

    -- each part leaves less
    pub left_part : 0 < length topology.nodes → left_of topology least part v < left_of topology least mask v
    left_part some = omega (
      arith,
      parts,
      some,
      nearer-le part v,
      one_more (mask - part) (length topology.nodes) (some_rest mask part first),
    )

    pub left_rest : 0 < length topology.nodes → left_of topology least (mask - part) v < left_of topology least mask v
    left_rest some = omega (
      arith,
      parts,
      some,
      nearer-le (mask - part) v,
      one_more part (length topology.nodes) (some_part mask part first),
    )

    -- and both together no more, but for two steps over each node
    pub left_both : left_of topology least part v + left_of topology least (mask - part) v
        ≤ left_of topology least mask v + 2 * length topology.nodes
    left_both = omega (arith, parts, nearer-le part v, nearer-le (mask - part) v)

  -- no more steps are taken than were left
  pub few_steps : (terminals : List ℕ) (sound : IsSound topology) {mask v point : ℕ} {before after : Laying}
      → Laid topology terminals least mask v point before after
      → length after.steps + 2 * length topology.nodes ≤ length before.steps + left_of topology least mask v
  few_steps terminals sound {mask} {v} (hang i one) =
      let some : 0 < mask = omega (arith, one.1, pow_pos i) in
      omega (arith, one_more mask (length topology.nodes) some)
  few_steps terminals sound {mask} {v} (split part none low first rest) =
      omega (arith, few_steps terminals sound first, few_steps terminals sound rest, left_both mask v part low.holds.0)
  few_steps terminals sound {mask} {v} {point} {before} (over s u none whole low steps rest) =
      let longer = length-append before.steps (record { parent = point; segment = s } ∷ []) in
      omega (arith, few_steps terminals sound rest, left_after mask v s u sound steps, longer)
