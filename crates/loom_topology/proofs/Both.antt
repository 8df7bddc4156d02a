-- Two trees joined at point 0.
use Rattle.std.proofs.Common.{ℕ, zero, suc, List, [], ◌∷◌, ◌++◌, length, map, get_or, sum_by, count_by, cond, ◌==◌, leb, ◌≡◌, ◌≢◌, ◌+◌, ◌-◌, ◌<◌, ◌≤◌, false, arith, refl, sym, ◌∙◌, ap, subst, inl, inr, length-append, get_or-append-add, add-zero}
use Rattle.std.specs.List.{AllZip}
use Rattle.std.specs.Int.{sum_through}
use Rattle.std.proofs.Math.Dec.{eqb-suc-zero, eqb-zero-suc}
use Rattle.std.proofs.lemmas.Bool.{cases_lt, cases_eq, le-leb, lt-leb, cond-true, cond-false, eq-eqb, ne_eqb}
use Rattle.std.proofs.lemmas.List.{length-map, get_or-map, get_or_append_left}
use Rattle.std.proofs.lemmas.List.Sums.{sum_by-append, get_or-le-sum_by}
use Rattle.std.proofs.lemmas.List.Elements.{length_all_zip}
use Rattle.loom_topology.specs.Topology.{TopologyView, Leads, branch_at, price_at, node_of}
use Rattle.loom_topology.specs.WiringTree.{Step, Tree, no_step, step_at}
use Rattle.loom_topology.specs.TreeCost.{degree_of}
use Rattle.loom_topology.proofs.Sums.{sum_through-put, sum_through-append, sum_by-same, sum_by-none, sum_by-map}
use Rattle.loom_topology.proofs.Hangs.{hung_at}
use Rattle.loom_topology.proofs.Drawn.{AllZip-like, AllZip-moved, Drawn, cost_at, splice_at}

-- the points of the second tree, behind the n later points of the first; point 0 is the same
abbrev pub lift : ℕ → ℕ → ℕ
lift n zero = zero
lift n (suc p) = suc (n + p)

abbrev pub moved : ℕ → Step → Step
moved n s = record { parent = lift n s.parent; segment = s.segment }

lift-le : (n p : ℕ) → lift n p ≤ n + p
lift-le n zero = omega arith
lift-le n (suc p) = omega arith

lift-same : (n p q : ℕ) → (lift n p == lift n q) ≡ (p == q)
lift-same n zero zero = refl
lift-same n zero (suc q) = eqb-zero-suc (n + q) ∙ sym (eqb-zero-suc q)
lift-same n (suc p) zero = eqb-suc-zero (n + p) ∙ sym (eqb-suc-zero p)
lift-same n (suc p) (suc q) =
    elim (cases_eq p q) [
      | inl e ↦ rw e (eq-eqb (suc (n + q)) (suc (n + q)) refl ∙ sym (eq-eqb (suc q) (suc q) refl))
      | inr other ↦ ne_eqb (suc (n + p)) (suc (n + q)) (λ e. other (omega arith)) ∙ sym (ne_eqb (suc p) (suc q) (λ e. other (omega arith)))
    ]

lift-not_low : (n p q : ℕ) → 0 < q → q ≤ n → (lift n p == q) ≡ false
lift-not_low n zero q some low = ne_eqb 0 q (λ e. omega arith)
lift-not_low n (suc p) q some low = ne_eqb (suc (n + p)) q (λ e. omega arith)

-- the nodes of the points of both
abbrev pub joined_at : ℕ → (ℕ → ℕ) → (ℕ → ℕ) → ℕ → ℕ
joined_at n at_a at_b p = cond (leb p n) (at_a p) (at_b (p - n))

joined_low : (n : ℕ) (at_a at_b : ℕ → ℕ) (p : ℕ) → p ≤ n → joined_at n at_a at_b p ≡ at_a p
joined_low n at_a at_b p low = cond-true (leb p n) (at_a p) (at_b (p - n)) (le-leb p n low)

joined_lift : (n : ℕ) (at_a at_b : ℕ → ℕ) → at_a 0 ≡ at_b 0 → (p : ℕ) → joined_at n at_a at_b (lift n p) ≡ at_b p
joined_lift n at_a at_b e zero = joined_low n at_a at_b 0 (omega arith) ∙ e
joined_lift n at_a at_b e (suc p) =
    let back : suc (n + p) - n ≡ suc p = omega arith in
    cond-false (leb (suc (n + p)) n) (at_a (suc (n + p))) (at_b (suc (n + p) - n)) (lt-leb (suc (n + p)) n (omega arith)) ∙ ap at_b back

hangs_below : (Q : ℕ → ℕ → Type 0) (n : ℕ) (cs hs : List ℕ) → AllZip (λ c h. (h ≤ n) × Q c h) cs hs
    → (k : ℕ) → k < length hs → get_or hs k 0 ≤ n
hangs_below Q n cs [] zip k h = absurd (omega arith)
hangs_below Q n [] (x ∷ hs) zip k h = absurd zip
hangs_below Q n (c ∷ cs) (x ∷ hs) zip zero h = zip.0.0
hangs_below Q n (c ∷ cs) (x ∷ hs) zip (suc k) h = hangs_below Q n cs hs zip.1 k (omega arith)

-- a tree that has a cavity has something at point 0 besides the stem
busy : (topology : TopologyView) (cavities : List ℕ) (v : ℕ) (tree : Tree) (at : ℕ → ℕ) → Drawn topology cavities v tree at
    → 0 < length cavities → 2 ≤ degree_of tree 0
unfolding degree_of
busy topology cavities v tree at drawn some =
    let as_many : length cavities ≡ length tree.hangs =
    length_all_zip (λ c h. (h ≤ length tree.steps) × (at h ≡ node_of topology c)) cavities tree.hangs drawn.hangs in
    elim (cases_eq (length tree.steps) 0) [
      | inl none ↦
          let low : get_or tree.hangs 0 0 ≤ length tree.steps =
          hangs_below (λ c h. at h ≡ node_of topology c) (length tree.steps) cavities tree.hangs drawn.hangs 0 (omega arith) in
          let here : ◌≡◌ {A = ℕ} (cond (get_or tree.hangs 0 0 == 0) 1 0) 1 =
          cond-true (get_or tree.hangs 0 0 == 0) 1 0 (eq-eqb (get_or tree.hangs 0 0) 0 (omega arith)) in
          omega (arith, here, get_or-le-sum_by (λ h. cond (h == 0) 1 0) tree.hangs 0 0 (omega arith))
      | inr steps ↦
          let low : (step_at tree 0).parent ≤ 0 = drawn.below 0 (omega arith) in
          let here : ◌≡◌ {A = ℕ} (cond ((step_at tree 0).parent == 0) 1 0) 1 =
          cond-true ((step_at tree 0).parent == 0) 1 0 (eq-eqb (step_at tree 0).parent 0 (omega arith)) in
          omega (arith, here, get_or-le-sum_by (λ s. cond (s.parent == 0) 1 0) tree.steps 0 no_step (omega arith))
    ]

arrange : (all at_n low high a0 a stem b0 b turned w : ℕ) → all + at_n ≡ low + high → low + a0 ≡ a + stem → high + b0 ≡ b + turned
    → turned ≡ at_n → stem ≡ a0 + b0 + w → all ≡ a + b + w
arrange all at_n low high a0 a stem b0 b turned w cut l h turn s = omega arith

totals : (prices prices_a prices_b splices a b w : ℕ) → prices ≡ prices_a + prices_b → splices ≡ a + b + w
    → prices + splices ≡ (prices_a + a) + (prices_b + b) + w
totals prices prices_a prices_b splices a b w p s = omega arith

abbrev pub joined_steps : Tree → Tree → List Step
joined_steps one two = one.steps ++ map (moved (length one.steps)) two.steps

module _ (topology : TopologyView) (cavities_a cavities_b : List ℕ) (v : ℕ) (one two : Tree) (at_a at_b : ℕ → ℕ)
    (drawn_a : Drawn topology cavities_a v one at_a) (drawn_b : Drawn topology cavities_b v two at_b) where
  abbrev pub at_both : ℕ → ℕ
  at_both = joined_at (length one.steps) at_a at_b

  stems : at_a 0 ≡ at_b 0
  stems = drawn_a.first ∙ sym drawn_b.first

  pub lengths : length (joined_steps one two) ≡ length one.steps + length two.steps
  lengths = omega (arith, length-append one.steps (map (moved (length one.steps)) two.steps), length-map two.steps (moved (length one.steps)))

  -- where a cavity may hang in both
  abbrev pub Lies : ℕ → ℕ → Type 0
  Lies c h = (h ≤ length (joined_steps one two)) × (at_both h ≡ node_of topology c)

  pub hangs_a : AllZip Lies cavities_a one.hangs
  hangs_a = AllZip-like (λ c h. (h ≤ length one.steps) × (at_a h ≡ node_of topology c)) Lies
      (λ c h lies.
      let fits : h ≤ length (joined_steps one two) = omega (arith, lies.0, lengths) in
      (fits, joined_low (length one.steps) at_a at_b h lies.0 ∙ lies.1)) cavities_a one.hangs drawn_a.hangs

  pub hangs_b : AllZip Lies cavities_b (map (lift (length one.steps)) two.hangs)
  hangs_b = AllZip-moved (λ c h. (h ≤ length two.steps) × (at_b h ≡ node_of topology c)) Lies (lift (length one.steps))
      (λ c h lies.
      let fits : lift (length one.steps) h ≤ length (joined_steps one two) = omega (arith, lies.0, lengths, lift-le (length one.steps) h) in
      (fits, joined_lift (length one.steps) at_a at_b stems h ∙ lies.1)) cavities_b two.hangs drawn_b.hangs

  module _ (cavities hs : List ℕ) (each : AllZip Lies cavities hs)
      (counts : (p : ℕ) → hung_at hs p ≡ hung_at one.hangs p + hung_at (map (lift (length one.steps)) two.hangs) p) where
    abbrev pub joined : Tree
    joined = record { steps = joined_steps one two; hangs = hs }

    step_low : (k : ℕ) → k < length one.steps → step_at one k ≡ step_at joined k
    step_low k h = sym (get_or_append_left one.steps (map (moved (length one.steps)) two.steps) no_step k h)

    step_high : (j : ℕ) → j < length two.steps → moved (length one.steps) (step_at two j) ≡ step_at joined (length one.steps + j)
    step_high j h =
        sym (get_or-append-add one.steps (map (moved (length one.steps)) two.steps) j no_step
        ∙ get_or-map (moved (length one.steps)) two.steps j no_step no_step h)

    -- what is asked of step k
    abbrev Fits : ℕ → Step → Type 0
    Fits k s = (s.parent ≤ k) × Leads topology s.segment (at_both s.parent) (at_both (suc k))

    fits_low : (k : ℕ) → k < length one.steps → Fits k (step_at joined k)
    fits_low k h =
        let below : (step_at one k).parent ≤ k = drawn_a.below k h in
        let start : at_a (step_at one k).parent ≡ at_both (step_at one k).parent =
        sym (joined_low (length one.steps) at_a at_b (step_at one k).parent (omega arith)) in
        let end : at_a (suc k) ≡ at_both (suc k) = sym (joined_low (length one.steps) at_a at_b (suc k) (omega arith)) in
        subst (Fits k) (step_low k h) (
          below,
          subst (λ x. Leads topology (step_at one k).segment x (at_both (suc k))) start
              (subst (λ y. Leads topology (step_at one k).segment (at_a (step_at one k).parent) y) end (drawn_a.leads k h)),
        )

    fits_high : (j : ℕ) → j < length two.steps → Fits (length one.steps + j) (step_at joined (length one.steps + j))
    fits_high j h =
        let n : ℕ = length one.steps in
        let below : lift (length one.steps) (step_at two j).parent ≤ length one.steps + j =
        omega (arith, drawn_b.below j h, lift-le (length one.steps) (step_at two j).parent) in
        let start : at_b (step_at two j).parent ≡ at_both (lift (length one.steps) (step_at two j).parent) =
        sym (joined_lift (length one.steps) at_a at_b stems (step_at two j).parent) in
        let end : at_b (suc j) ≡ at_both (suc (length one.steps + j)) = sym (joined_lift (length one.steps) at_a at_b stems (suc j)) in
        subst (Fits (length one.steps + j)) (step_high j h) (
          below,
          subst (λ x. Leads topology (step_at two j).segment x (at_both (suc (length one.steps + j)))) start
              (subst (λ y. Leads topology (step_at two j).segment (at_b (step_at two j).parent) y) end (drawn_b.leads j h)),
        )

    fits : (k : ℕ) → k < length joined.steps → Fits k (step_at joined k)
    fits k h =
        elim (cases_lt k (length one.steps)) [
          | inl low ↦ fits_low k low
          | inr high ↦
              let e : length one.steps + (k - length one.steps) ≡ k = omega arith in
              subst (λ i. Fits i (step_at joined i)) e (fits_high (k - length one.steps) (omega (arith, lengths)))
        ]

    pub drawn_both : Drawn topology cavities v joined at_both
    drawn_both = record {
      first = joined_low (length one.steps) at_a at_b 0 (omega arith) ∙ drawn_a.first;
      below = λ k h. (fits k h).0;
      leads = λ k h. (fits k h).1;
      hangs = each;
    }

    begun_low : (p : ℕ) → 0 < p → p ≤ length one.steps
        → count_by (λ s. s.parent == p) joined.steps ≡ count_by (λ s. s.parent == p) one.steps
    begun_low p some low =
        let none : count_by (λ s. s.parent == p) (map (moved (length one.steps)) two.steps) ≡ 0 =
        sum_by-map (λ s. cond (s.parent == p) 1 0) (moved (length one.steps)) two.steps
        ∙ sum_by-none (λ s. cond (lift (length one.steps) s.parent == p) 1 0) two.steps no_step
        (λ k h. rw (lift-not_low (length one.steps) (step_at two k).parent p some low) refl) in
        omega (arith, none, sum_by-append (λ s. cond (s.parent == p) 1 0) one.steps (map (moved (length one.steps)) two.steps))

    begun_moved : (q : ℕ) → count_by (λ s. s.parent == lift (length one.steps) q) (map (moved (length one.steps)) two.steps)
        ≡ count_by (λ s. s.parent == q) two.steps
    begun_moved q =
        sum_by-map (λ s. cond (s.parent == lift (length one.steps) q) 1 0) (moved (length one.steps)) two.steps
        ∙ sum_by-same (λ s. cond (lift (length one.steps) s.parent == lift (length one.steps) q) 1 0) (λ s. cond (s.parent == q) 1 0)
        two.steps no_step (λ k h. rw (lift-same (length one.steps) (step_at two k).parent q) refl)

    hung_moved : (q : ℕ) → hung_at (map (lift (length one.steps)) two.hangs) (lift (length one.steps) q) ≡ hung_at two.hangs q
    hung_moved q =
        sum_by-map (λ h. cond (h == lift (length one.steps) q) 1 0) (lift (length one.steps)) two.hangs
        ∙ sum_by-same (λ h. cond (lift (length one.steps) h == lift (length one.steps) q) 1 0) (λ h. cond (h == q) 1 0)
        two.hangs 0 (λ k h. rw (lift-same (length one.steps) (get_or two.hangs k 0) q) refl)

    degree_low : (p : ℕ) → 0 < p → p ≤ length one.steps → degree_of joined p ≡ degree_of one p
    unfolding degree_of
    degree_low p some low =
        let none : hung_at (map (lift (length one.steps)) two.hangs) p ≡ 0 =
        sum_by-map (λ h. cond (h == p) 1 0) (lift (length one.steps)) two.hangs
        ∙ sum_by-none (λ h. cond (lift (length one.steps) h == p) 1 0) two.hangs 0
        (λ k h. rw (lift-not_low (length one.steps) (get_or two.hangs k 0) p some low) refl) in
        omega (arith, begun_low p some low, counts p, none)

    degree_high : (j : ℕ) → degree_of joined (suc (length one.steps + j)) ≡ degree_of two (suc j)
    unfolding degree_of
    degree_high j =
        let p : ℕ = suc (length one.steps + j) in
        let none : count_by (λ s. s.parent == suc (length one.steps + j)) one.steps ≡ 0 =
        sum_by-none (λ s. cond (s.parent == suc (length one.steps + j)) 1 0) one.steps no_step (λ k h.
        let below : (step_at one k).parent ≤ k = drawn_a.below k h in
        rw (ne_eqb (step_at one k).parent (suc (length one.steps + j)) (λ e. omega arith)) refl) in
        let unhung : hung_at one.hangs (suc (length one.steps + j)) ≡ 0 =
        sum_by-none (λ h. cond (h == suc (length one.steps + j)) 1 0) one.hangs 0 (λ k h.
        let below : get_or one.hangs k 0 ≤ length one.steps =
        hangs_below (λ c x. at_a x ≡ node_of topology c) (length one.steps) cavities_a one.hangs drawn_a.hangs k h in
        rw (ne_eqb (get_or one.hangs k 0) (suc (length one.steps + j)) (λ e. omega arith)) refl) in
        omega (
          arith,
          none,
          unhung,
          begun_moved (suc j),
          hung_moved (suc j),
          counts (suc (length one.steps + j)),
          sum_by-append (λ s. cond (s.parent == suc (length one.steps + j)) 1 0) one.steps (map (moved (length one.steps)) two.steps),
        )

    degree_stem : degree_of joined 0 + 1 ≡ degree_of one 0 + degree_of two 0
    unfolding degree_of
    degree_stem =
        omega (
          arith,
          begun_moved 0,
          hung_moved 0,
          counts 0,
          sum_by-append (λ s. cond (s.parent == 0) 1 0) one.steps (map (moved (length one.steps)) two.steps),
        )

    splice_low : (p : ℕ) → p ≤ length one.steps → p ≢ 0 → splice_at topology joined at_both p ≡ splice_at topology one at_a p
    splice_low p low other =
        rw (joined_low (length one.steps) at_a at_b p low, degree_low p (omega arith) low) refl

    splice_high : (j : ℕ) → j ≢ 0 → splice_at topology joined at_both (length one.steps + j) ≡ splice_at topology two at_b j
    splice_high zero other = absurd (other refl)
    splice_high (suc j) other =
        let e : suc (length one.steps + j) ≡ length one.steps + suc j = omega arith in
        let place : at_both (suc (length one.steps + j)) ≡ at_b (suc j) = joined_lift (length one.steps) at_a at_b stems (suc j) in
        subst (λ p. splice_at topology joined at_both p ≡ splice_at topology two at_b (suc j)) e
        (rw (place, degree_high j) refl)

    splice_stem : 2 ≤ degree_of one 0 → 2 ≤ degree_of two 0
        → splice_at topology joined at_both 0 ≡ splice_at topology one at_a 0 + splice_at topology two at_b 0 + branch_at topology v
    splice_stem busy_a busy_b =
        let place : at_both 0 ≡ v = joined_low (length one.steps) at_a at_b 0 (omega arith) ∙ drawn_a.first in
        let over : degree_of joined 0 - 2 ≡ (degree_of one 0 - 2) + (degree_of two 0 - 2) + 1 = omega (arith, degree_stem) in
        rw (place, drawn_a.first, drawn_b.first, over) (omega arith)

    splices_both : 2 ≤ degree_of one 0 → 2 ≤ degree_of two 0
        → sum_through (splice_at topology joined at_both) (length one.steps + length two.steps)
        ≡ sum_through (splice_at topology one at_a) (length one.steps) + sum_through (splice_at topology two at_b) (length two.steps)
        + branch_at topology v
    splices_both busy_a busy_b =
        let cut : sum_through (splice_at topology joined at_both) (length one.steps + length two.steps)
        + splice_at topology joined at_both (length one.steps)
        ≡ sum_through (splice_at topology joined at_both) (length one.steps)
        + sum_through (λ j. splice_at topology joined at_both (length one.steps + j)) (length two.steps) =
        sum_through-append (length one.steps) (length two.steps) (splice_at topology joined at_both) in
        let low : sum_through (splice_at topology joined at_both) (length one.steps) + splice_at topology one at_a 0
        ≡ sum_through (splice_at topology one at_a) (length one.steps) + splice_at topology joined at_both 0 =
        sum_through-put (length one.steps) 0 (splice_at topology joined at_both) (splice_at topology one at_a) (omega arith) splice_low in
        let high : sum_through (λ j. splice_at topology joined at_both (length one.steps + j)) (length two.steps) + splice_at topology two at_b 0
        ≡ sum_through (splice_at topology two at_b) (length two.steps) + splice_at topology joined at_both (length one.steps + 0) =
        sum_through-put (length two.steps) 0 (λ j. splice_at topology joined at_both (length one.steps + j)) (splice_at topology two at_b)
        (omega arith) (λ j below. splice_high j) in
        let turn : splice_at topology joined at_both (length one.steps + 0) ≡ splice_at topology joined at_both (length one.steps) =
        ap (splice_at topology joined at_both) (add-zero (length one.steps)) in
        let stem : splice_at topology joined at_both 0
        ≡ splice_at topology one at_a 0 + splice_at topology two at_b 0 + branch_at topology v = splice_stem busy_a busy_b in
        arrange (sum_through (splice_at topology joined at_both) (length one.steps + length two.steps))
        (splice_at topology joined at_both (length one.steps)) (sum_through (splice_at topology joined at_both) (length one.steps))
        (sum_through (λ j. splice_at topology joined at_both (length one.steps + j)) (length two.steps))
        (splice_at topology one at_a 0) (sum_through (splice_at topology one at_a) (length one.steps))
        (splice_at topology joined at_both 0) (splice_at topology two at_b 0) (sum_through (splice_at topology two at_b) (length two.steps))
        (splice_at topology joined at_both (length one.steps + 0)) (branch_at topology v) cut low high turn stem

    pub cost_both : 0 < length cavities_a → 0 < length cavities_b
        → cost_at topology joined at_both ≡ cost_at topology one at_a + cost_at topology two at_b + branch_at topology v
    cost_both some_a some_b =
        let prices : sum_by (λ s. price_at topology s.segment) joined.steps
        ≡ sum_by (λ s. price_at topology s.segment) one.steps + sum_by (λ s. price_at topology s.segment) two.steps =
        sum_by-append (λ s. price_at topology s.segment) one.steps (map (moved (length one.steps)) two.steps)
        ∙ ap (λ x. sum_by (λ s. price_at topology s.segment) one.steps + x)
        (sum_by-map (λ s. price_at topology s.segment) (moved (length one.steps)) two.steps) in
        let splices : sum_through (splice_at topology joined at_both) (length joined.steps)
        ≡ sum_through (splice_at topology one at_a) (length one.steps) + sum_through (splice_at topology two at_b) (length two.steps)
        + branch_at topology v =
        ap (sum_through (splice_at topology joined at_both)) lengths
        ∙ splices_both (busy topology cavities_a v one at_a drawn_a some_a) (busy topology cavities_b v two at_b drawn_b some_b) in
        totals (sum_by (λ s. price_at topology s.segment) joined.steps) (sum_by (λ s. price_at topology s.segment) one.steps)
        (sum_by (λ s. price_at topology s.segment) two.steps) (sum_through (splice_at topology joined at_both) (length joined.steps))
        (sum_through (splice_at topology one at_a) (length one.steps)) (sum_through (splice_at topology two at_b) (length two.steps))
        (branch_at topology v) prices splices
