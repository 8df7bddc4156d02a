-- Where no rule applies, a least cost could be raised and the table would still be legal; so some rule applies.
use Rattle.std.proofs.Common.{ℕ, List, Option, Some, None, cond, length, slice_index, ◌==◌, ◌≡◌, ◌+◌, ◌-◌, ◌^◌, ◌<◌, ◌≤◌, bit_and, bit_or, arith, refl, sym, ap, ◌∙◌, subst, inl, inr}
use Rattle.std.specs.List.{All}
use Rattle.std.proofs.lemmas.Bool.{cases_eq, cond-true, cond-false, eq-eqb, ne_eqb}
use Rattle.std.proofs.lemmas.Nat.{or_disjoint, and_comm, and_or_self}
use Rattle.loom_topology.specs.Topology.{TopologyView, IsSound, Leads, branch_at, price_at, node_of}
use Rattle.loom_topology.specs.TreeCost.{HasTree, cost_of}
use Rattle.loom_topology.specs.Legal.{IsLegal, IsMask, IsAtMost, HoldsFirst, SplitHolds, plus, cavities_of_mask}
use Rattle.loom_topology.specs.Least.{IsLeast, HasLeastCosts}
use Rattle.loom_topology.specs.Ties.{IsOneAt, AreTied, IsFirstPart, Splits, StepsTo}
use Rattle.loom_topology.proofs.LowerBound.{legal_is_below_every_tree}
use Rattle.loom_topology.proofs.FirstCavity.{first_cavity_suffices}
use Rattle.loom_topology.proofs.LeastLegal.{least_costs_are_legal}

-- the table with another value at one cell
abbrev raised : (ℕ → ℕ → Option ℕ) → ℕ → ℕ → Option ℕ → ℕ → ℕ → Option ℕ
raised P mask v value a u = cond (a == mask) (cond (u == v) value (P a u)) (P a u)

raised-here : (P : ℕ → ℕ → Option ℕ) (mask v : ℕ) (value : Option ℕ) → raised P mask v value mask v ≡ value
raised-here P mask v value =
    cond-true (mask == mask) (cond (v == v) value (P mask v)) (P mask v) (eq-eqb mask mask refl)
    ∙ cond-true (v == v) value (P mask v) (eq-eqb v v refl)

raised-mask : (P : ℕ → ℕ → Option ℕ) (mask v : ℕ) (value : Option ℕ) (a u : ℕ) → (a ≡ mask → ⊥) → raised P mask v value a u ≡ P a u
raised-mask P mask v value a u other = cond-false (a == mask) (cond (u == v) value (P a u)) (P a u) (ne_eqb a mask other)

raised-node : (P : ℕ → ℕ → Option ℕ) (mask v : ℕ) (value : Option ℕ) (a u : ℕ) → (u ≡ v → ⊥) → raised P mask v value a u ≡ P a u
raised-node P mask v value a u other =
    elim (cases_eq a mask) [
      | inl same ↦
          cond-true (a == mask) (cond (u == v) value (P a u)) (P a u) (eq-eqb a mask same)
          ∙ cond-false (u == v) value (P a u) (ne_eqb u v other)
      | inr another ↦ raised-mask P mask v value a u another
    ]

at_most-same : (x : Option ℕ) → IsAtMost x x
at_most-same None = tt
at_most-same (Some m) = omega arith

-- the right side may grow
at_most-through : (x y z : Option ℕ) → IsAtMost x y → IsAtMost y z → IsAtMost x z
at_most-through x y None one two = tt
at_most-through x None (Some n) one two = absurd two
at_most-through None (Some m) (Some n) one two = absurd one
at_most-through (Some l) (Some m) (Some n) one two = omega arith

plus-grows : (a b c d : Option ℕ) → IsAtMost a b → IsAtMost c d → IsAtMost (plus a c) (plus b d)
plus-grows a None c d one two = tt
plus-grows a (Some m) c None one two = tt
plus-grows None (Some m) c (Some n) one two = absurd one
plus-grows (Some k) (Some m) None (Some n) one two = absurd two
plus-grows (Some k) (Some m) (Some l) (Some n) one two = omega arith

-- where the two sides aren't tied, the left side may be raised by one
strict : (m : ℕ) (x y : Option ℕ) → x ≡ Some m → IsAtMost x y → (AreTied y x → ⊥) → IsAtMost (Some (m + 1)) y
strict m x None e below apart = tt
strict m x (Some n) e below apart =
    elim (cases_eq n m) [
      | inl same ↦ absurd (apart (m, ap Some same, e))
      | inr other ↦ let at_most : m ≤ n = rw e at below in omega arith
    ]

-- disjoint masks, the first of which holds the first cavity of both
first_part : (a b : ℕ) → 0 < b → bit_and a b ≡ 0 → HoldsFirst a (a + b) → IsFirstPart (a + b) a
first_part a b some apart holds = record {
  within =
      let union : bit_or b a ≡ a + b = or_disjoint b a (and_comm b a ∙ apart) ∙ omega arith in
      and_comm a (a + b) ∙ rw (← union) (and_or_self a b);
  first = holds;
  rest = omega arith;
}

module _ (topology : TopologyView) (terminals : List ℕ) (P : ℕ → ℕ → Option ℕ) (mask v m : ℕ)
    (sound : IsSound topology) (legal : IsLegal topology terminals P) (cell : P mask v ≡ Some m)
    (not_one : (i : ℕ) → IsOneAt topology terminals mask v i → ⊥)
    (no_split : (part : ℕ) → Splits topology P mask v part → ⊥)
    (no_step : (s u : ℕ) → StepsTo topology P mask v s u → ⊥) where
  abbrev Q : ℕ → ℕ → Option ℕ
  Q = raised P mask v (Some (m + 1))

  -- no cell falls
  grows : (a u : ℕ) → IsAtMost (P a u) (Q a u)
  grows a u =
      elim (cases_eq a mask) [
        | inr other ↦ rw (raised-mask P mask v (Some (m + 1)) a u other) (at_most-same (P a u))
        | inl same ↦ elim (cases_eq u v) [
          | inr another ↦ rw (raised-node P mask v (Some (m + 1)) a u another) (at_most-same (P a u))
          | inl here ↦ rw (same, here, raised-here P mask v (Some (m + 1)), cell) (omega arith)
        ]
      ]

  leaf_raised : (i : ℕ) → i + 1 < length terminals → IsAtMost (Q (2 ^ i) (node_of topology (slice_index terminals (i + 1)))) (Some 0)
  leaf_raised i h =
      let u : ℕ = node_of topology (slice_index terminals (i + 1)) in
      elim (cases_eq (2 ^ i) mask) [
        | inr other ↦
            rw (raised-mask P mask v (Some (m + 1)) (2 ^ i) (node_of topology (slice_index terminals (i + 1))) other) (legal.leaf i h)
        | inl same ↦ elim (cases_eq (node_of topology (slice_index terminals (i + 1))) v) [
          | inl here ↦ absurd (not_one i (h, sym same, here))
          | inr another ↦
              rw (raised-node P mask v (Some (m + 1)) (2 ^ i) (node_of topology (slice_index terminals (i + 1))) another) (legal.leaf i h)
        ]
      ]

  over_raised : (a w s u : ℕ) → IsMask terminals a → w < length topology.nodes → Leads topology s w u
      → IsAtMost (Q a w) (plus (Q a u) (Some (price_at topology s)))
  over_raised a w s u range node leads =
      let before : IsAtMost (P a w) (plus (P a u) (Some (price_at topology s))) = legal.over a w s u range node leads in
      let right : IsAtMost (plus (P a u) (Some (price_at topology s))) (plus (Q a u) (Some (price_at topology s))) =
      plus-grows (P a u) (Q a u) (Some (price_at topology s)) (Some (price_at topology s)) (grows a u)
      (at_most-same (Some (price_at topology s))) in
      let kept : IsAtMost (P a w) (plus (Q a u) (Some (price_at topology s))) =
      at_most-through (P a w) (plus (P a u) (Some (price_at topology s))) (plus (Q a u) (Some (price_at topology s))) before right in
      elim (cases_eq a mask) [
        | inr other ↦ rw (raised-mask P mask v (Some (m + 1)) a w other) kept
        | inl same ↦ elim (cases_eq w v) [
          | inr another ↦ rw (raised-node P mask v (Some (m + 1)) a w another) kept
          | inl here ↦
              let at : Q a w ≡ Some (m + 1) = rw (same, here) (raised-here P mask v (Some (m + 1))) in
              let number : P a w ≡ Some m = rw (same, here) cell in
              let apart : AreTied (plus (P a u) (Some (price_at topology s))) (P a w) → ⊥ =
              λ tied. no_step s u (
                subst (λ x. Leads topology s x u) here leads,
                subst (λ x. AreTied (plus (P x u) (Some (price_at topology s))) (P x v)) same
                    (subst (λ x. AreTied (plus (P a u) (Some (price_at topology s))) (P a x)) here tied),
              ) in
              rw at (at_most-through (Some (m + 1)) (plus (P a u) (Some (price_at topology s))) (plus (Q a u) (Some (price_at topology s)))
              (strict m (P a w) (plus (P a u) (Some (price_at topology s))) number before apart) right)
        ]
      ]

  split_raised : (a b w : ℕ) → 0 < a → 0 < b → bit_and a b ≡ 0 → HoldsFirst a (a + b) → IsMask terminals (a + b)
      → w < length topology.nodes → SplitHolds topology Q a b w
  split_raised a b w some_a some_b apart holds range node =
      let branch : Option ℕ = Some (branch_at topology w) in
      let before : IsAtMost (P (a + b) w) (plus (plus (P a w) (P b w)) (Some (branch_at topology w))) =
      legal.split a b w some_a some_b apart range node in
      let right : IsAtMost (plus (plus (P a w) (P b w)) (Some (branch_at topology w))) (plus (plus (Q a w) (Q b w)) (Some (branch_at topology w))) =
      plus-grows (plus (P a w) (P b w)) (plus (Q a w) (Q b w)) (Some (branch_at topology w)) (Some (branch_at topology w))
      (plus-grows (P a w) (Q a w) (P b w) (Q b w) (grows a w) (grows b w)) (at_most-same (Some (branch_at topology w))) in
      let kept : IsAtMost (P (a + b) w) (plus (plus (Q a w) (Q b w)) (Some (branch_at topology w))) =
      at_most-through (P (a + b) w) (plus (plus (P a w) (P b w)) (Some (branch_at topology w)))
      (plus (plus (Q a w) (Q b w)) (Some (branch_at topology w))) before right in
      elim (cases_eq (a + b) mask) [
        | inr other ↦ rw (raised-mask P mask v (Some (m + 1)) (a + b) w other) kept
        | inl same ↦ elim (cases_eq w v) [
          | inr another ↦ rw (raised-node P mask v (Some (m + 1)) (a + b) w another) kept
          | inl here ↦
              let at : Q (a + b) w ≡ Some (m + 1) = rw (same, here) (raised-here P mask v (Some (m + 1))) in
              let number : P (a + b) w ≡ Some m = rw (same, here) cell in
              let rest : b ≡ mask - a = omega arith in
              let parted : IsFirstPart mask a = subst (λ x. IsFirstPart x a) same (first_part a b some_b apart holds) in
              let untied : AreTied (plus (plus (P a w) (P b w)) (Some (branch_at topology w))) (P (a + b) w) → ⊥ =
              λ tied. no_split a (
                parted,
                subst (λ x. AreTied (plus (plus (P a v) (P x v)) (Some (branch_at topology v))) (P mask v)) rest
                    (subst (λ x. AreTied (plus (plus (P a x) (P b x)) (Some (branch_at topology x))) (P mask x)) here
                    (subst (λ x. AreTied (plus (plus (P a w) (P b w)) (Some (branch_at topology w))) (P x w)) same tied)),
              ) in
              rw at (at_most-through (Some (m + 1)) (plus (plus (P a w) (P b w)) (Some (branch_at topology w)))
              (plus (plus (Q a w) (Q b w)) (Some (branch_at topology w)))
              (strict m (P (a + b) w) (plus (plus (P a w) (P b w)) (Some (branch_at topology w))) number before untied) right)
        ]
      ]

  raised_is_legal : IsLegal topology terminals (raised P mask v (Some (m + 1)))
  raised_is_legal = record {
    leaf = leaf_raised;
    over = over_raised;
    split = first_cavity_suffices topology terminals (raised P mask v (Some (m + 1))) split_raised;
  }

number-tree : (topology : TopologyView) (cavities : List ℕ) (v m : ℕ) (least : Option ℕ) → least ≡ Some m
    → IsLeast topology cavities v least → HasTree topology cavities v m
number-tree topology cavities v m least e is_least = let at : IsLeast topology cavities v (Some m) = rw e at is_least in at.0

pub a_rule_applies : (topology : TopologyView) (terminals : List ℕ) (P : ℕ → ℕ → Option ℕ) (mask v m : ℕ)
    → IsSound topology → All (λ c. c < length topology.cavities) terminals → HasLeastCosts topology terminals P
    → IsMask terminals mask → v < length topology.nodes → P mask v ≡ Some m
    → ((i : ℕ) → IsOneAt topology terminals mask v i → ⊥)
    → ((part : ℕ) → Splits topology P mask v part → ⊥)
    → ((s u : ℕ) → StepsTo topology P mask v s u → ⊥)
    → ⊥
a_rule_applies topology terminals P mask v m sound in_range costs range node cell not_one no_split no_step =
    let legal : IsLegal topology terminals P = least_costs_are_legal topology terminals P sound in_range costs in
    let (tree, is_tree, cost) = number-tree topology (cavities_of_mask terminals mask) v m (P mask v) cell (costs mask v range node) in
    let below : IsAtMost (raised P mask v (Some (m + 1)) mask v) (Some (cost_of topology v tree)) =
    legal_is_below_every_tree topology terminals (raised P mask v (Some (m + 1))) mask v tree sound
    (raised_is_legal topology terminals P mask v m sound legal cell not_one no_split no_step) range node is_tree in
    let too_high : m + 1 ≤ cost_of topology v tree = rw (raised-here P mask v (Some (m + 1))) at below in
    omega arith
