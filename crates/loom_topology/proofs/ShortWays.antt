-- A least cost for one cavity is at most the dearest price for each node: a way over which it falls passes no node twice.
use Rattle.std.proofs.Common.{ℕ, zero, suc, List, Option, Some, None, cond, ltb, min, length, slice_index, ◌≡◌, ◌+◌, ◌-◌, ◌*◌, ◌^◌, ◌<◌, ◌≤◌, inl, inr, refl, sym, ap, ◌∙◌, subst, arith, pow_pos, unwrap_or}
use Rattle.std.specs.List.{All}
use Rattle.std.specs.Int.{bit_at}
use Rattle.std.proofs.Math.Pow.{pow-lt}
use Rattle.std.proofs.Math.Nat.{mul-le-mul_left}
use Rattle.std.proofs.lemmas.Bool.{cases_eq, cases_lt}
use Rattle.std.proofs.lemmas.Bool.Decides.{nat_tests}
use Rattle.std.proofs.lemmas.List.Elements.{All-get_or}
use Rattle.std.proofs.lemmas.Nat.Bits.{bit_at_and, bit_at_above, bit_at-pow_same, bit_at-pow_other}
use Rattle.loom_topology.specs.Topology.{TopologyView, IsSound, IsSoundSegment, no_segment, price_at, node_of}
use Rattle.loom_topology.specs.Legal.{IsLegal, IsMask, IsAtMost, plus}
use Rattle.loom_topology.specs.Least.{HasLeastCosts}
use Rattle.loom_topology.specs.Ties.{IsFirstPart}
use Rattle.loom_topology.proofs.Leads.{below-from_Leads}
use Rattle.loom_topology.proofs.LeastLegal.{least_costs_are_legal, leads_below}
use Rattle.loom_topology.proofs.Tied.{some_rule_applies}

-- whether a cost is a number below m, as 1 or 0
below_one : Option ℕ → ℕ → ℕ
below_one None m = 0
below_one (Some k) m = cond (ltb k m) 1 0

-- how many of the first n nodes cost less than m
cheaper : (ℕ → Option ℕ) → ℕ → ℕ → ℕ
cheaper cost m zero = 0
cheaper cost m (suc n) = cheaper cost m n + below_one (cost n) m

below_one-few : (x : Option ℕ) (m : ℕ) → below_one x m ≤ 1
unfolding below_one
below_one-few None m = omega arith
below_one-few (Some k) m = grind (arith, nat_tests)

below_one-grows : (x : Option ℕ) (k m : ℕ) → k < m → below_one x k ≤ below_one x m
unfolding below_one
below_one-grows None k m less = omega arith
below_one-grows (Some j) k m less = grind (arith, nat_tests)

below_one-same : (x : Option ℕ) (k m : ℕ) → k < m → x ≡ Some k → below_one x k + 1 ≤ below_one x m
unfolding below_one
below_one-same None k m less e = absurd (cc)
below_one-same (Some j) k m less e =
    let same : j ≡ k = ap (λ x. unwrap_or x 0) e in
    grind (arith, nat_tests)

cheaper-few : (cost : ℕ → Option ℕ) (m n : ℕ) → cheaper cost m n ≤ n
unfolding cheaper
cheaper-few cost m zero = omega arith
cheaper-few cost m (suc n) = omega (arith, cheaper-few cost m n, below_one-few (cost n) m)

cheaper-grows : (cost : ℕ → Option ℕ) (k m n : ℕ) → k < m → cheaper cost k n ≤ cheaper cost m n
unfolding cheaper
cheaper-grows cost k m zero less = omega arith
cheaper-grows cost k m (suc n) less = omega (arith, cheaper-grows cost k m n less, below_one-grows (cost n) k m less)

-- a node that costs k is one more that costs less than m
cheaper-more : (cost : ℕ → Option ℕ) (k m w n : ℕ) → k < m → w < n → cost w ≡ Some k → cheaper cost k n + 1 ≤ cheaper cost m n
unfolding cheaper
cheaper-more cost k m w zero less within e = absurd (omega (arith, within))
cheaper-more cost k m w (suc n) less within e =
    elim (cases_eq w n) [
      | inl same ↦
          omega (arith, cheaper-grows cost k m n less, below_one-same (cost n) k m less (ap cost (sym same) ∙ e))
      | inr other ↦ omega (arith, cheaper-more cost k m w n less (omega arith) e, below_one-grows (cost n) k m less)
    ]

module _ (topology : TopologyView) (terminals : List ℕ) (P : ℕ → ℕ → Option ℕ) (mask : ℕ) (sound : IsSound topology)
    (in_range : All (λ c. c < length topology.cavities) terminals) (costs : HasLeastCosts topology terminals P)
    (range : IsMask terminals mask) (no_part : (part : ℕ) → IsFirstPart mask part → ⊥) where
  legal : IsLegal topology terminals P
  legal = least_costs_are_legal topology terminals P sound in_range costs

  at_home : (x : Option ℕ) (m : ℕ) → IsAtMost x (Some 0) → x ≡ Some m → m ≡ 0
  at_home None m holds e = absurd holds
  at_home (Some k) m holds e = omega (arith, holds, ap (λ y. unwrap_or y 0) e)

  -- what a step pays, and what is left
  left_over : (x : Option ℕ) (price m : ℕ) → plus x (Some price) ≡ Some m → (k : ℕ) × (x ≡ Some k) × (k + price ≡ m)
  left_over None price m e = absurd (cc)
  left_over (Some k) price m e = (k, refl, ap (λ y. unwrap_or y 0) e)

  short : (size m v : ℕ) → m < size → v < length topology.nodes → P mask v ≡ Some m
      → m ≤ 1000000 * cheaper (P mask) m (length topology.nodes)
  short zero m v below node cell = absurd (omega (arith, below))
  short (suc size) m v below node cell =
      elim (some_rule_applies topology terminals P mask v m sound in_range costs range node cell) [
        | inl one ↦
            let is_one = one.1 in
            let home : IsAtMost (P mask v) (Some 0) =
            subst (λ u. IsAtMost (P mask u) (Some 0)) is_one.2
            (subst (λ a. IsAtMost (P a (node_of topology (slice_index terminals (one.0 + 1)))) (Some 0)) (sym is_one.1) (legal.leaf one.0 is_one.0)) in
            omega (arith, at_home (P mask v) m home cell)
        | inr more ↦ elim more [
          | inl split ↦ absurd (no_part split.0 split.1.0)
          | inr step ↦
              let s = step.0 in
              let u = step.1.0 in
              let steps = step.1.1 in
              let tied = steps.1 in
              let same : tied.0 ≡ m = ap (λ y. unwrap_or y 0) (sym tied.2 ∙ cell) in
              let rest = left_over (P mask u) (price_at topology s) tied.0 tied.1 in
              let segment =
              All-get_or (IsSoundSegment (length topology.nodes)) topology.segments s no_segment (below-from_Leads topology s v u steps.0) sound.segments in
              let less : rest.0 < m = omega (arith, rest.2, same, segment.price_from) in
              let end : u < length topology.nodes = leads_below topology s v u sound steps.0 in
              let before = short size rest.0 u (omega (arith, less, below)) end rest.1 in
              let one_more = cheaper-more (P mask) rest.0 m u (length topology.nodes) less end rest.1 in
              omega (arith, before, rest.2, same, segment.price_to, mul-le-mul_left 1000000 one_more)
        ]
      ]

  pub short_way : (m v : ℕ) → v < length topology.nodes → P mask v ≡ Some m → m ≤ 1000000 * length topology.nodes
  short_way m v node cell =
      omega (arith, short (m + 1) m v (omega arith) node cell, mul-le-mul_left 1000000 (cheaper-few (P mask) m (length topology.nodes)))

-- a mask of one cavity has no part that leaves a rest
one_has_no_part : (i part : ℕ) → IsFirstPart (2 ^ i) part → ⊥
one_has_no_part i part is_part =
    let (k, bit, zeros) = is_part.first in
    elim (cases_lt i k) [
      | inl later ↦ omega (arith, zeros i later, bit_at-pow_same i)
      | inr from ↦ elim (cases_eq k i) [
        | inl same ↦ omega (arith, ap (bit_at part) same, bit, bit_at_above part i i is_part.rest (omega arith))
        | inr other ↦
            let inside : bit_at part k ≡ min (bit_at part k) (bit_at (2 ^ i) k) =
            ap (λ n. bit_at n k) (sym is_part.within) ∙ bit_at_and part (2 ^ i) k in
            omega (arith, bit, inside, bit_at-pow_other i k other)
      ]
    ]

pub least_ways_are_short : (topology : TopologyView) (terminals : List ℕ) (P : ℕ → ℕ → Option ℕ) (i v m : ℕ)
    → IsSound topology → All (λ c. c < length topology.cavities) terminals → HasLeastCosts topology terminals P
    → i + 1 < length terminals → v < length topology.nodes → P (2 ^ i) v ≡ Some m → m ≤ 1000000 * length topology.nodes
least_ways_are_short topology terminals P i v m sound in_range costs within node cell =
    let before : i < length terminals - 1 = omega arith in
    short_way topology terminals P (2 ^ i) sound in_range costs (pow_pos i, pow-lt before) (one_has_no_part i) m v node cell
