-- Of a split and its mirror image, one part holds the first cavity.
use Rattle.std.proofs.Common.{ℕ, zero, suc, List, Option, Some, None, length, ◌≡◌, ◌⊎◌, ◌+◌, ◌/◌, ◌%◌, ◌<◌, ◌≤◌, max, bit_and, refl, sym, ap, ◌∙◌, subst, inl, inr, arith, add_comm}
use Rattle.std.specs.Int.{bit_at}
use Rattle.std.proofs.lemmas.Bool.{cases_eq}
use Rattle.std.proofs.lemmas.Nat.{or_disjoint, and_comm}
use Rattle.std.proofs.lemmas.Nat.Bits.{bit_at_or, bit_at-suc, bit_at_lowest, bit_at-lt}
use Rattle.loom_topology.specs.Topology.{TopologyView, branch_at}
use Rattle.loom_topology.specs.Legal.{IsMask, IsAtMost, HoldsFirst, SplitHolds, plus}

-- a mask that isn't empty holds its own first cavity
holds_first_below : (size mask : ℕ) → mask ≤ size → 0 < mask → HoldsFirst mask mask
holds_first_below zero mask small some = absurd (omega arith)
holds_first_below (suc size) mask small some =
    elim (cases_eq (mask % 2) 1) [
      | inl odd ↦ (0, bit_at_lowest mask ∙ odd, λ j h. absurd (omega arith))
      | inr not_odd ↦
          let even : mask % 2 ≡ 0 = omega arith in
          let (i, here, none) = holds_first_below size (mask / 2) (omega arith) (omega arith) in
          (suc i, bit_at-suc mask i ∙ here, λ j h. below_suc mask i even none j h)
    ]
  where
    below_suc : (n i : ℕ) → n % 2 ≡ 0 → ((j : ℕ) → j < i → bit_at (n / 2) j ≡ 0) → (j : ℕ) → j < suc i → bit_at n j ≡ 0
    below_suc n i even none zero h = bit_at_lowest n ∙ even
    below_suc n i even none (suc j) h = bit_at-suc n j ∙ none j (omega arith)

pub holds_first : (mask : ℕ) → 0 < mask → HoldsFirst mask mask
holds_first mask some = holds_first_below mask mask (omega arith) some

pub one_holds_first : (a b : ℕ) → 0 < a → bit_and a b ≡ 0 → HoldsFirst a (a + b) ⊎ HoldsFirst b (a + b)
one_holds_first a b some apart =
    let (i, here, none) = holds_first (a + b) (omega arith) in
    let union : bit_at (a + b) i ≡ max (bit_at a i) (bit_at b i) =
    ap (λ n. bit_at n i) (sym (or_disjoint a b apart)) ∙ bit_at_or a b i in
    elim (cases_eq (bit_at a i) 1) [
      | inl in_a ↦ inl (i, in_a, none)
      | inr not_a ↦
          let in_b : bit_at b i ≡ 1 = omega (arith, bit_at-lt a i, bit_at-lt b i) in
          inr (i, in_b, none)
    ]

plus-comm : (x y : Option ℕ) → plus x y ≡ plus y x
plus-comm None None = refl
plus-comm None (Some n) = refl
plus-comm (Some m) None = refl
plus-comm (Some m) (Some n) = ap Some (add_comm m n)

pub split_mirror : (topology : TopologyView) (P : ℕ → ℕ → Option ℕ) (a b v : ℕ) → SplitHolds topology P b a v → SplitHolds topology P a b v
split_mirror topology P a b v h =
    let numbers : plus (P b v) (P a v) ≡ plus (P a v) (P b v) = plus-comm (P b v) (P a v) in
    subst (λ mask. IsAtMost (P mask v) (plus (plus (P a v) (P b v)) (Some (branch_at topology v)))) (add_comm b a)
    (subst (λ x. IsAtMost (P (b + a) v) (plus x (Some (branch_at topology v)))) numbers h)

-- so only parts that hold the first cavity need a test
pub first_cavity_suffices : (topology : TopologyView) (terminals : List ℕ) (P : ℕ → ℕ → Option ℕ)
    → ((a b v : ℕ) → 0 < a → 0 < b → bit_and a b ≡ 0 → HoldsFirst a (a + b) → IsMask terminals (a + b)
    → v < length topology.nodes → SplitHolds topology P a b v)
    → (a b v : ℕ) → 0 < a → 0 < b → bit_and a b ≡ 0 → IsMask terminals (a + b) → v < length topology.nodes
    → SplitHolds topology P a b v
first_cavity_suffices topology terminals P first a b v some_a some_b apart range node =
    elim (one_holds_first a b some_a apart) [
      | inl held ↦ first a b v some_a some_b apart held range node
      | inr held ↦
          let turned : HoldsFirst b (b + a) = subst (HoldsFirst b) (add_comm a b) held in
          let range_turned : IsMask terminals (b + a) = subst (IsMask terminals) (add_comm a b) range in
          split_mirror topology P a b v (first b a v some_b some_a (and_comm b a ∙ apart) turned range_turned node)
    ]
