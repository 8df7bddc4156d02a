-- Which rule applies at a cell is found by looking at all of them, so some rule applies.
use Rattle.std.proofs.Common.{ℕ, zero, suc, List, Option, Some, None, length, slice_index, ◌≡◌, ◌⊎◌, ◌+◌, ◌-◌, ◌^◌, ◌<◌, ◌≤◌, bit_and, arith, refl, sym, ap, ◌∙◌, subst, inl, inr, true, false, Bool, IsTrue, unwrap_or}
use Rattle.std.specs.List.{All}
use Rattle.std.specs.Int.{bit_at}
use Rattle.std.proofs.lemmas.Bool.{cases_eq, cases_lt}
use Rattle.loom_topology.specs.Topology.{TopologyView, IsSound, Leads, segment_at, branch_at, price_at, node_of}
use Rattle.loom_topology.specs.WiringTree.{other_end}
use Rattle.loom_topology.specs.Legal.{IsMask, HoldsFirst, plus}
use Rattle.loom_topology.specs.Least.{HasLeastCosts}
use Rattle.loom_topology.specs.Ties.{IsOneAt, AreTied, IsFirstPart, Splits, StepsTo}
use Rattle.loom_topology.proofs.Leads.{below-from_Leads}
use Rattle.loom_topology.proofs.OpenAt.{leads_to}
use Rattle.loom_topology.proofs.FirstCavity.{holds_first}
use Rattle.loom_topology.proofs.Places.{leads_on}
use Rattle.loom_topology.proofs.Raised.{a_rule_applies}

-- the fact or its opposite
abbrev pub Either : Type 0 → Type 0
Either A = A ⊎ (A → ⊥)

both : (A B : Type 0) → Either A → Either B → Either (A × B)
both A B (inl a) (inl b) = inl (a, b)
both A B (inl a) (inr fails) = inr (λ p. fails p.1)
both A B (inr fails) b = inr (λ p. fails p.0)

-- some number below n has the property, or none has
search_below : (P : ℕ → Type 0) → ((k : ℕ) → Either (P k)) → (n : ℕ) → ((k : ℕ) × P k) ⊎ ((k : ℕ) → k < n → P k → ⊥)
search_below P test zero = inr (λ k below. absurd (omega arith))
search_below P test (suc n) =
    elim (test n) [
      | inl holds ↦ inl (n, holds)
      | inr fails ↦ elim (search_below P test n) [
        | inl found ↦ inl found
        | inr none ↦ inr (λ k below. elim (cases_eq k n) [
          | inl same ↦ λ holds. fails (subst P same holds)
          | inr other ↦ none k (omega arith)
        ])
      ]
    ]

equal : (a b : ℕ) → Either (a ≡ b)
equal a b = cases_eq a b

less : (a b : ℕ) → Either (a < b)
less a b = elim (cases_lt a b) [ inl lt ↦ inl lt | inr ge ↦ inr (λ lt. omega (arith, lt, ge)) ]

at_most : (a b : ℕ) → Either (a ≤ b)
at_most a b = elim (cases_lt b a) [ inl gt ↦ inr (λ le. omega (arith, gt, le)) | inr le ↦ inl le ]

tied : (a b : Option ℕ) → Either (AreTied a b)
tied None b = inr (λ (m, one, other). cc)
tied (Some n) None = inr (λ (m, one, other). cc)
tied (Some n) (Some k) = elim (cases_eq n k) [
  | inl same ↦ inl (k, ap Some same, refl)
  | inr differs ↦ inr (λ (m, one, other). differs (ap (λ x. unwrap_or x 0) (one ∙ sym other)))
]

-- the part has a cavity that no cavity of the mask comes before
held : (part mask : ℕ) → 0 < mask → Either (HoldsFirst part mask)
held part mask some =
    let (first, here, none) = holds_first mask some in
    elim (search_below (λ i. (bit_at part i ≡ 1) × (i ≤ first)) (λ i. both (bit_at part i ≡ 1) (i ≤ first) (equal (bit_at part i) 1) (at_most i first))
    (first + 1)) [
      | inl found ↦ inl (found.0, found.1.0, λ j below. none j (omega (arith, below, found.1.1)))
      | inr no_bit ↦ inr (λ (i, bit, zeros). elim (cases_lt first i) [
        | inl later ↦ absurd (omega (arith, here, zeros first later))
        | inr early ↦ no_bit i (omega arith) (bit, early)
      ])
    ]

first_part_or_not : (mask part : ℕ) → 0 < mask → Either (IsFirstPart mask part)
first_part_or_not mask part some =
    elim (both (bit_and part mask ≡ part) (HoldsFirst part mask × (part < mask)) (equal (bit_and part mask) part)
    (both (HoldsFirst part mask) (part < mask) (held part mask some) (less part mask))) [
      | inl holds ↦ inl (record { within = holds.0; first = holds.1.0; rest = holds.1.1 })
      | inr fails ↦ inr (λ is_part. fails (is_part.within, (is_part.first, is_part.rest)))
    ]

splits_or_not : (topology : TopologyView) (P : ℕ → ℕ → Option ℕ) (mask v part : ℕ) → 0 < mask → Either (Splits topology P mask v part)
splits_or_not topology P mask v part some =
    both (IsFirstPart mask part) (AreTied (plus (plus (P part v) (P (mask - part) v)) (Some (branch_at topology v))) (P mask v))
    (first_part_or_not mask part some) (tied (plus (plus (P part v) (P (mask - part) v)) (Some (branch_at topology v))) (P mask v))

one_or_not : (topology : TopologyView) (terminals : List ℕ) (mask v i : ℕ) → Either (IsOneAt topology terminals mask v i)
one_or_not topology terminals mask v i =
    elim (both (i + 1 < length terminals) ((mask ≡ 2 ^ i) × (node_of topology (slice_index terminals (i + 1)) ≡ v)) (less (i + 1) (length terminals))
    (both (mask ≡ 2 ^ i) (node_of topology (slice_index terminals (i + 1)) ≡ v) (equal mask (2 ^ i))
    (equal (node_of topology (slice_index terminals (i + 1))) v))) [
      | inl holds ↦ inl (holds.0, holds.1.0, holds.1.1)
      | inr fails ↦ inr (λ is_one. fails (is_one.0, (is_one.1, is_one.2)))
    ]

is_true : (b : Bool) → Either (IsTrue b)
is_true true = inl refl
is_true false = inr (λ told. cc)

pub leads_or_not : (topology : TopologyView) (s v : ℕ) → Either (Leads topology s v (other_end (segment_at topology s) v))
leads_or_not topology s v =
    let g = segment_at topology s in
    elim (both (IsTrue g.is_open) ((g.from ≡ v) ⊎ (g.to ≡ v)) (is_true g.is_open) (ends_or_not g.from g.to)) [
      | inl holds ↦ inl (holds.0, leads_on g v holds.1)
      | inr fails ↦ inr (λ leads. fails (leads.0, elim leads.1 [ inl ends ↦ inl ends.0 | inr ends ↦ inr ends.1 ]))
    ]
  where
    ends_or_not : (from to : ℕ) → Either ((from ≡ v) ⊎ (to ≡ v))
    ends_or_not from to = elim (cases_eq from v) [
      | inl at_from ↦ inl (inl at_from)
      | inr not_from ↦ elim (cases_eq to v) [
        | inl at_to ↦ inl (inr at_to)
        | inr not_to ↦ inr (λ either. elim either [ inl at_from ↦ not_from at_from | inr at_to ↦ not_to at_to ])
      ]
    ]

-- the step over segment s to its other end
abbrev StepsOver : TopologyView → (ℕ → ℕ → Option ℕ) → ℕ → ℕ → ℕ → Type 0
StepsOver topology P mask v s = StepsTo topology P mask v s (other_end (segment_at topology s) v)

steps_or_not : (topology : TopologyView) (P : ℕ → ℕ → Option ℕ) (mask v s : ℕ) → Either (StepsOver topology P mask v s)
steps_or_not topology P mask v s =
    let u = other_end (segment_at topology s) v in
    both (Leads topology s v u) (AreTied (plus (P mask u) (Some (price_at topology s))) (P mask v)) (leads_or_not topology s v)
    (tied (plus (P mask u) (Some (price_at topology s))) (P mask v))

pub some_rule_applies : (topology : TopologyView) (terminals : List ℕ) (P : ℕ → ℕ → Option ℕ) (mask v m : ℕ)
    → IsSound topology → All (λ c. c < length topology.cavities) terminals → HasLeastCosts topology terminals P
    → IsMask terminals mask → v < length topology.nodes → P mask v ≡ Some m
    → ((i : ℕ) × IsOneAt topology terminals mask v i)
    ⊎ (((part : ℕ) × Splits topology P mask v part) ⊎ ((s : ℕ) × ((u : ℕ) × StepsTo topology P mask v s u)))
some_rule_applies topology terminals P mask v m sound in_range costs range node cell =
    elim (search_below (IsOneAt topology terminals mask v) (one_or_not topology terminals mask v) (length terminals)) [
      | inl one ↦ inl one
      | inr not_one ↦ elim (search_below (Splits topology P mask v) (λ part. splits_or_not topology P mask v part range.0) mask) [
        | inl split ↦ inr (inl split)
        | inr no_split ↦ elim (search_below (StepsOver topology P mask v) (steps_or_not topology P mask v) (length topology.segments)) [
          | inl step ↦ inr (inr (step.0, (other_end (segment_at topology step.0) v, step.1)))
          | inr no_step ↦ absurd (a_rule_applies topology terminals P mask v m sound in_range costs range node cell
              (λ i one. not_one i (omega (arith, one.0)) one)
              (λ part split. no_split part split.0.rest split)
              (λ s u step. no_step s (below-from_Leads topology s v u step.0)
              (subst (λ w. StepsTo topology P mask v s w) (sym (leads_to topology s v u step.0)) step)))
        ]
      ]
    ]
