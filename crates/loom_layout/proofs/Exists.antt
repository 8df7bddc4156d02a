-- Where a mask has a least cost at a node, it has a layout from there: which rule applies can be decided.
use Rattle.std.proofs.Common.{ℕ, zero, suc, List, Option, Some, None, IsSome, length, slice_index, ◌≡◌, ◌⊎◌, ◌+◌, ◌-◌, ◌^◌, ◌<◌, bit_and, arith, refl, sym, ◌∙◌, ap, subst, inl, inr}
use Rattle.std.specs.List.{All}
use Rattle.std.specs.Int.{bit_at}
use Rattle.std.proofs.lemmas.Bool.{cases_lt, cases_eq, cases_Bool, both_ways}
use Rattle.loom_topology.specs.Topology.{TopologyView, IsSound, Segment, Leads, segment_at, branch_at, price_at, node_of}
use Rattle.loom_topology.specs.WiringTree.{Tree}
use Rattle.loom_topology.specs.Legal.{IsMask, plus}
use Rattle.loom_topology.specs.Least.{HasLeastCosts}
use Rattle.loom_topology.specs.Ties.{IsOneAt, AreTied, IsFirstPart, Splits, StepsTo}
use Rattle.loom_topology.proofs.FirstCavity.{holds_first}
use Rattle.loom_topology.proofs.Leads.{below-from_Leads}
use Rattle.loom_topology.proofs.Raised.{a_rule_applies}
use Rattle.loom_layout.specs.Layout.{Laying, Laid, hang, split, over, hung, stepped, next_point, tree_laid, nothing_laid, IsLayout, IsLeastOf}
use Rattle.loom_layout.specs.Walk.{left_of}
use Rattle.loom_layout.proofs.Apart.{bit_of_part}
use Rattle.loom_layout.proofs.Unique.{same_end}
use Rattle.loom_layout.proofs.Left.{step_within, left_after, left_part, left_rest}
use Rattle.loom_layout.proofs.Laying.{parts_have_costs, behind_has_cost, part_range, rest_range}
use Rattle.loom_layout.proofs.Sets.{number}

-- the least number for which a fact holds that can be decided, or none below a bound
search_least : (P : ℕ → Type 0) → ((k : ℕ) → P k ⊎ (P k → ⊥)) → (n : ℕ) → ((k : ℕ) × IsLeastOf P k) ⊎ ((k : ℕ) → k < n → P k → ⊥)
search_least P decide zero = inr (λ k below p. absurd (omega (arith, below)))
search_least P decide (suc n) = elim (search_least P decide n) [
  | inl found ↦ inl found
  | inr none ↦ elim (decide n) [
    | inl holds ↦
        inl (
          n,
          record {
            holds = holds;
            least = λ k p. elim (cases_lt k n) [ inl less ↦ absurd (none k less p) | inr more ↦ more ];
          },
        )
    | inr fails ↦
        inr (λ k below p. elim (cases_lt k n) [
          | inl less ↦ none k less p
          | inr more ↦ fails (subst P (let e : k ≡ n = omega (arith, below, more) in e) p)
        ])
  ]
]

decide_tied : (a b : Option ℕ) → AreTied a b ⊎ (AreTied a b → ⊥)
decide_tied None b = inr (λ tied. let f : None ≡ Some tied.0 = tied.1 in cc)
decide_tied (Some m) None = inr (λ tied. let f : None ≡ Some tied.0 = tied.2 in cc)
decide_tied (Some m) (Some n) = elim (cases_eq m n) [
  | inl e ↦ inl (m, refl, ap Some (sym e))
  | inr other ↦ inr (λ tied. other (let f : Some m ≡ Some tied.0 = tied.1 in let g : Some n ≡ Some tied.0 = tied.2 in cc))
]

decide_part : (mask part : ℕ) → 0 < mask → IsFirstPart mask part ⊎ (IsFirstPart mask part → ⊥)
decide_part mask part some =
    let (t, here, below) = holds_first mask some in
    elim (cases_eq (bit_and part mask) part) [
      | inr other ↦ inr (λ first. other first.within)
      | inl within ↦ elim (cases_lt part mask) [
        | inr past ↦ inr (λ first. let less : part < mask = first.rest in omega (arith, past, less))
        | inl less ↦ elim (cases_eq (bit_at part t) 1) [
          | inl in_part ↦ inl (record { within = within; first = (t, in_part, below); rest = less })
          | inr out ↦
              inr (λ first.
              let (j, in_part, none) = first.first in
              let same : j ≡ t = elim (cases_lt j t) [
                | inl early ↦ absurd (omega (arith, below j early, in_part, bit_of_part mask part j within))
                | inr late ↦ elim (cases_lt t j) [
                  | inl early ↦ absurd (omega (arith, none t early, here))
                  | inr rest ↦ omega (arith, late, rest)
                ]
              ] in
              out (ap (bit_at part) (sym same) ∙ in_part))
        ]
      ]
    ]

module _ (topology : TopologyView) (terminals : List ℕ) (least : ℕ → ℕ → Option ℕ) (mask v : ℕ) where
  decide_one : (i : ℕ) → IsOneAt topology terminals mask v i ⊎ (IsOneAt topology terminals mask v i → ⊥)
  decide_one i = elim (cases_lt (i + 1) (length terminals)) [
    | inr past ↦ inr (λ one. omega (arith, past, one.0))
    | inl within ↦ elim (cases_eq mask (2 ^ i)) [
      | inr other ↦ inr (λ one. other one.1)
      | inl power ↦ elim (cases_eq (node_of topology (slice_index terminals (i + 1))) v) [
        | inl home ↦ inl (within, power, home)
        | inr away ↦ inr (λ one. away one.2)
      ]
    ]
  ]

  one_or_none : ((i : ℕ) × IsOneAt topology terminals mask v i) ⊎ ((i : ℕ) → IsOneAt topology terminals mask v i → ⊥)
  one_or_none = elim (search_least (IsOneAt topology terminals mask v) decide_one (length terminals)) [
    | inl found ↦ inl (found.0, found.1.holds)
    | inr none ↦ inr (λ i one. none i (omega (arith, one.0)) one)
  ]

  decide_split : 0 < mask → (part : ℕ) → Splits topology least mask v part ⊎ (Splits topology least mask v part → ⊥)
  decide_split some part = elim (decide_part mask part some) [
    | inr isnt ↦ inr (λ splits. isnt splits.0)
    | inl first ↦ elim (decide_tied (plus (plus (least part v) (least (mask - part) v)) (Some (branch_at topology v))) (least mask v)) [
      | inl tied ↦ inl (first, tied)
      | inr apart ↦ inr (λ splits. apart splits.1)
    ]
  ]

  split_or_none : 0 < mask → ((part : ℕ) × IsLeastOf (Splits topology least mask v) part) ⊎ ((part : ℕ) → Splits topology least mask v part → ⊥)
  split_or_none some = elim (search_least (Splits topology least mask v) (decide_split some) mask) [
    | inl found ↦ inl found
    | inr none ↦ inr (λ part splits. none part splits.0.rest splits)
  ]

  decide_lead : (s : ℕ) → ((w : ℕ) × Leads topology s v w) ⊎ ((w : ℕ) → Leads topology s v w → ⊥)
  decide_lead s =
      let g : Segment = segment_at topology s in
      elim (cases_Bool g.is_open) [
        | inr shut ↦ inr (λ w leads. both_ways g.is_open shut leads.0)
        | inl is_open ↦ elim (cases_eq g.from v) [
          | inl from ↦ inl (g.to, (is_open, inl (from, refl)))
          | inr not_from ↦ elim (cases_eq g.to v) [
            | inl to ↦ inl (g.from, (is_open, inr (refl, to)))
            | inr not_to ↦ inr (λ w leads. elim leads.1 [ inl a ↦ not_from a.0 | inr a ↦ not_to a.1 ])
          ]
        ]
      ]

  decide_step : (s : ℕ) → ((w : ℕ) × StepsTo topology least mask v s w) ⊎ (((w : ℕ) × StepsTo topology least mask v s w) → ⊥)
  decide_step s = elim (decide_lead s) [
    | inr none ↦ inr (λ step. none step.0 step.1.0)
    | inl found ↦ elim (decide_tied (plus (least mask found.0) (Some (price_at topology s))) (least mask v)) [
      | inl tied ↦ inl (found.0, (found.1, tied))
      | inr apart ↦
          inr (λ step. apart (subst (λ (w : ℕ). AreTied (plus (least mask w) (Some (price_at topology s))) (least mask v))
          (same_end topology s v step.0 found.0 step.1.0 found.1) step.1.1))
    ]
  ]

  step_or_none : ((s : ℕ) × IsLeastOf (λ x. (w : ℕ) × StepsTo topology least mask v x w) s)
      ⊎ ((s u : ℕ) → StepsTo topology least mask v s u → ⊥)
  step_or_none = elim (search_least (λ x. (w : ℕ) × StepsTo topology least mask v x w) decide_step (length topology.segments)) [
    | inl found ↦ inl found
    | inr none ↦ inr (λ s u steps. none s (below-from_Leads topology s v u steps.0) (u, steps))
  ]

module _ (topology : TopologyView) (terminals : List ℕ) (least : ℕ → ℕ → Option ℕ) (sound : IsSound topology)
    (in_range : All (λ c. c < length topology.cavities) terminals) (costs : HasLeastCosts topology terminals least) where
  exists : (n mask v point : ℕ) (before : Laying) → left_of topology least mask v < n → IsMask terminals mask → v < length topology.nodes
      → IsSome (least mask v) → (after : Laying) × Laid topology terminals least mask v point before after
  exists zero mask v point before few range node cost = absurd (omega (arith, few))
  exists (suc n) mask v point before few range node cost =
      let some_node : 0 < length topology.nodes = omega (arith, node) in
      elim (one_or_none topology terminals least mask v) [
        | inl found ↦ (hung before found.0 point, hang found.0 found.1)
        | inr none ↦ elim (split_or_none topology terminals least mask v range.0) [
          | inl found ↦
              let part : ℕ = found.0 in
              let first : IsFirstPart mask part = found.1.holds.0 in
              let numbers = parts_have_costs topology least mask v part found.1.holds in
              let one = exists n part v point before (omega (arith, few, left_part topology least mask v part first some_node))
              (part_range terminals mask part range first) node numbers.0 in
              let two = exists n (mask - part) v point one.0 (omega (arith, few, left_rest topology least mask v part first some_node))
              (rest_range terminals mask part range first) node numbers.1 in
              (two.0, split part none found.1 one.1 two.1)
          | inr whole ↦ elim (step_or_none topology terminals least mask v) [
            | inl found ↦
                let s : ℕ = found.0 in
                let u : ℕ = found.1.holds.0 in
                let steps : StepsTo topology least mask v s u = found.1.holds.1 in
                let one = exists n mask u (next_point before) (stepped before point s)
                (omega (arith, few, left_after topology least mask v s u sound steps)) range
                (step_within topology least mask v s u sound steps).1 (behind_has_cost topology least mask v s u steps) in
                (one.0, over s u none whole found.1 steps one.1)
            | inr stuck ↦
                let (m, cell) = number (least mask v) cost in
                absurd (a_rule_applies topology terminals least mask v m sound in_range costs range node cell none whole stuck)
          ]
        ]
      ]

  pub layout_exists : (mask v m : ℕ) → IsMask terminals mask → v < length topology.nodes → least mask v ≡ Some m
      → (tree : Tree) × IsLayout topology terminals least mask v tree
  layout_exists mask v m range node cell =
      let some : IsSome (least mask v) = subst (λ (o : Option ℕ). IsSome o) (sym cell) refl in
      let (laying, laid) =
      exists (suc (left_of topology least mask v)) mask v 0 (nothing_laid terminals) (omega arith) range node some in
      (tree_laid mask laying, (laying, laid, refl))
