-- How the open segments at a node lead to other nodes.
use Rattle.std.proofs.Common.{◌≡◌, ◌<◌, ◌+◌, ◌||◌, ◌⊎◌, length, get_or, ℕ, List, Some, None, true, false, cond, eqb, sym, ap, ◌∙◌, arith, inl, inr}
use Rattle.std.specs.List.{All, Contains, range_with_len}
use Rattle.std.specs.List.Sorted.{IsStrictlyIncreasing}
use Rattle.std.proofs.Math.Bool.{or-true}
use Rattle.std.proofs.lemmas.Bool.{and_parts, and_from, both_ways, eq-eqb, ne_eqb, cases_eq, cases_lt}
use Rattle.std.proofs.lemmas.List.{get_or_past}
use Rattle.std.proofs.lemmas.List.Elements.{All-filter, filter_passes}
use Rattle.std.proofs.lemmas.List.FromFn.{length-range_with_len, get_or-range_with_len}
use Rattle.std.proofs.lemmas.List.Kept.{IsStrictlyIncreasing-filter}
use Rattle.loom_base.proofs.Contained.{Contains-filter_range}
use Rattle.loom_topology.specs.Topology.{TopologyView, Segment, no_segment, segment_at, is_open_to, open_among, open_at, other_end_at, Leads, IsSound}

-- the listed numbers are those of segments
pub open_among-below : (segments : List Segment) (v : ℕ) → All (λ s. s < length segments) (open_among segments v)
unfolding open_among
open_among-below segments v =
    let n = length segments in
    All-filter (λ s. is_open_to (get_or segments s no_segment) v) (λ s. s < n) (range_with_len 0 n)
    (λ k d below.
    let within : k < n = omega (arith, length-range_with_len 0 n) in
    omega (arith, get_or-range_with_len 0 n k d within))

-- the listed segments are open and end at the node
pub open_among-passes : (segments : List Segment) (v : ℕ) → All (λ s. is_open_to (get_or segments s no_segment) v ≡ true) (open_among segments v)
unfolding open_among
open_among-passes segments v = filter_passes (λ s. is_open_to (get_or segments s no_segment) v) (range_with_len 0 (length segments))

-- the numbers rise
pub open_among-rising : (segments : List Segment) (v : ℕ) → IsStrictlyIncreasing (open_among segments v)
unfolding open_among
open_among-rising segments v =
    let n = length segments in
    IsStrictlyIncreasing-filter (λ s. is_open_to (get_or segments s no_segment) v) (range_with_len 0 n)
    (λ k below.
    let first : k < n = omega (arith, length-range_with_len 0 n) in
    let next : k + 1 < n = omega (arith, length-range_with_len 0 n) in
    omega (arith, get_or-range_with_len 0 n k 0 first, get_or-range_with_len 0 n (k + 1) 0 next))

-- each open segment that ends at the node is listed
pub Contains-open_among : (segments : List Segment) (v s : ℕ) → s < length segments → is_open_to (get_or segments s no_segment) v ≡ true → Contains (open_among segments v) s
unfolding open_among
Contains-open_among segments v s below passes =
    Contains-filter_range (λ k. is_open_to (get_or segments k no_segment) v) 0 (length segments) s (omega arith) (omega arith) passes

ends_at : (from to v u : ℕ) → cond (eqb from v) (Some to) (cond (eqb to v) (Some from) None) ≡ Some u → ((from ≡ v) × (to ≡ u)) ⊎ ((from ≡ u) × (to ≡ v))
ends_at from to v u e = elim (cases_eq from v) [
  | inl at_from ↦
      let found : Some to ≡ Some u =
      ap (λ b. cond b (Some to) (cond (eqb to v) (Some from) None)) (sym (eq-eqb from v at_from)) ∙ e in
      inl (at_from, (cc))
  | inr not_from ↦
      let next : cond (eqb to v) (Some from) None ≡ Some u =
      ap (λ b. cond b (Some to) (cond (eqb to v) (Some from) None)) (sym (ne_eqb from v not_from)) ∙ e in
      elim (cases_eq to v) [
        | inl at_to ↦
            let found : Some from ≡ Some u = ap (λ b. cond b (Some from) None) (sym (eq-eqb to v at_to)) ∙ next in
            inr ((cc), at_to)
        | inr not_to ↦
            let none : None ≡ Some u = ap (λ b. cond b (Some from) None) (sym (ne_eqb to v not_to)) ∙ next in
            absurd (cc)
      ]
]

-- a listed segment leads to its other end
pub Leads-from_other_end : (topology : TopologyView) (s v u : ℕ) → is_open_to (segment_at topology s) v ≡ true → other_end_at topology s v ≡ Some u → Leads topology s v u
Leads-from_other_end topology s v u passes e =
    let g = segment_at topology s in
    ((and_parts g.is_open (eqb g.from v || eqb g.to v) passes).0, ends_at g.from g.to v u e)

-- past the last there is no open segment
pub below-from_Leads : (topology : TopologyView) (s v u : ℕ) → Leads topology s v u → s < length topology.segments
below-from_Leads topology s v u (is_open, ways) = elim (cases_lt s (length topology.segments)) [
  | inl below ↦ below
  | inr past ↦
      let none : segment_at topology s ≡ no_segment = get_or_past topology.segments s no_segment past in
      let is_shut : (segment_at topology s).is_open ≡ false = ap (λ (g : Segment). g.is_open) none in
      absurd (both_ways (segment_at topology s).is_open is_shut is_open)
]

-- a segment that leads away from the node is listed there
pub Contains-from_Leads : (topology : TopologyView) (s v u : ℕ) → Leads topology s v u → Contains (open_at topology v) s
Contains-from_Leads topology s v u (is_open, ways) =
    let g = segment_at topology s in
    let at_end : (eqb g.from v || eqb g.to v) ≡ true = elim ways [
      | inl (from, to) ↦ ap (λ b. b || eqb g.to v) (eq-eqb g.from v from)
      | inr (from, to) ↦ ap (λ b. eqb g.from v || b) (eq-eqb g.to v to) ∙ or-true (eqb g.from v)
    ] in
    Contains-open_among topology.segments v s (below-from_Leads topology s v u (is_open, ways)) (and_from g.is_open _ is_open at_end)

-- and its other end is where it leads
pub other_end-from_Leads : (topology : TopologyView) (s v u : ℕ) → IsSound topology → Leads topology s v u → other_end_at topology s v ≡ Some u
other_end-from_Leads topology s v u sound (is_open, ways) =
    let g = segment_at topology s in
    let apart = (sound.segments s no_segment (below-from_Leads topology s v u (is_open, ways))).apart in
    elim ways [
      | inl (from, to) ↦
          ap (λ b. cond b (Some g.to) (cond (eqb g.to v) (Some g.from) None)) (eq-eqb g.from v from) ∙ ap (λ k. Some k) to
      | inr (from, to) ↦
          ap (λ b. cond b (Some g.to) (cond (eqb g.to v) (Some g.from) None)) (ne_eqb g.from v (λ e. apart (e ∙ sym to)))
          ∙ ap (λ b. cond b (Some g.from) None) (eq-eqb g.to v to)
          ∙ ap (λ k. Some k) from
    ]
