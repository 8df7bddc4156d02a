-- The open segments at a node, and how code sees them: where each of them leads.
use Rattle.std.proofs.Common.{ℕ, List, true, Option, Some, None, IsSome, length, get_or, map, cond, ◌==◌, ◌||◌, ◌≡◌, ◌⊎◌, ◌<◌, ◌≤◌, IsTrue, refl, sym, ap, ◌∙◌, subst, inl, inr, arith}
use Rattle.std.specs.Option.{option_map}
use Rattle.std.proofs.Math.Bool.{or-true}
use Rattle.std.proofs.lemmas.Bool.{cases_eq, and_parts, and_from, or_cases, eqb-true, eq-eqb, ne_eqb, cond-true, cond-false, false≢true}
use Rattle.std.proofs.lemmas.List.{length-map, get_or-map}
use Rattle.loom_topology.specs.Topology.{TopologyView, Segment, IsSound, Leads, is_open_to, open_at, other_end_at, segment_at}
use Rattle.loom_topology.specs.WiringTree.{other_end}
use Rattle.loom_topology.proofs.Leads.{open_among-below, open_among-passes, Leads-from_other_end}
use Rattle.loom_topology.proofs.Places.{leads_on, end_below}

ends-at : (g : Segment) (v : ℕ) → is_open_to g v ≡ true → IsTrue g.is_open × ((g.from ≡ v) ⊎ (g.to ≡ v))
ends-at g v is_open =
    let parts = and_parts g.is_open (g.from == v || g.to == v) is_open in (
      parts.0,
      elim (or_cases (g.from == v) (g.to == v) parts.1) [
        | inl from ↦ inl (eqb-true g.from v from)
        | inr to ↦ inr (eqb-true g.to v to)
      ],
    )

-- a segment that is open to the node leads to its other end
pub open_leads : (topology : TopologyView) (s v : ℕ) → is_open_to (segment_at topology s) v ≡ true
    → Leads topology s v (other_end (segment_at topology s) v)
open_leads topology s v is_open =
    let ends = ends-at (segment_at topology s) v is_open in
    (ends.0, leads_on (segment_at topology s) v ends.1)

pub open_end : (topology : TopologyView) (s v : ℕ) → is_open_to (segment_at topology s) v ≡ true
    → other_end_at topology s v ≡ Some (other_end (segment_at topology s) v)
open_end topology s v is_open =
    elim (cases_eq (segment_at topology s).from v) [
      | inl same ↦ rw (eq-eqb (segment_at topology s).from v same) refl
      | inr other ↦
          let ends = ends-at (segment_at topology s) v is_open in
          elim ends.1 [
            | inl same ↦ absurd (other same)
            | inr back ↦ rw (ne_eqb (segment_at topology s).from v other, eq-eqb (segment_at topology s).to v back) refl
          ]
    ]

pub open_end_below : (topology : TopologyView) (s v : ℕ) → IsSound topology → is_open_to (segment_at topology s) v ≡ true
    → other_end (segment_at topology s) v < length topology.nodes
open_end_below topology s v sound is_open = end_below topology sound s v (ends-at (segment_at topology s) v is_open).0

-- and a segment that leads from the node is open to it
pub leads_open : (topology : TopologyView) (s v u : ℕ) → Leads topology s v u → is_open_to (segment_at topology s) v ≡ true
leads_open topology s v u leads =
    and_from (segment_at topology s).is_open ((segment_at topology s).from == v || (segment_at topology s).to == v) leads.0
    (elim leads.1 [
      | inl ends ↦ rw (eq-eqb (segment_at topology s).from v ends.0) refl
      | inr ends ↦ rw (eq-eqb (segment_at topology s).to v ends.1) (or-true ((segment_at topology s).from == v))
    ])

-- where a segment leads is its other end
pub leads_to : (topology : TopologyView) (s v u : ℕ) → Leads topology s v u → other_end (segment_at topology s) v ≡ u
leads_to topology s v u leads =
    let g = segment_at topology s in
    elim leads.1 [
      | inl p ↦ cond-true (g.from == v) g.to g.from (eq-eqb g.from v p.0) ∙ p.1
      | inr p ↦ elim (cases_eq g.from v) [
        | inl e ↦ cond-true (g.from == v) g.to g.from (eq-eqb g.from v e) ∙ (p.1 ∙ (sym e ∙ p.0))
        | inr n ↦ cond-false (g.from == v) g.to g.from (ne_eqb g.from v n) ∙ p.0
      ]
    ]

-- and it leads back
pub leads_back : (topology : TopologyView) (s v u : ℕ) → Leads topology s v u → Leads topology s u v
leads_back topology s v u leads = (leads.0, elim leads.1 [ inl a ↦ inr a | inr a ↦ inl a ])

-- an open segment at a node has another end
open_end-some : (g : Segment) (v : ℕ) → is_open_to g v ≡ true
    → IsSome (cond (g.from == v) (Some g.to) (cond (g.to == v) (Some g.from) None))
open_end-some g v is_open =
    elim (cases_eq g.from v) [
      | inl same ↦ rw (eq-eqb g.from v same) refl
      | inr other ↦
          let ends = and_parts g.is_open (g.from == v || g.to == v) is_open in
          elim (or_cases (g.from == v) (g.to == v) ends.1) [
            | inl from ↦ absurd (other (eqb-true g.from v from))
            | inr to ↦ rw (ne_eqb g.from v other, to) refl
          ]
    ]

some_found : {T : Type 0} (f : T → ℕ) (found : Option T) (x : Option ℕ) → option_map f found ≡ x → IsSome x → IsSome found
some_found f None x e some = absurd (let none = rw (← e) at some in false≢true none)
some_found f (Some end) x e some = refl

-- what the code sees of the segment at place i
module _ {X : Type 0} (topology : TopologyView) (v : ℕ) (f : X → ℕ) (xs : List X) (i : ℕ) (d : X)
    (items : map f xs ≡ open_at topology v) (within : i < length xs) where
  pub seen_at : f (get_or xs i d) ≡ get_or (open_at topology v) i 0
  seen_at = sym (get_or-map f xs i d 0 within) ∙ ap (λ l. get_or l i 0) items

  pub below_all : i < length (open_at topology v)
  below_all = let longer : length (map f xs) ≡ length (open_at topology v) = ap length items in omega (arith, length-map xs f)

  pub seen_below : f (get_or xs i d) < length topology.segments
  seen_below = subst (λ s. s < length topology.segments) (sym seen_at) (open_among-below topology.segments v i 0 below_all)

  pub seen_open : is_open_to (segment_at topology (f (get_or xs i d))) v ≡ true
  seen_open =
      subst (λ s. is_open_to (segment_at topology s) v ≡ true) (sym seen_at) (open_among-passes topology.segments v i 0 below_all)

  module _ {T : Type 0} (g : T → ℕ) (found : Option T) (is : option_map g found ≡ other_end_at topology (f (get_or xs i d)) v) where
    pub found_some : IsSome found
    found_some =
        some_found g found (other_end_at topology (f (get_or xs i d)) v) is
        (open_end-some (segment_at topology (f (get_or xs i d))) v seen_open)

    pub found_end : (end : T) → found ≡ Some end → g end ≡ other_end (segment_at topology (f (get_or xs i d))) v
    found_end end was =
        let at : Some (g end) ≡ Some (other_end (segment_at topology (f (get_or xs i d))) v) =
        sym (ap (option_map g) was) ∙ (is ∙ open_end topology (f (get_or xs i d)) v seen_open) in
        cc

    pub found_below : (end : T) (n : ℕ) → IsSound topology → n ≡ length topology.nodes → found ≡ Some end → g end < n
    found_below end n sound count was =
        rw (found_end end was, count) (open_end_below topology (f (get_or xs i d)) v sound seen_open)

    pub end_is : (end : T) → found ≡ Some end → other_end_at topology (f (get_or xs i d)) v ≡ Some (g end)
    end_is end was = sym is ∙ ap (option_map g) was

    pub end_leads : (end : T) → found ≡ Some end → Leads topology (f (get_or xs i d)) v (g end)
    end_leads end was = Leads-from_other_end topology (f (get_or xs i d)) v (g end) seen_open (end_is end was)

pub seen_all : {X : Type 0} (topology : TopologyView) (v : ℕ) (f : X → ℕ) (xs : List X) (i : ℕ) → map f xs ≡ open_at topology v
    → length xs ≤ i → length (open_at topology v) ≤ i
seen_all topology v f xs i items past =
    let longer : length (map f xs) ≡ length (open_at topology v) = ap length items in
    omega (arith, length-map xs f)

pub seen_len : {X : Type 0} (topology : TopologyView) (v : ℕ) (f : X → ℕ) (xs : List X) → map f xs ≡ open_at topology v
    → length (open_at topology v) ≡ length xs
seen_len topology v f xs items = ap length (sym items) ∙ length-map xs f
