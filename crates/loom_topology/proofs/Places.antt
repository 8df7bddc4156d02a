-- Where the points of a tree lie.
use Rattle.std.proofs.Common.{ℕ, zero, suc, List, [], ◌∷◌, ◌++◌, length, get_or, slice_index, fold, ◌==◌, IsTrue, ◌≡◌, ◌⊎◌, ◌+◌, ◌<◌, ◌≤◌, arith, refl, sym, ap, ◌∙◌, subst, inl, inr, length-append}
use Rattle.std.proofs.lemmas.Bool.{cases_lt, cases_Bool, cases_eq, cond-true, cond-false, false≢true, eq-eqb, ne_eqb}
use Rattle.std.proofs.lemmas.List.{get_or_append_left, get_or_push, get_or_past}
use Rattle.loom_topology.proofs.Sound.{sound-from, sound-to}
use Rattle.loom_topology.specs.Topology.{TopologyView, Segment, IsSound, Leads, segment_at, no_segment}
use Rattle.loom_topology.specs.WiringTree.{Step, Tree, IsWiringTree, no_step, step_at, other_end, places_of, place_of}

-- the node of the next point, and the nodes once all steps are taken
abbrev next : TopologyView → List ℕ → Step → ℕ
next topology placed s = other_end (segment_at topology s.segment) (slice_index placed s.parent)

abbrev place_from : TopologyView → List ℕ → List Step → List ℕ
place_from topology placed steps = fold (λ before s. before ++ next topology before s ∷ []) placed steps

kept : (topology : TopologyView) (placed : List ℕ) (steps : List Step) (i : ℕ) → i < length placed
    → slice_index (place_from topology placed steps) i ≡ slice_index placed i
kept topology placed [] i h = refl
kept topology placed (s ∷ steps) i h =
    let longer : length (placed ++ next topology placed s ∷ []) ≡ length placed + 1 = length-append placed (next topology placed s ∷ []) in
    kept topology (placed ++ next topology placed s ∷ []) steps i (omega arith)
    ∙ get_or_append_left placed (next topology placed s ∷ []) 0 i h

next_at : (topology : TopologyView) (placed : List ℕ) (steps : List Step) (k : ℕ) → k < length steps
    → (get_or steps k no_step).parent < length placed + k
    → slice_index (place_from topology placed steps) (length placed + k)
    ≡ other_end (segment_at topology (get_or steps k no_step).segment)
    (slice_index (place_from topology placed steps) (get_or steps k no_step).parent)
next_at topology placed [] k h below = absurd (omega arith)
next_at topology placed (s ∷ steps) zero h below =
    let longer : length (placed ++ next topology placed s ∷ []) ≡ length placed + 1 = length-append placed (next topology placed s ∷ []) in
    let here : slice_index (place_from topology (placed ++ next topology placed s ∷ []) steps) (length placed + 0) ≡ next topology placed s =
    kept topology (placed ++ next topology placed s ∷ []) steps (length placed + 0) (omega arith)
    ∙ get_or_push placed (next topology placed s) 0 (length placed + 0) (omega arith) in
    let start : slice_index (place_from topology placed (s ∷ steps)) s.parent ≡ slice_index placed s.parent =
    kept topology placed (s ∷ steps) s.parent (omega arith) in
    here ∙ ap (other_end (segment_at topology s.segment)) (sym start)
next_at topology placed (s ∷ steps) (suc k) h below =
    let longer : length (placed ++ next topology placed s ∷ []) ≡ length placed + 1 = length-append placed (next topology placed s ∷ []) in
    let e : length (placed ++ next topology placed s ∷ []) + k ≡ length placed + suc k = omega arith in
    subst (λ i. slice_index (place_from topology (placed ++ next topology placed s ∷ []) steps) i
    ≡ other_end (segment_at topology (get_or steps k no_step).segment)
    (slice_index (place_from topology (placed ++ next topology placed s ∷ []) steps) (get_or steps k no_step).parent)) e
    (next_at topology (placed ++ next topology placed s ∷ []) steps k (omega arith) (omega arith))

pub place-zero : (topology : TopologyView) (v : ℕ) (tree : Tree) → place_of topology v tree 0 ≡ v
unfolding places_of
place-zero topology v tree = kept topology (v ∷ []) tree.steps 0 (omega arith)

pub place-suc : (topology : TopologyView) (v : ℕ) (tree : Tree) (k : ℕ) → k < length tree.steps → (step_at tree k).parent ≤ k
    → place_of topology v tree (suc k)
    ≡ other_end (segment_at topology (step_at tree k).segment) (place_of topology v tree (step_at tree k).parent)
unfolding places_of
place-suc topology v tree k h below =
    let e : 1 + k ≡ suc k = omega arith in
    subst (λ i. slice_index (place_from topology (v ∷ []) tree.steps) i
    ≡ other_end (segment_at topology (step_at tree k).segment)
    (slice_index (place_from topology (v ∷ []) tree.steps) (step_at tree k).parent)) e
    (next_at topology (v ∷ []) tree.steps k h (omega arith))

-- nodes of the points that keep the rule
pub record IsPlaced (topology : TopologyView) (v : ℕ) (tree : Tree) (at : ℕ → ℕ) : Type 0 where
  pub first : at 0 ≡ v
  pub below : (k : ℕ) → k < length tree.steps → (step_at tree k).parent ≤ k
  pub later : (k : ℕ) → k < length tree.steps
      → at (suc k) ≡ other_end (segment_at topology (step_at tree k).segment) (at (step_at tree k).parent)

-- they are the places
places_through : (topology : TopologyView) (v : ℕ) (tree : Tree) (at : ℕ → ℕ) → IsPlaced topology v tree at
    → (n p : ℕ) → p ≤ n → p ≤ length tree.steps → place_of topology v tree p ≡ at p
places_through topology v tree at placed zero p small h =
    let e : p ≡ 0 = omega arith in rw e (place-zero topology v tree ∙ sym placed.first)
places_through topology v tree at placed (suc n) p small h =
    elim (cases_eq p (suc n)) [
      | inr other ↦ places_through topology v tree at placed n p (omega arith) h
      | inl e ↦
          let before : (step_at tree n).parent ≤ n = placed.below n (omega arith) in
          let start : place_of topology v tree (step_at tree n).parent ≡ at (step_at tree n).parent =
          places_through topology v tree at placed n (step_at tree n).parent before (omega arith) in
          rw e (place-suc topology v tree n (omega arith) before
          ∙ (ap (other_end (segment_at topology (step_at tree n).segment)) start ∙ sym (placed.later n (omega arith))))
    ]

pub place_is : (topology : TopologyView) (v : ℕ) (tree : Tree) (at : ℕ → ℕ) → IsPlaced topology v tree at
    → (p : ℕ) → p ≤ length tree.steps → place_of topology v tree p ≡ at p
place_is topology v tree at placed p h = places_through topology v tree at placed p p (omega arith) h

-- an open segment is there
pub open_below : (topology : TopologyView) (s : ℕ) → IsTrue (segment_at topology s).is_open → s < length topology.segments
open_below topology s is_open =
    elim (cases_lt s (length topology.segments)) [
      | inl within ↦ within
      | inr past ↦
          let none : segment_at topology s ≡ no_segment = get_or_past topology.segments s no_segment past in
          absurd (false≢true (sym (ap (λ g. g.is_open) none) ∙ is_open))
    ]

other_end-from : (g : Segment) (v : ℕ) → g.from ≡ v → other_end g v ≡ g.to
other_end-from g v e = cond-true (g.from == v) g.to g.from (eq-eqb g.from v e)

-- a step leads from its parent's node to its own
pub leads_on : (g : Segment) (v : ℕ) → (g.from ≡ v) ⊎ (g.to ≡ v)
    → ((g.from ≡ v) × (g.to ≡ other_end g v)) ⊎ ((g.from ≡ other_end g v) × (g.to ≡ v))
leads_on g v either =
    elim (cases_eq g.from v) [
      | inl same ↦ inl (same, sym (cond-true (g.from == v) g.to g.from (eq-eqb g.from v same)))
      | inr other ↦ elim either [
        | inl same ↦ absurd (other same)
        | inr back ↦ inr (sym (cond-false (g.from == v) g.to g.from (ne_eqb g.from v other)), back)
      ]
    ]

pub end_below : (topology : TopologyView) → IsSound topology → (s v : ℕ) → IsTrue (segment_at topology s).is_open
    → other_end (segment_at topology s) v < length topology.nodes
end_below topology sound s v is_open =
    let within : s < length topology.segments = open_below topology s is_open in
    elim (cases_Bool ((segment_at topology s).from == v)) [
      | inl e ↦ rw (cond-true ((segment_at topology s).from == v) (segment_at topology s).to (segment_at topology s).from e) (sound-to topology sound s within)
      | inr e ↦ rw (cond-false ((segment_at topology s).from == v) (segment_at topology s).to (segment_at topology s).from e) (sound-from topology sound s within)
    ]

module _ (topology : TopologyView) (cavities : List ℕ) (v : ℕ) (tree : Tree) (is_tree : IsWiringTree topology cavities v tree) where
  pub step_leads : (k : ℕ) → k < length tree.steps
      → Leads topology (step_at tree k).segment (place_of topology v tree (step_at tree k).parent) (place_of topology v tree (suc k))
  step_leads k h =
      let e : place_of topology v tree (suc k)
      ≡ other_end (segment_at topology (step_at tree k).segment) (place_of topology v tree (step_at tree k).parent) =
      place-suc topology v tree k h (is_tree.parent k h) in (
        is_tree.is_open k h,
        subst (λ u. (((segment_at topology (step_at tree k).segment).from ≡ place_of topology v tree (step_at tree k).parent)
            × ((segment_at topology (step_at tree k).segment).to ≡ u))
            ⊎ (((segment_at topology (step_at tree k).segment).from ≡ u)
            × ((segment_at topology (step_at tree k).segment).to ≡ place_of topology v tree (step_at tree k).parent))) (sym e)
            (leads_on (segment_at topology (step_at tree k).segment) (place_of topology v tree (step_at tree k).parent) (is_tree.begins k h)),
      )

  pub place_below : IsSound topology → v < length topology.nodes → (p : ℕ) → p ≤ length tree.steps
      → place_of topology v tree p < length topology.nodes
  place_below sound node zero h = rw (place-zero topology v tree) node
  place_below sound node (suc k) h =
      rw (place-suc topology v tree k (omega arith) (is_tree.parent k (omega arith)))
      (end_below topology sound (step_at tree k).segment (place_of topology v tree (step_at tree k).parent) (is_tree.is_open k (omega arith)))
