-- A wiring tree over a net's topology is one over the project's, where more is open.
use Rattle.std.proofs.Common.{◌≡◌, ℕ, zero, suc, ◌<◌, ◌≤◌, ◌==◌, ◌++◌, true, false, List, [], ◌∷◌, length, map, get_or, slice_index, IsTrue, inl, inr, refl, sym, ap, ap₂, subst, ◌∙◌, arith}
use Rattle.std.specs.Prelude.{if◌then◌else◌}
use Rattle.std.specs.List.{fold, AllZip}
use Rattle.std.proofs.lemmas.Bool.{cases_lt}
use Rattle.std.proofs.lemmas.List.{get_or_past}
use Rattle.loom_topology.specs.Topology.{TopologyView, Segment, no_segment, segment_at, node_of}
use Rattle.loom_topology.specs.WiringTree.{Step, Tree, step_at, other_end, places_of, place_of, IsWiringTree}
use Rattle.loom_project.specs.declared.draft.Draft.{Draft}
use Rattle.loom_project.specs.declared.draft.SegmentDraft.{SegmentDraft}
use Rattle.loom_project.specs.Draft.{node_names}
use Rattle.loom_project.specs.Project.{topology_of, net_topology, placed_segment}
use Rattle.loom_project.proofs.PartsLemmas.{count_net_segments}
use Rattle.loom_types.specs.LayoutTree.{IsLaidOut, tree_of}
use Rattle.loom_types.specs.declared.layout.Layout.{Layout}
use Rattle.loom_types.specs.SetMask.{rest_of, stem_cavity, stem_node}
use Rattle.loom_topology.specs.Legal.{cavities_of_mask}
use Rattle.loom_active.proofs.Openings.{DifferInOpen, net_differs}

AllZip-weaker : {A B : Type 0} (R S : A → B → Type 0) → ((a : A) (b : B) → R a b → S a b) → (xs : List A) (ys : List B) → AllZip R xs ys → AllZip S xs ys
AllZip-weaker R S weaker [] [] z = tt
AllZip-weaker R S weaker [] (y ∷ ys) z = absurd z
AllZip-weaker R S weaker (x ∷ xs) [] z = absurd z
AllZip-weaker R S weaker (x ∷ xs) (y ∷ ys) z = (weaker x y z.0, AllZip-weaker R S weaker xs ys z.1)

module _ (one other : TopologyView) (differ : DifferInOpen one other) where
  pub node-alike : (c : ℕ) → node_of one c ≡ node_of other c
  node-alike c = ap (λ (cs : List ℕ). slice_index cs c) differ.cavities

  end-alike : (s n : ℕ) → other_end (segment_at one s) n ≡ other_end (segment_at other s) n
  end-alike s n = ap₂ (λ (a b : ℕ). if a == n then b else a) (differ.start s) (differ.finish s)

  places-alike : (v : ℕ) (steps : List Step) → places_of one v steps ≡ places_of other v steps
  unfolding places_of
  places-alike v steps =
      ap (λ (f : List ℕ → Step → List ℕ). fold f (v ∷ []) steps)
      (λ i placed s. placed ++ end-alike s.segment (slice_index placed s.parent) i ∷ [])

  place-alike : (v : ℕ) (tree : Tree) (point : ℕ) → place_of one v tree point ≡ place_of other v tree point
  place-alike v tree point = ap (λ (places : List ℕ). slice_index places point) (places-alike v tree.steps)

  -- where what is open in the other is open here, a tree there is a tree here
  pub tree-opened : ((s : ℕ) → IsTrue (segment_at other s).is_open → IsTrue (segment_at one s).is_open)
      → (cavities : List ℕ) (v : ℕ) (tree : Tree) → IsWiringTree other cavities v tree → IsWiringTree one cavities v tree
  tree-opened opened cavities v tree is = record {
    parent = is.parent;
    is_open = λ k lt. opened (step_at tree k).segment (is.is_open k lt);
    begins = λ k lt.
        let s : ℕ = (step_at tree k).segment in
        let place : place_of one v tree (step_at tree k).parent ≡ place_of other v tree (step_at tree k).parent =
        place-alike v tree (step_at tree k).parent in
        elim (is.begins k lt) [
          | inl e ↦ inl (differ.start s ∙ e ∙ sym place)
          | inr e ↦ inr (differ.finish s ∙ e ∙ sym place)
        ];
    hangs =
        AllZip-weaker (λ c point. (point ≤ length tree.steps) × (place_of other v tree point ≡ node_of other c))
        (λ c point. (point ≤ length tree.steps) × (place_of one v tree point ≡ node_of one c))
        (λ c point h. (h.0, place-alike v tree point ∙ h.1 ∙ sym (node-alike c))) cavities tree.hangs is.hangs;
  }

-- what is open is a segment of the list
pub open-within : (topology : TopologyView) (s : ℕ) → IsTrue (segment_at topology s).is_open → s < length topology.segments
open-within topology s open_here = elim (cases_lt s (length topology.segments)) [
  | inl lt ↦ lt
  | inr past ↦
      let shut : (segment_at topology s).is_open ≡ false = ap (λ (g : Segment). g.is_open) (get_or_past topology.segments s no_segment past) in
      let clash : true ≡ false = sym open_here ∙ shut in
      absurd (cc)
]

-- each segment of the project's topology is open
open-here : (draft : Draft) (s : ℕ) → s < length draft.segments → IsTrue (segment_at (topology_of draft) s).is_open
unfolding topology_of
open-here draft s lt = opened draft.segments s lt
  where
    opened : (segments : List SegmentDraft) (k : ℕ) → k < length segments
        → (get_or (map (placed_segment (node_names draft.nodes)) segments) k no_segment).is_open ≡ true
    opened [] k h = absurd (omega (arith, h))
    opened (d ∷ ds) zero h = refl
    opened (d ∷ ds) (suc k) h = opened ds k (omega (arith, h))

pub open-in_project : (draft : Draft) (net s : ℕ) → IsTrue (segment_at (net_topology draft net) s).is_open → IsTrue (segment_at (topology_of draft) s).is_open
open-in_project draft net s here =
    let within = open-within (net_topology draft net) s here in
    open-here draft s (omega (arith, within, count_net_segments draft net))

-- a layout over the net's topology is one over the project's
pub laid_out-in_project : (draft : Draft) (net : ℕ) (terminals : List ℕ) (mask : ℕ) (layout : Layout) → IsLaidOut (net_topology draft net) terminals mask layout
    → IsLaidOut (topology_of draft) terminals mask layout
laid_out-in_project draft net terminals mask layout laid =
    let one : TopologyView = topology_of draft in
    let other : TopologyView = net_topology draft net in
    let stem : stem_node one terminals mask ≡ stem_node other terminals mask = node-alike one other (net_differs draft net) (stem_cavity terminals mask) in
    record {
      tree =
          subst (λ (v : ℕ). IsWiringTree one (cavities_of_mask terminals (rest_of mask)) v (tree_of layout)) (sym stem)
          (tree-opened one other (net_differs draft net) (open-in_project draft net) (cavities_of_mask terminals (rest_of mask))
          (stem_node other terminals mask) (tree_of layout) laid.tree);
      degrees = laid.degrees;
    }
