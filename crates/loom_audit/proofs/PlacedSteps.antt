-- The steps of a layout, tested one after another.
use Rattle.std.proofs.Common.{◌≡◌, ℕ, zero, suc, ◌+◌, ◌-◌, ◌<◌, ◌≤◌, List, [], ◌∷◌, ◌++◌, length, map, get_or, slice_index, take, inl, inr, sym, ap, subst, ◌∙◌, arith}
use Rattle.std.proofs.lemmas.Bool.{cases_eq}
use Rattle.std.proofs.lemmas.List.{length-map, get_or-map, get_or_append_left, take_all}
use Rattle.loom_base.specs.declared.positions.NodeNo.{NodeNo}
use Rattle.loom_base.specs.declared.positions.SegmentNo.{SegmentNo}
use Rattle.loom_types.specs.declared.layout.Layout.{Layout}
use Rattle.loom_types.specs.LayoutTree.{step_of, tree_of}
use Rattle.loom_topology.specs.Topology.{TopologyView, segment_at}
use Rattle.loom_topology.specs.WiringTree.{Step, Tree, no_step, step_at, other_end, places_of, place_of}
use Rattle.loom_audit.specs.LayoutTests.{IsPassable, IsStepSound, AreStepsSound}
use Rattle.loom_audit.proofs.PlaceSteps.{length-places_of-take, places_of-more, place_first, place_more}

-- more steps don't move the points that are there
front-from : (topology : TopologyView) (v : ℕ) (steps : List Step) (k p m : ℕ) → k + m ≤ length steps → p ≤ k
    → slice_index (places_of topology v (take (k + m) steps)) p ≡ slice_index (places_of topology v (take k steps)) p
front-from topology v steps k p zero within small =
    let e : k + 0 ≡ k = omega arith in
    ap (λ (n : ℕ). slice_index (places_of topology v (take n steps)) p) e
front-from topology v steps k p (suc m) within small =
    let e : k + suc m ≡ (k + m) + 1 = omega arith in
    let before : List ℕ = places_of topology v (take (k + m) steps) in
    let next : ℕ = other_end (segment_at topology (get_or steps (k + m) no_step).segment) (slice_index before (get_or steps (k + m) no_step).parent) in
    ap (λ (n : ℕ). slice_index (places_of topology v (take n steps)) p) e
    ∙ (ap (λ (l : List ℕ). slice_index l p) (places_of-more topology v steps (k + m) (omega arith))
    ∙ (get_or_append_left before (next ∷ []) 0 p (omega (arith, small, length-places_of-take topology v steps (k + m) (omega arith)))
    ∙ front-from topology v steps k p m (omega arith) small))

place-front : (topology : TopologyView) (v : ℕ) (tree : Tree) (k p : ℕ) → k ≤ length tree.steps → p ≤ k
    → slice_index (places_of topology v (take k tree.steps)) p ≡ place_of topology v tree p
place-front topology v tree k p within small =
    let e : k + (length tree.steps - k) ≡ length tree.steps = omega arith in
    let all : take (k + (length tree.steps - k)) tree.steps ≡ tree.steps = take_all (k + (length tree.steps - k)) tree.steps (omega arith) in
    sym (front-from topology v tree.steps k p (length tree.steps - k) (omega arith) small)
    ∙ ap (λ (steps : List Step). slice_index (places_of topology v steps) p) all

-- the first k steps are sound, and their points lie at these places
pub record ArePlaced (topology : TopologyView) (v : ℕ) (tree : Tree) (places : List NodeNo) (k : ℕ) : Type 0 where
  pub are : map (λ v. v.0) places ≡ places_of topology v (take k tree.steps)
  pub sound : (j : ℕ) → j < k → IsStepSound topology v tree j

pub placed_first : (topology : TopologyView) (tree : Tree) (none places : List NodeNo) (start : NodeNo) → none ≡ [] → places ≡ none ++ start ∷ []
    → ArePlaced topology start.0 tree places 0
placed_first topology tree none places start empty pushed = record {
  are = place_first topology start.0 tree.steps none places start empty pushed (λ i. start.0);
  sound = λ j lt. absurd (omega arith);
}

module _ (topology : TopologyView) (v : ℕ) (tree : Tree) (places : List NodeNo) (k : ℕ) (placed : ArePlaced topology v tree places k) (within : k ≤ length tree.steps) where
  pub places_long : length places ≡ k + 1
  places_long =
      sym (length-map places (λ (u : NodeNo). u.0)) ∙ (ap length placed.are ∙ length-places_of-take topology v tree.steps k within)

  start_is : (p : ℕ) (start : NodeNo) → p ≤ k → start ≡ get_or places p start → start.0 ≡ place_of topology v tree p
  start_is p start small is =
      ap (λ (u : NodeNo). u.0) is
      ∙ (sym (get_or-map (λ (u : NodeNo). u.0) places p start 0 (omega (arith, places_long, small)))
      ∙ (ap (λ (l : List ℕ). get_or l p 0) placed.are
      ∙ place-front topology v tree k p within small))

  pub placed_more : (longer : List NodeNo) (s : Step) → k < length tree.steps → s ≡ step_at tree k → s.parent ≤ k
      → (start : NodeNo) → start ≡ get_or places s.parent start
      → (to : NodeNo) → IsPassable topology start.0 s.segment → to.0 ≡ other_end (segment_at topology s.segment) start.0
      → longer ≡ places ++ to ∷ [] → ArePlaced topology v tree longer (k + 1)
  placed_more longer s there read below start start_at to passable to_is pushed = record {
    are = place_more topology v tree.steps k there places longer s read below placed.are start start_at to to_is pushed;
    sound = λ j lt. elim (cases_eq j k) [
      | inr other ↦ placed.sound j (omega (arith, lt, other))
      | inl same ↦
          let here : IsStepSound topology v tree k =
          subst (λ (t : Step). (t.parent ≤ k) × IsPassable topology (place_of topology v tree t.parent) t.segment) read
          (below, subst (λ (n : ℕ). IsPassable topology n s.segment) (start_is s.parent start below start_at) passable) in
          subst (IsStepSound topology v tree) (sym same) here
    ];
  }

  pub late_parent : (s : Step) → k < length tree.steps → s ≡ step_at tree k → k < s.parent → AreStepsSound topology v tree → ⊥
  late_parent s there read late sound = omega (arith, late, (sound k there).0, ap (λ (t : Step). t.parent) read)

  pub no_way : (s : Step) → k < length tree.steps → s ≡ step_at tree k → s.parent ≤ k → (start : NodeNo) → start ≡ get_or places s.parent start
      → (IsPassable topology start.0 s.segment → ⊥) → AreStepsSound topology v tree → ⊥
  no_way s there read below start start_at not sound =
      let here : (s.parent ≤ k) × IsPassable topology (place_of topology v tree s.parent) s.segment =
      subst (λ (t : Step). (t.parent ≤ k) × IsPassable topology (place_of topology v tree t.parent) t.segment) (sym read) (sound k there) in
      not (subst (λ (n : ℕ). IsPassable topology n s.segment) (sym (start_is s.parent start below start_at)) here.1)

-- once all steps are tested
pub placed_sound : (topology : TopologyView) (v : ℕ) (tree : Tree) (places : List NodeNo) (k : ℕ) → ArePlaced topology v tree places k → length tree.steps ≤ k
    → AreStepsSound topology v tree
placed_sound topology v tree places k placed past j lt = placed.sound j (omega arith)

pub placed_all : (topology : TopologyView) (v : ℕ) (tree : Tree) (places : List NodeNo) (k : ℕ) → ArePlaced topology v tree places k → length tree.steps ≤ k
    → map (λ v. v.0) places ≡ places_of topology v tree.steps
placed_all topology v tree places k placed past = placed.are ∙ ap (places_of topology v) (take_all k tree.steps past)

-- a step as it is read
pub step-read : (layout : Layout) (items : List (ℕ × SegmentNo)) (k : ℕ) (none : ℕ × SegmentNo) → items ≡ layout.steps → k < length items
    → step_of (get_or items k none) ≡ step_at (tree_of layout) k
step-read layout items k none e within =
    sym (get_or-map step_of items k none no_step within) ∙ ap (λ (l : List (ℕ × SegmentNo)). get_or (map step_of l) k no_step) e
