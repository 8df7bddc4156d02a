-- What a laid set tells of its layout.
use Rattle.std.proofs.Common.{◌≡◌, ℕ, ◌+◌, ◌<◌, ◌≤◌, max, inl, inr, Bool, false, cond, List, [], ◌∷◌, length, map, get_or, refl, sym, ap, ◌∙◌, subst, arith, eqb}
use Rattle.std.specs.List.{fold, All, AllZip, count_by}
use Rattle.std.proofs.lemmas.Bool.{cases_lt, ne_eqb}
use Rattle.std.proofs.lemmas.List.{length-map, length-drop, get_or-map, get_or-drop}
use Rattle.std.proofs.lemmas.List.Elements.{length_all_zip, All-nil, All-cons, All-head, All-tail, All-weaker, All-from_get_or}
use Rattle.std.proofs.lemmas.List.Sums.{sum_by-cons}
use Rattle.loom_topology.specs.Topology.{TopologyView, IsSound, node_of}
use Rattle.loom_topology.proofs.Sound.{sound-cavity}
use Rattle.loom_topology.proofs.Places.{open_below, place_below}
use Rattle.loom_audit.proofs.PlaceSteps.{length-places_of}
use Rattle.loom_topology.specs.WiringTree.{Tree, step_at, place_of, places_of, no_step}
use Rattle.loom_base.specs.declared.positions.CavityNo.{CavityNo}
use Rattle.loom_base.specs.declared.positions.NodeNo.{NodeNo}
use Rattle.loom_base.specs.declared.positions.SegmentNo.{SegmentNo}
use Rattle.loom_types.specs.declared.layout.Layout.{Layout}
use Rattle.loom_topology.specs.TreeCost.{degree_of}
use Rattle.loom_types.specs.LayoutTree.{tree_of, step_of}
use Rattle.loom_audit.specs.declared.laid_set.LaidSet.{LaidSet}
use Rattle.loom_audit.specs.CutSets.{IsLaid, others_of, first_of}

-- ---- lists

all_right : {A B : Type 0} (R : A → B → Type 0) (P : B → Type 0) (imply : (x : A) (y : B) → R x y → P y) (xs : List A) (ys : List B) → AllZip R xs ys → All P ys
all_right R P imply [] [] h = All-nil P
all_right R P imply [] (y ∷ ys) h = absurd h
all_right R P imply (x ∷ xs) [] h = absurd h
all_right R P imply (x ∷ xs) (y ∷ ys) h = All-cons P y ys (imply x y h.0) (all_right R P imply xs ys h.1)

pub count_none : {X : Type 0} (p : X → Bool) (xs : List X) → All (λ x. p x ≡ false) xs → count_by p xs ≡ 0
count_none p [] h = refl
count_none p (x ∷ xs) h =
    sum_by-cons (λ x. cond (p x) 1 0) x xs
    ∙ (ap (λ b. cond b 1 0 + count_by p xs) (All-head (λ x. p x ≡ false) x xs h)
    ∙ (omega (arith, count_none p xs (All-tail (λ x. p x ≡ false) x xs h))))

max_from : (a : ℕ) (xs : List ℕ) → a ≤ fold max a xs
max_from a [] = omega arith
max_from a (x ∷ xs) = let h : max a x ≤ fold max (max a x) xs = max_from (max a x) xs in omega arith

all_max : (a : ℕ) (xs : List ℕ) → All (λ x. x ≤ fold max a xs) xs
all_max a [] = All-nil (λ x. x ≤ a)
all_max a (x ∷ xs) =
    let h : max a x ≤ fold max (max a x) xs = max_from (max a x) xs in
    All-cons (λ y. y ≤ fold max (max a x) xs) x xs (omega arith) (all_max (max a x) xs)

max_most : (n a : ℕ) (xs : List ℕ) → a ≤ n → All (λ x. x ≤ n) xs → fold max a xs ≤ n
max_most n a [] small h = small
max_most n a (x ∷ xs) small h =
    let here : x ≤ n = All-head (λ x. x ≤ n) x xs h in
    max_most n (max a x) xs (omega arith) (All-tail (λ x. x ≤ n) x xs h)

-- ---- a laid set

module _ (topology : TopologyView) (set : LaidSet) (laid : IsLaid topology set) where
  pub steps_length : length (tree_of set.layout).steps ≡ length set.layout.steps
  steps_length = length-map set.layout.steps step_of

  pub each_hangs : length (others_of set) ≡ length set.layout.hangs
  each_hangs =
      length_all_zip (λ c point. (point ≤ length (tree_of set.layout).steps) × (place_of topology (node_of topology (first_of set)) (tree_of set.layout) point ≡ node_of topology c))
      (others_of set) set.layout.hangs laid.tree.hangs

  pub hangs_within : All (λ point. point ≤ length set.layout.steps) set.layout.hangs
  hangs_within =
      all_right (λ c point. (point ≤ length (tree_of set.layout).steps) × (place_of topology (node_of topology (first_of set)) (tree_of set.layout) point ≡ node_of topology c))
      (λ point. point ≤ length set.layout.steps) (λ c point h. subst (λ (n : ℕ). point ≤ n) steps_length h.0)
      (others_of set) set.layout.hangs laid.tree.hangs

  pub parents_within : All (λ step. step.parent ≤ length set.layout.steps) (tree_of set.layout).steps
  parents_within =
      All-from_get_or (λ step. step.parent ≤ length set.layout.steps) (tree_of set.layout).steps no_step
      (λ k within. omega (arith, laid.tree.parent k within, steps_length))

  no_parent : All (λ step. eqb step.parent (length set.layout.steps) ≡ false) (tree_of set.layout).steps
  no_parent =
      All-from_get_or (λ step. eqb step.parent (length set.layout.steps) ≡ false) (tree_of set.layout).steps no_step
      (λ k within. ne_eqb (step_at (tree_of set.layout) k).parent (length set.layout.steps)
      (λ e. absurd (omega (arith, laid.tree.parent k within, steps_length, e))))

  -- the first cavity's node is there
  pub start_below : IsSound topology → node_of topology (first_of set) < length topology.nodes
  start_below sound =
      sound-cavity topology sound (first_of set) (laid.in_range 0 0 (omega (arith, laid.some, length-map set.cavities (λ (c : CavityNo). c.0))))

  -- the last point has a cavity, since no step begins there
  pub greatest_hang : fold max 0 set.layout.hangs ≡ length set.layout.steps
  unfolding degree_of
  greatest_hang =
      let most = max_most (length set.layout.steps) 0 set.layout.hangs (omega arith) hangs_within in
      elim (cases_lt (fold max 0 set.layout.hangs) (length set.layout.steps)) [
        | inr le ↦ omega arith
        | inl lt ↦
            let no_hang : count_by (λ h. eqb h (length set.layout.steps)) set.layout.hangs ≡ 0 =
            count_none (λ h. eqb h (length set.layout.steps)) set.layout.hangs
            (All-weaker (λ h. h ≤ fold max 0 set.layout.hangs) (λ h. eqb h (length set.layout.steps) ≡ false)
            (λ h le. ne_eqb h (length set.layout.steps) (λ e. absurd (omega arith))) set.layout.hangs (all_max 0 set.layout.hangs)) in
            let no_step' : count_by (λ s. eqb s.parent (length set.layout.steps)) (tree_of set.layout).steps ≡ 0 =
            count_none (λ s. eqb s.parent (length set.layout.steps)) (tree_of set.layout).steps no_parent in
            let degree : 2 ≤ count_by (λ s. eqb s.parent (length set.layout.steps)) (tree_of set.layout).steps + count_by (λ h. eqb h (length set.layout.steps)) set.layout.hangs + 1 =
            laid.degrees (length set.layout.steps) (omega arith) in
            absurd (omega arith)
      ]

-- a step as it is read
step_read : (layout : Layout) (items : List (ℕ × SegmentNo)) (k : ℕ) (none : ℕ × SegmentNo) → items ≡ layout.steps → k < length items
    → step_of (get_or items k none) ≡ step_at (tree_of layout) k
step_read layout items k none e within =
    sym (get_or-map step_of items k none no_step within) ∙ ap (λ (l : List (ℕ × SegmentNo)). get_or (map step_of l) k no_step) e

-- what is known of a step of a laid set
pub record IsStep (topology : TopologyView) (set : LaidSet) (k : ℕ) (step : ℕ × SegmentNo) : Type 0 where
  pub inside : k < length (tree_of set.layout).steps
  pub read : step_of step ≡ step_at (tree_of set.layout) k
  pub parent : step.0 ≡ (step_at (tree_of set.layout) k).parent
  pub segment : step.1.0 ≡ (step_at (tree_of set.layout) k).segment
  pub below : (step_at (tree_of set.layout) k).parent ≤ k
  pub there : (step_at (tree_of set.layout) k).segment < length topology.segments

pub is_step : (topology : TopologyView) (set : LaidSet) → IsLaid topology set → (items : List (ℕ × SegmentNo)) (k : ℕ) (none : ℕ × SegmentNo)
    → items ≡ set.layout.steps → k < length items → IsStep topology set k (get_or items k none)
is_step topology set laid items k none e within =
    let inside : k < length (tree_of set.layout).steps = omega (arith, within, ap length e, steps_length topology set laid) in
    let read = step_read set.layout items k none e within in
    record {
      inside = inside;
      read = read;
      parent = ap (λ s. s.parent) read;
      segment = ap (λ s. s.segment) read;
      below = laid.tree.parent k inside;
      there = open_below topology (step_at (tree_of set.layout) k).segment (laid.tree.is_open k inside);
    }

place_read : (topology : TopologyView) (v : ℕ) (tree : Tree) (places : List NodeNo) (k : ℕ) (none : NodeNo)
    → map (λ v. v.0) places ≡ places_of topology v tree.steps → k < length places
    → (get_or places k none).0 ≡ place_of topology v tree k
place_read topology v tree places k none e within =
    sym (get_or-map (λ v. v.0) places k none 0 within) ∙ ap (λ (l : List ℕ). get_or l k 0) e

pub first_read : (set : LaidSet) (items : List CavityNo) (none : CavityNo) → items ≡ set.cavities → 0 < length items
    → (get_or items 0 none).0 ≡ first_of set
first_read set items none e within =
    sym (get_or-map (λ c. c.0) items 0 none 0 within) ∙ ap (λ (l : List CavityNo). get_or (map (λ c. c.0) l) 0 0) e

pub others_count : (set : LaidSet) → length (others_of set) + 1 ≡ max 1 (length set.cavities)
others_count set = omega (arith, length-drop 1 (map (λ c. c.0) set.cavities), length-map set.cavities (λ (c : CavityNo). c.0))

pub other_read : (set : LaidSet) (items : List CavityNo) (k : ℕ) (none : CavityNo) → items ≡ set.cavities → k + 1 < length items
    → (get_or items (k + 1) none).0 ≡ get_or (others_of set) k 0
other_read set items k none e within =
    let turned : k + 1 ≡ 1 + k = omega arith in
    sym (get_or-map (λ c. c.0) items (k + 1) none 0 within)
    ∙ (ap (λ (l : List CavityNo). get_or (map (λ c. c.0) l) (k + 1) 0) e
    ∙ (ap (λ (n : ℕ). get_or (map (λ c. c.0) set.cavities) n 0) turned
    ∙ sym (get_or-drop 1 (map (λ c. c.0) set.cavities) k 0)))

module _ (topology : TopologyView) (sound : IsSound topology) (set : LaidSet) (laid : IsLaid topology set) (places : List NodeNo)
    (are : map (λ v. v.0) places ≡ places_of topology (node_of topology (first_of set)) (tree_of set.layout).steps) where
  -- there is a place for each point
  pub places_count : length places ≡ length set.layout.steps + 1
  places_count =
      omega (
        arith,
        ap length are,
        length-map places (λ (v : NodeNo). v.0),
        length-places_of topology (node_of topology (first_of set)) (tree_of set.layout).steps,
        steps_length topology set laid,
      )

  pub place_is : (k : ℕ) (none : NodeNo) → k < length places → (get_or places k none).0 ≡ place_of topology (node_of topology (first_of set)) (tree_of set.layout) k
  place_is k none within = place_read topology (node_of topology (first_of set)) (tree_of set.layout) places k none are within

  -- which is a node that is there
  pub place_there : (k : ℕ) (none : NodeNo) → k < length places → (get_or places k none).0 < length topology.nodes
  place_there k none within =
      subst (λ (u : ℕ). u < length topology.nodes) (sym (place_is k none within))
      (place_below topology (others_of set) (node_of topology (first_of set)) (tree_of set.layout) laid.tree sound (start_below topology set laid sound) k
      (omega (arith, places_count, steps_length topology set laid)))
