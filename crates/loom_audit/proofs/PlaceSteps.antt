-- The nodes of a tree's points, step by step.
use Rattle.std.proofs.Common.{◌≡◌, ℕ, ◌+◌, ◌<◌, ◌≤◌, List, [], ◌∷◌, ◌++◌, length, map, get_or, slice_index, take, refl, sym, ap, ◌∙◌, arith, length-append}
use Rattle.std.specs.List.{fold}
use Rattle.std.proofs.lemmas.List.Sums.{fold_more}
use Rattle.std.proofs.lemmas.List.{length-take-le, length-map, get_or-map, map_push}
use Rattle.loom_base.specs.declared.positions.NodeNo.{NodeNo}
use Rattle.loom_topology.specs.Topology.{TopologyView, segment_at}
use Rattle.loom_topology.specs.WiringTree.{Step, other_end, places_of, no_step}

abbrev with_place : TopologyView → List ℕ → Step → List ℕ
with_place topology placed s = placed ++ other_end (segment_at topology s.segment) (slice_index placed s.parent) ∷ []

length_from : (topology : TopologyView) (placed : List ℕ) (steps : List Step)
    → length (fold (with_place topology) placed steps) ≡ length placed + length steps
length_from topology placed [] = omega arith
length_from topology placed (s ∷ steps) =
    let longer : length (with_place topology placed s) ≡ length placed + 1 =
    length-append placed (other_end (segment_at topology s.segment) (slice_index placed s.parent) ∷ []) in
    length_from topology (with_place topology placed s) steps ∙ omega arith

pub length-places_of : (topology : TopologyView) (v : ℕ) (steps : List Step) → length (places_of topology v steps) ≡ length steps + 1
unfolding places_of
length-places_of topology v steps = length_from topology (v ∷ []) steps ∙ omega arith

pub places_of-more : (topology : TopologyView) (v : ℕ) (steps : List Step) (k : ℕ) → k < length steps
    → places_of topology v (take (k + 1) steps)
    ≡ places_of topology v (take k steps)
    ++ other_end (segment_at topology (get_or steps k no_step).segment)
    (slice_index (places_of topology v (take k steps)) (get_or steps k no_step).parent) ∷ []
unfolding places_of
places_of-more topology v steps k within = fold_more (with_place topology) (v ∷ []) steps k no_step within

pub length-places_of-take : (topology : TopologyView) (v : ℕ) (steps : List Step) (k : ℕ) → k ≤ length steps
    → length (places_of topology v (take k steps)) ≡ k + 1
length-places_of-take topology v steps k within =
    length-places_of topology v (take k steps) ∙ ap (λ n. n + 1) (length-take-le k steps within)

places_of-none : (topology : TopologyView) (v : ℕ) (steps : List Step) → places_of topology v (take 0 steps) ≡ v ∷ []
unfolding places_of
places_of-none topology v steps = refl

-- the place of point 0
pub place_first : (topology : TopologyView) (v : ℕ) (steps : List Step) (none places : List NodeNo) (node : NodeNo)
    → none ≡ [] → places ≡ none ++ node ∷ [] → node.0 ≡ v → map (λ v. v.0) places ≡ places_of topology v (take 0 steps)
place_first topology v steps none places node empty pushed e =
    ap (map (λ v. v.0)) (pushed ∙ ap (λ (l : List NodeNo). l ++ node ∷ []) empty)
    ∙ (ap (λ (n : ℕ). n ∷ []) e ∙ sym (places_of-none topology v steps))

-- the places after one more step
pub place_more : (topology : TopologyView) (v : ℕ) (steps : List Step) (k : ℕ) → k < length steps
    → (places longer : List NodeNo) (s : Step) → s ≡ get_or steps k no_step → s.parent ≤ k
    → map (λ v. v.0) places ≡ places_of topology v (take k steps)
    → (start : NodeNo) → start ≡ get_or places s.parent start
    → (to : NodeNo) → to.0 ≡ other_end (segment_at topology s.segment) start.0
    → longer ≡ places ++ to ∷ []
    → map (λ v. v.0) longer ≡ places_of topology v (take (k + 1) steps)
place_more topology v steps k within places longer s s_is below before start start_is to to_is pushed =
    let long : length places ≡ k + 1 =
    sym (length-map places (λ v. v.0)) ∙ (ap length before ∙ length-places_of-take topology v steps k (omega arith)) in
    let from : start.0 ≡ slice_index (places_of topology v (take k steps)) s.parent =
    ap (λ v. v.0) start_is
    ∙ (sym (get_or-map (λ v. v.0) places s.parent start 0 (omega arith))
    ∙ ap (λ (l : List ℕ). get_or l s.parent 0) before) in
    ap (map (λ v. v.0)) pushed
    ∙ (map_push (λ v. v.0) places to
    ∙ (ap (λ (n : ℕ). map (λ v. v.0) places ++ n ∷ []) (to_is ∙ ap (other_end (segment_at topology s.segment)) from)
    ∙ (ap (λ (l : List ℕ). l ++ other_end (segment_at topology s.segment) (slice_index (places_of topology v (take k steps)) s.parent) ∷ []) before
    ∙ (ap (λ (t : Step). places_of topology v (take k steps) ++ other_end (segment_at topology t.segment) (slice_index (places_of topology v (take k steps)) t.parent) ∷ []) s_is
    ∙ sym (places_of-more topology v steps k within)))))
