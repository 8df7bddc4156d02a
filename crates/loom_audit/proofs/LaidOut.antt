-- The parts of the test of a layout, and the whole.
use Rattle.std.proofs.Common.{◌≡◌, ℕ, suc, ◌+◌, ◌<◌, ◌≤◌, List, [], ◌∷◌, length, drop, get_or, slice_index, sym, ap, subst, ◌∙◌, arith}
use Rattle.std.specs.List.{AllZip}
use Rattle.std.proofs.lemmas.List.{length-map}
use Rattle.std.proofs.lemmas.List.Elements.{length_all_zip, AllZip-get_or}
use Rattle.loom_topology.specs.Topology.{TopologyView, node_of}
use Rattle.loom_topology.specs.Legal.{chosen, cavities_of_mask}
use Rattle.loom_topology.specs.WiringTree.{Tree, IsWiringTree, places_of, place_of}
use Rattle.loom_topology.specs.TreeCost.{cost_of}
use Rattle.loom_topology.proofs.Drawn.{AllZip-like}
use Rattle.loom_project.specs.declared.draft.Draft.{Draft}
use Rattle.loom_project.specs.Project.{topology_of, net_topology}
use Rattle.loom_types.specs.declared.layout.Layout.{Layout}
use Rattle.loom_types.specs.LayoutTree.{tree_of, step_of, layout_cost, IsLaidOut}
use Rattle.loom_types.specs.SetMask.{IsSet, SetIsStemAndRest, stem_cavity, stem_node, rest_of}
use Rattle.loom_active.proofs.Openings.{net_differs}
use Rattle.loom_audit.specs.Degrees.{AreDegrees}
use Rattle.loom_audit.specs.LayoutTests.{AreStepsSound, HangsAt, AreHungAt, AreTwoEach}
use Rattle.loom_audit.proofs.NetTopologies.{places-same, cost-same}
use Rattle.loom_audit.proofs.PlaceSteps.{length-places_of}
use Rattle.loom_audit.proofs.SetParts.{first-is, others-are}

all_zip_from : {A B : Type 0} (R : A → B → Type 0) (xs : List A) (ys : List B) (d : A) (e : B) → length xs ≡ length ys
    → ((k : ℕ) → k < length ys → R (get_or xs k d) (get_or ys k e)) → AllZip R xs ys
all_zip_from R [] [] d e same each = tt
all_zip_from R [] (y ∷ ys) d e same each = absurd (omega arith)
all_zip_from R (x ∷ xs) [] d e same each = absurd (omega arith)
all_zip_from R (x ∷ xs) (y ∷ ys) d e same each =
    (each 0 (omega arith), all_zip_from R xs ys d e (omega arith) (λ k lt. each (suc k) (omega (arith, lt))))

module _ (topology : TopologyView) (places cavities hangs : List ℕ) where
  pub hung-lengths : AreHungAt topology places cavities hangs → length cavities ≡ length hangs
  hung-lengths hung = length_all_zip (HangsAt topology places) cavities hangs hung

  pub hung-at : AreHungAt topology places cavities hangs → (k : ℕ) → k < length cavities
      → HangsAt topology places (get_or cavities k 0) (get_or hangs k 0)
  hung-at hung k lt = AllZip-get_or (HangsAt topology places) cavities hangs k 0 0 hung lt

  pub hung-all : length cavities ≡ length hangs
      → ((k : ℕ) → k < length hangs → HangsAt topology places (get_or cavities k 0) (get_or hangs k 0)) → AreHungAt topology places cavities hangs
  hung-all same each = all_zip_from (HangsAt topology places) cavities hangs 0 0 same each

module _ (draft : Draft) (net : ℕ) (terminals : List ℕ) (mask : ℕ) (layout : Layout) (is_set : IsSet terminals mask) (law : SetIsStemAndRest)
    (few : length terminals ≤ 32) (numbers : List ℕ) (are : numbers ≡ chosen terminals mask) (start : ℕ)
    (start_is : start ≡ node_of (topology_of draft) (slice_index numbers 0)) where
  abbrev topology : TopologyView
  topology = net_topology draft net

  abbrev tree : Tree
  tree = tree_of layout

  node-same : (c : ℕ) → node_of (topology_of draft) c ≡ node_of topology c
  node-same c = ap (λ (cs : List ℕ). slice_index cs c) (net_differs draft net).cavities

  pub stem : start ≡ stem_node topology terminals mask
  stem = start_is ∙ ap (node_of (topology_of draft)) (first-is terminals mask is_set law few numbers are) ∙ node-same (stem_cavity terminals mask)

  steps-sound : IsLaidOut topology terminals mask layout → AreStepsSound topology start tree
  steps-sound laid =
      subst (λ (v : ℕ). AreStepsSound topology v tree) (sym stem)
      (λ k lt. (laid.tree.parent k lt, (laid.tree.is_open k lt, laid.tree.begins k lt)))

  pub not_sound : (AreStepsSound topology start tree → ⊥) → IsLaidOut topology terminals mask layout → ⊥
  not_sound not laid = not (steps-sound laid)

  module _ (places : List ℕ) (places_are : places ≡ places_of topology start tree.steps) where
    long : length places ≡ length tree.steps + 1
    long = ap length places_are ∙ length-places_of topology start tree.steps

    hung : IsLaidOut topology terminals mask layout → AreHungAt (topology_of draft) places (drop 1 numbers) layout.hangs
    hung laid =
        subst (λ (l : List ℕ). AreHungAt (topology_of draft) places l layout.hangs) (sym (others-are terminals mask is_set law few numbers are))
        (AllZip-like (λ c point. (point ≤ length tree.steps) × (place_of topology (stem_node topology terminals mask) tree point ≡ node_of topology c))
        (HangsAt (topology_of draft) places)
        (λ c point h. (
          omega (arith, h.0, long),
          ap (λ (l : List ℕ). slice_index l point) (places_are ∙ ap (λ (v : ℕ). places_of topology v tree.steps) stem) ∙ h.1 ∙ sym (node-same c),
        ))
        (cavities_of_mask terminals (rest_of mask)) layout.hangs laid.tree.hangs)

    pub not_hung : (AreHungAt (topology_of draft) places (drop 1 numbers) layout.hangs → ⊥) → IsLaidOut topology terminals mask layout → ⊥
    not_hung not laid = not (hung laid)

    module _ (degrees : List ℕ) (degrees_are : AreDegrees tree degrees) where
      pub not_two : (AreTwoEach degrees → ⊥) → IsLaidOut topology terminals mask layout → ⊥
      not_two not laid =
          not (λ point lt.
          let two = laid.degrees point (omega (arith, lt, degrees_are.count, length-map layout.steps step_of)) in
          omega (arith, two, degrees_are.each point lt))

      pub laid_out : AreStepsSound topology start tree → AreHungAt (topology_of draft) places (drop 1 numbers) layout.hangs → AreTwoEach degrees
          → IsLaidOut topology terminals mask layout
      laid_out sound hung_at two = record {
        tree = subst (λ (v : ℕ). IsWiringTree topology (cavities_of_mask terminals (rest_of mask)) v tree) stem (record {
          parent = λ k lt. (sound k lt).0;
          is_open = λ k lt. (sound k lt).1.0;
          begins = λ k lt. (sound k lt).1.1;
          hangs =
              AllZip-like (HangsAt (topology_of draft) places)
              (λ c point. (point ≤ length tree.steps) × (place_of topology start tree point ≡ node_of topology c))
              (λ c point h. (
                omega (arith, h.0, long),
                ap (λ (l : List ℕ). slice_index l point) (sym places_are) ∙ h.1 ∙ node-same c,
              ))
              (cavities_of_mask terminals (rest_of mask)) layout.hangs
              (subst (λ (l : List ℕ). AreHungAt (topology_of draft) places l layout.hangs) (others-are terminals mask is_set law few numbers are) hung_at);
        });
        degrees = λ point le.
            let lt : point < length degrees = omega (arith, le, degrees_are.count, length-map layout.steps step_of) in
            omega (arith, two point lt, degrees_are.each point lt);
      }

    pub places-whole : places ≡ places_of (topology_of draft) start tree.steps
    places-whole = places_are ∙ sym (places-same draft net start tree.steps)

  pub cost-is : (cost : ℕ) → cost ≡ cost_of (topology_of draft) start tree → cost ≡ layout_cost topology terminals mask layout
  cost-is cost e = e ∙ cost-same draft net start tree ∙ ap (λ (v : ℕ). cost_of topology v tree) stem
