-- Over topologies that are alike, least costs and layouts depend on the nodes of the terminals alone.
use Rattle.std.proofs.Common.{ℕ, List, [], ◌∷◌, ◌++◌, Option, Some, None, replicate, length, drop, map, fold, slice_index, ◌≡◌, ◌+◌, ◌-◌, ◌*◌, ◌/◌, ◌%◌, ◌^◌, ◌<◌, ◌≤◌, arith, refl, sym, ◌∙◌, ap, subst, inl, inr, IsTrue}
use Rattle.std.specs.Prelude.{◌==◌, if◌then◌else◌, sum_by, Bool}
use Rattle.std.specs.Int.{sum_through}
use Rattle.std.specs.List.{AllZip}
use Rattle.std.proofs.lemmas.Bool.{cases_lt, cases_eq}
use Rattle.std.proofs.lemmas.List.{length-map, get_or-map, get_or_past}
use Rattle.loom_topology.specs.Topology.{TopologyView, node_of, branch_at}
use Rattle.loom_topology.specs.WiringTree.{Step, Tree, IsWiringTree, places_of, place_of, step_at}
use Rattle.loom_topology.specs.TreeCost.{cost_of, degree_of}
use Rattle.loom_topology.specs.Legal.{IsMask, chosen, cavities_of_mask, plus}
use Rattle.loom_topology.specs.Least.{IsLeast, HasLeastCosts}
use Rattle.loom_topology.proofs.Hangs.{chosen-one, chosen-none}
use Rattle.loom_topology.specs.Ties.{IsOneAt, AreTied, Splits, StepsTo}
use Rattle.loom_types.specs.declared.layout.Layout.{Layout}
use Rattle.loom_types.specs.SetMask.{stem_of, rest_of, stem_node}
use Rattle.loom_types.specs.LayoutTree.{tree_of}
use Rattle.loom_layout.specs.Layout.{Laying, Laid, hang, split, over, IsLayout, IsLayoutOf}
use Rattle.loom_layout.specs.Laws.{AreAlike}

pub alike_back : (one other : TopologyView) → AreAlike one other → AreAlike other one
alike_back one other alike = record {
  as_many = sym alike.as_many;
  branch = λ v. sym (alike.branch v);
  from = λ s. sym (alike.from s);
  to = λ s. sym (alike.to s);
  price = λ s. sym (alike.price s);
  is_open = λ s. sym (alike.is_open s);
}

splits_alike : (one other : TopologyView) (least : ℕ → ℕ → Option ℕ) (mask v part : ℕ) → AreAlike one other
    → Splits one least mask v part → Splits other least mask v part
splits_alike one other least mask v part alike (first, tied) = (
  first,
  subst (λ (b : ℕ). AreTied (plus (plus (least part v) (least (mask - part) v)) (Some b)) (least mask v)) (alike.branch v) tied,
)

steps_alike : (one other : TopologyView) (least : ℕ → ℕ → Option ℕ) (mask v s u : ℕ) → AreAlike one other
    → StepsTo one least mask v s u → StepsTo other least mask v s u
steps_alike one other least mask v s u alike ((is_open, ends), tied) = (
  (
    subst IsTrue (alike.is_open s) is_open,
    elim ends [
      | inl there ↦ inl (sym (alike.from s) ∙ there.0, sym (alike.to s) ∙ there.1)
      | inr back ↦ inr (sym (alike.from s) ∙ back.0, sym (alike.to s) ∙ back.1)
    ],
  ),
  subst (λ (p : ℕ). AreTied (plus (least mask u) (Some p)) (least mask v)) (alike.price s) tied,
)

module _ (one other : TopologyView) (alike : AreAlike one other) (terminals others : List ℕ) (least : ℕ → ℕ → Option ℕ)
    (same : map (node_of one) terminals ≡ map (node_of other) others) where
  as_many : length terminals ≡ length others
  as_many = sym (length-map terminals (node_of one)) ∙ (ap length same ∙ length-map others (node_of other))

  node_same : (i : ℕ) → i < length terminals → node_of other (slice_index others i) ≡ node_of one (slice_index terminals i)
  node_same i within =
      let inside : i < length others = omega (arith, as_many) in
      sym (get_or-map (node_of other) others i 0 0 inside)
      ∙ (ap (λ nodes. slice_index nodes i) (sym same) ∙ get_or-map (node_of one) terminals i 0 0 within)

  to_others : (mask v i : ℕ) → IsOneAt one terminals mask v i → IsOneAt other others mask v i
  to_others mask v i (within, power, at) = (omega (arith, as_many, within), power, node_same (i + 1) within ∙ at)

  from_others : (mask v i : ℕ) → IsOneAt other others mask v i → IsOneAt one terminals mask v i
  from_others mask v i (within, power, at) =
      let inside : i + 1 < length terminals = omega (arith, as_many, within) in
      (inside, power, sym (node_same (i + 1) inside) ∙ at)

  splits_back : (mask v part : ℕ) → Splits other least mask v part → Splits one least mask v part
  splits_back mask v part = splits_alike other one least mask v part (alike_back one other alike)

  steps_back : (mask v s u : ℕ) → StepsTo other least mask v s u → StepsTo one least mask v s u
  steps_back mask v s u = steps_alike other one least mask v s u (alike_back one other alike)

  laid_for_others : {mask v point : ℕ} {before after : Laying} → Laid one terminals least mask v point before after
      → Laid other others least mask v point before after
  laid_for_others {mask} {v} (hang i at) = hang i (to_others mask v i at)
  laid_for_others {mask} {v} (split part none low first rest) =
      split part (λ i at. none i (from_others mask v i at))
      (record { holds = splits_alike one other least mask v part alike low.holds; least = λ k splits. low.least k (splits_back mask v k splits) })
      (laid_for_others first) (laid_for_others rest)
  laid_for_others {mask} {v} (over s u none whole low steps rest) =
      over s u (λ i at. none i (from_others mask v i at)) (λ part splits. whole part (splits_back mask v part splits))
      (record {
        holds = (low.holds.0, steps_alike one other least mask v s low.holds.0 alike low.holds.1);
        least = λ k leads. low.least k (leads.0, steps_back mask v k leads.0 leads.1);
      })
      (steps_alike one other least mask v s u alike steps) (laid_for_others rest)

  laid_out_for_others : (mask v : ℕ) (tree : Tree) → IsLayout one terminals least mask v tree → IsLayout other others least mask v tree
  laid_out_for_others mask v tree (laying, laid, e) = (
    laying,
    subst (λ (n : ℕ). Laid other others least mask v 0 (record { steps = []; points = replicate (n - 1) 0 }) laying)
        as_many (laid_for_others laid),
    e,
  )

  pub nodes_fix_layouts : (mask : ℕ) (layout : Layout) → stem_of mask < length terminals → IsLayoutOf one terminals least mask layout
      → IsLayoutOf other others least mask layout
  nodes_fix_layouts mask layout within laid =
      subst (λ (v : ℕ). IsLayout other others least (rest_of mask) v (tree_of layout)) (sym (node_same (stem_of mask) within))
      (laid_out_for_others (rest_of mask) (stem_node one terminals mask) (tree_of layout) laid)

-- what hangs on the points fits other cavities at the same nodes
to_map : (Q : ℕ → ℕ → Type 0) (f : ℕ → ℕ) (xs hs : List ℕ) → AllZip (λ c h. Q (f c) h) xs hs → AllZip Q (map f xs) hs
to_map Q f [] [] zip = tt
to_map Q f [] (h ∷ hs) zip = absurd zip
to_map Q f (x ∷ xs) [] zip = absurd zip
to_map Q f (x ∷ xs) (h ∷ hs) zip = (zip.0, to_map Q f xs hs zip.1)

of_map : (Q : ℕ → ℕ → Type 0) (f : ℕ → ℕ) (xs hs : List ℕ) → AllZip Q (map f xs) hs → AllZip (λ c h. Q (f c) h) xs hs
of_map Q f [] [] zip = tt
of_map Q f [] (h ∷ hs) zip = absurd zip
of_map Q f (x ∷ xs) [] zip = absurd zip
of_map Q f (x ∷ xs) (h ∷ hs) zip = (zip.0, of_map Q f xs hs zip.1)

map-chosen : (f : ℕ → ℕ) (xs : List ℕ) (mask : ℕ) → map f (chosen xs mask) ≡ chosen (map f xs) mask
map-chosen f [] mask = refl
map-chosen f (x ∷ xs) mask = elim (cases_eq (mask % 2) 1) [
  | inl odd ↦
      ap (map f) (chosen-one x xs mask odd)
      ∙ (ap (λ l. f x ∷ l) (map-chosen f xs (mask / 2)) ∙ sym (chosen-one (f x) (map f xs) mask odd))
  | inr other ↦
      let even : mask % 2 ≡ 0 = omega (arith, other) in
      ap (map f) (chosen-none x xs mask even) ∙ (map-chosen f xs (mask / 2) ∙ sym (chosen-none (f x) (map f xs) mask even))
]

map-rest : (f : ℕ → ℕ) (xs : List ℕ) → map f (drop 1 xs) ≡ drop 1 (map f xs)
map-rest f [] = refl
map-rest f (x ∷ xs) = refl

nodes_of_mask : (f : ℕ → ℕ) (xs : List ℕ) (mask : ℕ) → map f (cavities_of_mask xs mask) ≡ chosen (drop 1 (map f xs)) mask
nodes_of_mask f xs mask = map-chosen f (drop 1 xs) mask ∙ ap (λ l. chosen l mask) (map-rest f xs)

module _ (one other : TopologyView) (alike : AreAlike one other) where
  -- points lie at the same nodes
  places_same : (v : ℕ) (steps : List Step) → places_of one v steps ≡ places_of other v steps
  unfolding places_of
  places_same v steps = λ i. fold (λ placed s. placed
      ++ (if alike.from s.segment i == slice_index placed s.parent then alike.to s.segment i else alike.from s.segment i) ∷ []) (v ∷ []) steps

  place_same : (v : ℕ) (tree : Tree) (point : ℕ) → place_of one v tree point ≡ place_of other v tree point
  place_same v tree point = ap (λ (places : List ℕ). slice_index places point) (places_same v tree.steps)

  branch_same : (v : ℕ) (tree : Tree) (point : ℕ) → branch_at one (place_of one v tree point) ≡ branch_at other (place_of other v tree point)
  branch_same v tree point = alike.branch (place_of one v tree point) ∙ ap (branch_at other) (place_same v tree point)

  cost_same : (v : ℕ) (tree : Tree) → cost_of one v tree ≡ cost_of other v tree
  unfolding cost_of
  cost_same v tree = λ i. sum_by (λ s. alike.price s.segment i) tree.steps
      + sum_through (λ point. branch_same v tree point i * (degree_of tree point - 2)) (length tree.steps)

  tree_moves : (xs ys : List ℕ) (v : ℕ) (tree : Tree) → map (node_of one) xs ≡ map (node_of other) ys
      → IsWiringTree one xs v tree → IsWiringTree other ys v tree
  tree_moves xs ys v tree same is_tree = record {
    parent = is_tree.parent;
    is_open = λ k lt. subst IsTrue (alike.is_open (step_at tree k).segment) (is_tree.is_open k lt);
    begins = λ k lt.
        let s = (step_at tree k).segment in
        let start = place_same v tree (step_at tree k).parent in
        elim (is_tree.begins k lt) [
          | inl from ↦ inl (sym (alike.from s) ∙ from ∙ start)
          | inr to ↦ inr (sym (alike.to s) ∙ to ∙ start)
        ];
    hangs =
        let Q : (ℕ → ℕ) → ℕ → ℕ → Type 0 = λ place n point. (point ≤ length tree.steps) × (place point ≡ n) in
        let here : AllZip (Q (place_of one v tree)) (map (node_of one) xs) tree.hangs =
        to_map (Q (place_of one v tree)) (node_of one) xs tree.hangs is_tree.hangs in
        let places : place_of one v tree ≡ place_of other v tree = λ i point. place_same v tree point i in
        of_map (Q (place_of other v tree)) (node_of other) ys tree.hangs
        (subst (λ (l : List ℕ). AllZip (Q (place_of other v tree)) l tree.hangs) same
        (subst (λ (p : ℕ → ℕ). AllZip (Q p) (map (node_of one) xs) tree.hangs) places here));
  }

least_moves : (one other : TopologyView) (alike : AreAlike one other) (xs ys : List ℕ) (v : ℕ) (answer : Option ℕ)
    → map (node_of one) xs ≡ map (node_of other) ys → IsLeast one xs v answer → IsLeast other ys v answer
least_moves one other alike xs ys v None same least = λ tree is_tree.
    least tree (tree_moves other one (alike_back one other alike) ys xs v tree (sym same) is_tree)
least_moves one other alike xs ys v (Some m) same ((tree, is_tree, cost), below) = (
  (tree, tree_moves one other alike xs ys v tree same is_tree, sym (cost_same one other alike v tree) ∙ cost),
  λ t is_tree'. subst (λ (n : ℕ). m ≤ n) (cost_same one other alike v t)
      (below t (tree_moves other one (alike_back one other alike) ys xs v t (sym same) is_tree')),
)

-- so least costs are fixed by the nodes too
pub nodes_fix_least_costs : (one other : TopologyView) (terminals others : List ℕ) (least : ℕ → ℕ → Option ℕ)
    → AreAlike one other → map (node_of one) terminals ≡ map (node_of other) others
    → HasLeastCosts one terminals least → HasLeastCosts other others least
nodes_fix_least_costs one other terminals others least alike same costs mask v range node =
    let many : length terminals ≡ length others = as_many one other alike terminals others least same in
    let mask_range : IsMask terminals mask = subst (λ (n : ℕ). (0 < mask) × (mask < 2 ^ (n - 1))) (sym many) range in
    let nodes : map (node_of one) (cavities_of_mask terminals mask) ≡ map (node_of other) (cavities_of_mask others mask) =
    nodes_of_mask (node_of one) terminals mask
    ∙ (ap (λ l. chosen (drop 1 l) mask) same ∙ sym (nodes_of_mask (node_of other) others mask)) in
    let node' : v < length one.nodes = subst (λ (n : ℕ). v < n) (sym alike.as_many) node in
    least_moves one other alike (cavities_of_mask terminals mask) (cavities_of_mask others mask) v (least mask v) nodes (costs mask v mask_range node')
