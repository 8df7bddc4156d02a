-- A set's first cavity and the others; a printed set as it is cut.
use Rattle.std.proofs.Common.{◌≡◌, ℕ, ◌<◌, ◌≤◌, ◌/◌, ◌%◌, ◌==◌, List, [], ◌∷◌, length, map, drop, slice_index, inl, inr, Bool, true, false, refl, sym, ap, subst, ◌∙◌, arith}
use Rattle.std.specs.Prelude.{if◌then◌else◌}
use Rattle.std.specs.List.{All}
use Rattle.std.proofs.lemmas.Bool.{cases_eq}
use Rattle.std.proofs.lemmas.List.{length-map, get_or-map}
use Rattle.std.proofs.lemmas.List.Elements.{All-nil, All-cons, All-head, All-tail, All-map, All-from_get_or}
use Rattle.loom_base.specs.declared.positions.CavityNo.{CavityNo}
use Rattle.loom_topology.specs.Topology.{node_of}
use Rattle.loom_topology.specs.Legal.{chosen, cavities_of_mask}
use Rattle.loom_topology.specs.WiringTree.{IsWiringTree}
use Rattle.loom_topology.specs.TreeCost.{degree_of}
use Rattle.loom_project.specs.declared.draft.Draft.{Draft}
use Rattle.loom_project.specs.Project.{topology_of, cavities_of}
use Rattle.loom_types.specs.declared.layout.Layout.{Layout}
use Rattle.loom_types.specs.declared.plan.PinLine.{PinLine}
use Rattle.loom_types.specs.declared.plan.SetLine.{SetLine}
use Rattle.loom_types.specs.Laws.{set_wires}
use Rattle.loom_types.specs.LayoutTree.{IsLaidOut, tree_of}
use Rattle.loom_types.specs.LayoutWires.{layout_wires}
use Rattle.loom_types.specs.PinLines.{pin_in}
use Rattle.loom_types.specs.SetMask.{IsSet, SetIsStemAndRest, stem_cavity, rest_of}
use Rattle.loom_audit.specs.declared.laid_set.LaidSet.{LaidSet}
use Rattle.loom_audit.specs.CutSets.{numbers_of, first_of, others_of, IsLaid, wires_of_set}

pub chosen-zero : (cs : List ℕ) → chosen cs 0 ≡ []
chosen-zero [] = refl
chosen-zero (c ∷ cs) = chosen-zero cs

pub chosen-all : (P : ℕ → Type 0) (cs : List ℕ) (mask : ℕ) → All P cs → All P (chosen cs mask)
chosen-all P [] mask all = All-nil P
chosen-all P (c ∷ cs) mask all = kept (mask % 2 == 1) (chosen-all P cs (mask / 2) (All-tail P c cs all))
  where
    kept : (b : Bool) → All P (chosen cs (mask / 2)) → All P (if b then c ∷ chosen cs (mask / 2) else chosen cs (mask / 2))
    kept true rest = All-cons P c (chosen cs (mask / 2)) (All-head P c cs all) rest
    kept false rest = rest

-- the chosen cavities are in range where all are
pub chosen-in_range : (some : List CavityNo) (terminals : List ℕ) (mask : ℕ) → map (λ c. c.0) some ≡ chosen terminals mask → (n : ℕ) (all : List CavityNo)
    → map (λ c. c.0) all ≡ terminals → All (λ c. c.0 < n) all → All (λ c. c.0 < n) some
chosen-in_range some terminals mask are n all names within =
    let numbers : All (λ k. k < n) (map (λ (c : CavityNo). c.0) some) =
    subst (All (λ k. k < n)) (sym are) (chosen-all (λ k. k < n) terminals mask (subst (All (λ k. k < n)) names (All-map (λ k. k < n) (λ (c : CavityNo). c.0) all within))) in
    All-from_get_or (λ (c : CavityNo). c.0 < n) some (record { 0 = 0 })
    (λ i lt.
    subst (λ (k : ℕ). k < n) (get_or-map (λ (c : CavityNo). c.0) some i (record { 0 = 0 }) 0 lt)
    (numbers i 0 (omega (arith, lt, length-map some (λ (c : CavityNo). c.0)))))

module _ (terminals : List ℕ) (mask : ℕ) (is_set : IsSet terminals mask) where
  pub mask_some : 0 < mask
  mask_some = elim (cases_eq mask 0) [
    | inl none ↦
        let empty : length (chosen terminals mask) ≡ 0 = ap (λ (m : ℕ). length (chosen terminals m)) none ∙ ap length (chosen-zero terminals) in
        absurd (omega (arith, empty, is_set.some))
    | inr some ↦ omega (arith, some)
  ]

  module _ (law : SetIsStemAndRest) (few : length terminals ≤ 32) (numbers : List ℕ) (are : numbers ≡ chosen terminals mask) where
    parts : numbers ≡ stem_cavity terminals mask ∷ cavities_of_mask terminals (rest_of mask)
    parts = are ∙ law terminals mask mask_some is_set.within few

    pub first-is : slice_index numbers 0 ≡ stem_cavity terminals mask
    first-is = ap (λ (l : List ℕ). slice_index l 0) parts

    pub others-are : drop 1 numbers ≡ cavities_of_mask terminals (rest_of mask)
    others-are = ap (λ (l : List ℕ). drop 1 l) parts

    pub numbers-two : 2 ≤ length numbers
    numbers-two = omega (arith, ap length are, is_set.some)

module _ (draft : Draft) (set : SetLine) (laid : LaidSet) (net : laid.net ≡ set.net) (are : numbers_of laid ≡ chosen (cavities_of draft set.net.0) set.mask)
    (layout : laid.layout ≡ set.layout) (is_set : IsSet (cavities_of draft set.net.0) set.mask) (law : SetIsStemAndRest) (few : length (cavities_of draft set.net.0) ≤ 32) where
  abbrev terminals : List ℕ
  terminals = cavities_of draft set.net.0

  pub laid-as_set : IsLaidOut (topology_of draft) terminals set.mask set.layout → All (λ c. c < length (topology_of draft).cavities) terminals
      → IsLaid (topology_of draft) laid
  laid-as_set out within =
      let first = first-is terminals set.mask is_set law few (numbers_of laid) are in
      let others = others-are terminals set.mask is_set law few (numbers_of laid) are in
      let two = numbers-two terminals set.mask is_set law few (numbers_of laid) are in
      record {
        some = omega (arith, two, length-map laid.cavities (λ c. c.0));
        in_range =
            subst (All (λ c. c < length (topology_of draft).cavities)) (sym are)
            (chosen-all (λ c. c < length (topology_of draft).cavities) terminals set.mask within);
        tree =
            subst (λ (l : Layout). IsWiringTree (topology_of draft) (others_of laid) (node_of (topology_of draft) (first_of laid)) (tree_of l)) (sym layout)
            (subst (λ (n : ℕ). IsWiringTree (topology_of draft) (others_of laid) (node_of (topology_of draft) n) (tree_of set.layout)) (sym first)
            (subst (λ (l : List ℕ). IsWiringTree (topology_of draft) l (node_of (topology_of draft) (stem_cavity terminals set.mask)) (tree_of set.layout)) (sym others)
            out.tree));
        degrees = subst (λ (l : Layout). (point : ℕ) → point ≤ length l.steps → 2 ≤ degree_of (tree_of l) point) (sym layout) out.degrees;
      }

  pub wires-as_set : (pins : List PinLine) → wires_of_set (topology_of draft) pins laid
      ≡ set_wires (topology_of draft) set.net.0 (pin_in pins set.net.0) terminals set.mask set.layout
  wires-as_set pins =
      let first = first-is terminals set.mask is_set law few (numbers_of laid) are in
      let others = others-are terminals set.mask is_set law few (numbers_of laid) are in
      λ i. layout_wires (topology_of draft) (net i).0 (pin_in pins (net i).0) (first i) (others i) (layout i)
