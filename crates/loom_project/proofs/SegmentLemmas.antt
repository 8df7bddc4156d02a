-- A segment that passes its checks keeps the rules of the topology.
use Rattle.std.proofs.Common.{◌≡◌, ℕ, ◌<◌, Bool, true, false, not, ◌==◌, List, [], length, get_or, Ok, bytes_eq, refl, sym, ap, ◌∙◌, arith}
use Rattle.std.specs.List.{list_all}
use Rattle.std.proofs.lemmas.Bool.Decides.{nat_tests}
use Rattle.std.proofs.lemmas.List.{get_or-map, length-map}
use Rattle.std.proofs.lemmas.List.Folds.{list_all_at}
use Rattle.std.proofs.lemmas.Slice.Eq.{bytes_eq-Decides}
use Rattle.loom_base.specs.declared.limits.Which.TheVariants as limits
use Rattle.loom_formula.specs.NameIndex.{has_name}
use Rattle.loom_topology.specs.declared.kind.Kind.{Kind}
use Rattle.loom_topology.specs.declared.kind.Kind.TheVariants.{Run, Coupler}
use Rattle.loom_topology.specs.Topology.{TopologyView, Node, no_node, harness_at}
use Rattle.loom_topology.specs.TopologyFault.{inside_borders, number_of_new}
use Rattle.loom_project.specs.declared.draft.NodeDraft.{NodeDraft}
use Rattle.loom_project.specs.declared.draft.SegmentDraft.{SegmentDraft}
use Rattle.loom_project.specs.declared.fault.Of.TheVariants as of
use Rattle.loom_project.specs.declared.fault.ProjectFault.TheVariants.{UnknownName, EndsEqual, BorderCrossed, NoBorder}
use Rattle.loom_base.specs.First.{require}
use Rattle.loom_project.specs.Draft.{index_of, each_once, node_names, harness_labels}
use Rattle.loom_project.specs.Project.{placed_node, placed_nodes}
use Rattle.loom_project.specs.Sound.{not_repeated, within_limit, known, border_check, ends_check, segment_check}
use Rattle.loom_project.proofs.NameLemmas.{all_there}
use Rattle.loom_project.proofs.NetLemmas.{same_place, place_below, not_true}
use Rattle.loom_project.proofs.SoundLemmas.{passes_both, required}

-- two names are equal exactly where they stand at one place
same_places : (names : List (List ℕ)) (a b : List ℕ) → has_name names a ≡ true → has_name names b ≡ true → (index_of names a == index_of names b) ≡ bytes_eq a b
same_places names a b here there =
    let Same : Bool → Type 0 = λ v. bytes_eq a b ≡ v → (index_of names a == index_of names b) ≡ v in
    elim (bytes_eq a b) as Same [
      | true ↦ λ e. let equal : a ≡ b = (bytes_eq-Decides a b).0 e in let places : index_of names a ≡ index_of names b = ap (index_of names) equal in grind (arith, nat_tests)
      | false ↦ λ e. let apart : index_of names a ≡ index_of names b → ⊥ = λ p. absurd (cc (e, same_place names b a there here (sym p))) in grind (arith, nat_tests)
    ] refl

all_at : {X : Type 0} (p : X → Bool) (xs : List X) (i : ℕ) (d : X) → i < length xs → list_all p xs ≡ true → p (get_or xs i d) ≡ true
all_at p xs i d lt all =
    let There : Bool → Type 0 = λ v. p (get_or xs i d) ≡ v → v ≡ true in
    elim (p (get_or xs i d)) as There [ true ↦ λ _. refl | false ↦ λ e. absurd (cc (all, list_all_at p xs i d lt e)) ] refl

abbrev no_draft : NodeDraft
no_draft = record { name = []; harness = []; branch = 0 }

module _ (nodes : List NodeDraft) (topology : TopologyView) (placed : topology.nodes ≡ placed_nodes nodes) where
  abbrev harnesses : List (List ℕ)
  harnesses = each_once (harness_labels nodes)

  -- the number of a node's harness is the place of its label
  number_at : (v : ℕ) → v < length nodes → harness_at topology v ≡ index_of harnesses (get_or (harness_labels nodes) v [])
  number_at v lt =
      let label : get_or (harness_labels nodes) v [] ≡ (get_or nodes v no_draft).harness = get_or-map (λ node. node.harness) nodes v no_draft [] lt in
      ap (λ (ns : List Node). (get_or ns v no_node).harness) placed
      ∙ ap (λ (n : Node). n.harness) (get_or-map (placed_node harnesses) nodes v no_draft no_node lt)
      ∙ ap (index_of harnesses) (sym label)

  -- two nodes lie in one harness exactly where they have one label
  one_harness : (v u : ℕ) → v < length nodes → u < length nodes → (harness_at topology v == harness_at topology u) ≡ bytes_eq (get_or (harness_labels nodes) v []) (get_or (harness_labels nodes) u [])
  one_harness v u first second =
      let labels = harness_labels nodes in
      let there : (w : ℕ) → w < length nodes → has_name harnesses (get_or labels w []) ≡ true =
      λ w lt. all_at (has_name harnesses) labels w [] (rw (length-map nodes (λ (node : NodeDraft). node.harness)) lt) (all_there [] labels) in
      rw (number_at v first, number_at u second) (same_places harnesses (get_or labels v []) (get_or labels u []) (there v first) (there u second))

  keeps_border : (kind : Kind) (name : List ℕ) (n here there : ℕ) (is_inside : Bool) → (here == there) ≡ is_inside → border_check kind name is_inside ≡ Ok tt → inside_borders kind n here there ≡ Ok n
  keeps_border (Run length) name n here there is_inside same passes =
      let inside : is_inside ≡ true = required is_inside (BorderCrossed name) passes in rw (same, inside) refl
  keeps_border (Coupler price pins) name n here there is_inside same passes =
      let outside : is_inside ≡ false = not_true is_inside (required (not is_inside) (NoBorder name) passes) in rw (same, outside) refl

  -- a segment with sound ends can be added
  ends_fit : (segment : SegmentDraft) → ends_check nodes segment ≡ Ok tt → number_of_new topology (index_of (node_names nodes) segment.from) (index_of (node_names nodes) segment.to) segment.kind ≡ Ok (length topology.segments)
  unfolding ends_check
  ends_fit segment h =
      let names = node_names nodes in
      let a = passes_both (known of.Node names segment.from) _ h in
      let b = passes_both (known of.Node names segment.to) _ a.1 in
      let c = passes_both (require (not (bytes_eq segment.from segment.to)) (EndsEqual segment.name)) _ b.1 in
      let from : has_name names segment.from ≡ true = required (has_name names segment.from) (UnknownName of.Node segment.from) a.0 in
      let to : has_name names segment.to ≡ true = required (has_name names segment.to) (UnknownName of.Node segment.to) b.0 in
      let apart : bytes_eq segment.from segment.to ≡ false = not_true (bytes_eq segment.from segment.to) (required (not (bytes_eq segment.from segment.to)) (EndsEqual segment.name) c.0) in
      let differ : (index_of names segment.from == index_of names segment.to) ≡ false = same_places names segment.from segment.to from to ∙ apart in
      let within : (name : List ℕ) → has_name names name ≡ true → index_of names name < length nodes =
      λ name there. rw (← length-map nodes (λ (node : NodeDraft). node.name)) (place_below (bytes_eq name) names there) in
      rw differ (keeps_border segment.kind segment.name (length topology.segments) _ _ _
      (one_harness (index_of names segment.from) (index_of names segment.to) (within segment.from from) (within segment.to to)) c.1)

  -- a segment that passes its checks can be added
  pub segment_fits : (taken : List (List ℕ)) (segment : SegmentDraft) → segment_check nodes taken segment ≡ Ok tt → number_of_new topology (index_of (node_names nodes) segment.from) (index_of (node_names nodes) segment.to) segment.kind ≡ Ok (length topology.segments)
  unfolding segment_check
  segment_fits taken segment h =
      let a = passes_both (not_repeated of.Segment taken segment.name) _ h in
      let b = passes_both (within_limit limits.Bars 64 (length segment.bars)) _ a.1 in
      ends_fit segment (passes_both (ends_check nodes segment) _ b.1).0
