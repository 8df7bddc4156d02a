-- Which segments are open changes no node, no place and no wire of a layout.
use Rattle.std.proofs.Common.{◌≡◌, ℕ, zero, suc, ◌≤◌, ◌==◌, ◌&&◌, Bool, List, [], ◌∷◌, ◌++◌, length, slice_index, inl, inr, refl, sym, ap, ap₂, ◌∙◌, arith}
use Rattle.std.specs.Prelude.{if◌then◌else◌}
use Rattle.std.specs.List.{fold}
use Rattle.std.specs.Int.{sum_through}
use Rattle.std.proofs.lemmas.Bool.{cases_lt}
use Rattle.std.proofs.lemmas.List.{get_or_past}
use Rattle.loom_topology.specs.declared.kind.Kind.{Kind}
use Rattle.loom_topology.specs.Topology.{TopologyView, Segment, no_segment, segment_at, node_of, is_coupler, price_of, shut_if, shut_among, shut_in}
use Rattle.loom_topology.specs.WiringTree.{Step, Tree, step_at, other_end, places_of, place_of}
use Rattle.loom_topology.proofs.ShutSegments.{length-shut_among, get_or-shut_among}
use Rattle.loom_project.specs.declared.draft.Draft.{Draft}
use Rattle.loom_project.specs.Project.{topology_of, net_topology, net_at, barred}
use Rattle.loom_types.specs.declared.layout.Layout.{Layout}
use Rattle.loom_types.specs.declared.wire.End.{End}
use Rattle.loom_types.specs.declared.wire.End.TheVariants.{Cavity, Splice}
use Rattle.loom_types.specs.declared.wire.Wire.{Wire}
use Rattle.loom_types.specs.LayoutTree.{tree_of}
use Rattle.loom_types.specs.LayoutWires.{Crossing, Over, Through, Leg, hung_of, cut, is_splice, splice_of, ordinal_of, leg_of, legs_of, layout_wires}
use Rattle.loom_types.specs.Laws.{set_wires}
use Rattle.loom_topology.specs.Legal.{cavities_of_mask}
use Rattle.loom_types.specs.SetMask.{rest_of, stem_cavity}

-- the two differ in which segments are open alone
pub record DifferInOpen (one other : TopologyView) : Type 0 where
  pub cavities : one.cavities ≡ other.cavities
  pub start : (s : ℕ) → (segment_at one s).from ≡ (segment_at other s).from
  pub finish : (s : ℕ) → (segment_at one s).to ≡ (segment_at other s).to
  pub kind : (s : ℕ) → (segment_at one s).kind ≡ (segment_at other s).kind

part_kept : {X : Type 0} (f : Segment → X) → ((b : Bool) (g : Segment) → f (shut_if b g) ≡ f g) → (topology : TopologyView) (list : List ℕ) (s : ℕ)
    → f (segment_at topology s) ≡ f (segment_at (shut_in topology list) s)
part_kept f kept topology list s = elim (cases_lt s (length topology.segments)) [
  | inl within ↦ sym (ap f (get_or-shut_among topology.segments list s no_segment within) ∙ kept _ (segment_at topology s))
  | inr past ↦
      let beyond : length (shut_among topology.segments list) ≤ s = omega (arith, past, length-shut_among topology.segments list) in
      ap f (get_or_past topology.segments s no_segment past ∙ sym (get_or_past (shut_among topology.segments list) s no_segment beyond))
]

shut_differs : (topology : TopologyView) (list : List ℕ) → DifferInOpen topology (shut_in topology list)
shut_differs topology list = record {
  cavities = refl;
  start = part_kept (λ (g : Segment). g.from) (λ b g. refl) topology list;
  finish = part_kept (λ (g : Segment). g.to) (λ b g. refl) topology list;
  kind = part_kept (λ (g : Segment). g.kind) (λ b g. refl) topology list;
}

-- a net's topology is the draft's but for that
pub net_differs : (draft : Draft) (net : ℕ) → DifferInOpen (topology_of draft) (net_topology draft net)
unfolding net_topology
net_differs draft net = shut_differs (topology_of draft) (barred draft (net_at draft net).class)

module _ (one other : TopologyView) (differ : DifferInOpen one other) where
  node-same : (c : ℕ) → node_of one c ≡ node_of other c
  node-same c = ap (λ (cs : List ℕ). slice_index cs c) differ.cavities

  pub coupler-same : (s : ℕ) → is_coupler (segment_at one s).kind ≡ is_coupler (segment_at other s).kind
  coupler-same s = ap is_coupler (differ.kind s)

  end-same : (s n : ℕ) → other_end (segment_at one s) n ≡ other_end (segment_at other s) n
  end-same s n = ap₂ (λ (a b : ℕ). if a == n then b else a) (differ.start s) (differ.finish s)

  places-same : (v : ℕ) (steps : List Step) → places_of one v steps ≡ places_of other v steps
  unfolding places_of
  places-same v steps =
      ap (λ (f : List ℕ → Step → List ℕ). fold f (v ∷ []) steps)
      (λ i placed s. placed ++ end-same s.segment (slice_index placed s.parent) i ∷ [])

  place-same : (v : ℕ) (tree : Tree) (point : ℕ) → place_of one v tree point ≡ place_of other v tree point
  place-same v tree point = ap (λ (places : List ℕ). slice_index places point) (places-same v tree.steps)

  -- splices by the places of points
  abbrev splice_at : Tree → List ℕ → ℕ → End
  splice_at tree places point =
      let node = slice_index places point in
      Splice (record { 0 = node }) (sum_through (λ p. if is_splice tree p && slice_index places p == node then 1 else 0) point)

  splice-same : (v : ℕ) (tree : Tree) → splice_of one v tree ≡ splice_of other v tree
  splice-same v tree = ap (splice_at tree) (places-same v tree.steps)

  abbrev crossing_at : ℕ → ℕ → Kind → ℕ → ℕ → Crossing
  crossing_at segment pin kind start from =
      if is_coupler kind then (if from == start then Through segment pin 1 2 else Through segment pin 2 1) else Over segment (price_of kind)

  leg-same : (v : ℕ) (pins : ℕ → ℕ → ℕ) (tree : Tree) (k : ℕ) → leg_of one v pins tree k ≡ leg_of other v pins tree k
  leg-same v pins tree k =
      let s : ℕ = (step_at tree k).segment in
      let parent : ℕ = (step_at tree k).parent in
      λ i. record {
        parent = parent;
        crossing = crossing_at s (pins s (ordinal_of tree k)) (differ.kind s i) (place-same v tree parent i) (differ.start s i);
      }

  legs-same : (v : ℕ) (pins : ℕ → ℕ → ℕ) (tree : Tree) (n : ℕ) → legs_of one v pins tree n ≡ legs_of other v pins tree n
  legs-same v pins tree zero = refl
  legs-same v pins tree (suc k) = λ i. leg-same v pins tree k i ∷ legs-same v pins tree k i

  -- the wires of a layout are the same
  wires-same : (net : ℕ) (pins : ℕ → ℕ → ℕ) (stem : ℕ) (cavities : List ℕ) (layout : Layout)
      → layout_wires one net pins stem cavities layout ≡ layout_wires other net pins stem cavities layout
  wires-same net pins stem cavities layout =
      let tree : Tree = tree_of layout in
      let made : (ℕ → End) → List Leg → List Wire =
      λ splice legs. cut net splice (Cavity (record { 0 = stem })) (hung_of cavities layout.hangs) legs in
      ap (λ (v : ℕ). made (splice_of one v tree) (legs_of one v pins tree (length tree.steps))) (node-same stem)
      ∙ (λ i. made (splice-same (node_of other stem) tree i) (legs-same (node_of other stem) pins tree (length tree.steps) i))

  pub set_wires-same : (net : ℕ) (pins : ℕ → ℕ → ℕ) (terminals : List ℕ) (mask : ℕ) (layout : Layout)
      → set_wires one net pins terminals mask layout ≡ set_wires other net pins terminals mask layout
  set_wires-same net pins terminals mask layout =
      wires-same net pins (stem_cavity terminals mask) (cavities_of_mask terminals (rest_of mask)) layout
