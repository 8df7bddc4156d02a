-- Drafts that differ only in what least costs don't rest on have the same ground.
use Rattle.std.proofs.Common.{◌≡◌, ℕ, zero, suc, List, [], ◌∷◌, length, map, filter, get_or, refl, sym, ap, ◌∙◌}
use Rattle.std.specs.Prelude.{true, nat_eq, slice_index_or}
use Rattle.std.specs.List.{list_any, range_with_len}
use Rattle.std.proofs.lemmas.List.{length-map}
use Rattle.std.proofs.Math.ListN.{get_or-map}
use Rattle.loom_formula.specs.NameIndex.{has_name}
use Rattle.loom_topology.specs.declared.kind.Kind.TheVariants.{Run}
use Rattle.loom_topology.specs.Topology.{TopologyView, Node, Segment, no_node, no_segment, price_of, shut_if, shut_among}
use Rattle.loom_layout.specs.Laws.{AreAlike}
use Rattle.loom_project.specs.declared.draft.Draft.{Draft}
use Rattle.loom_project.specs.declared.draft.SegmentDraft.{SegmentDraft}
use Rattle.loom_project.specs.Draft.{index_of, node_names}
use Rattle.loom_project.specs.Project.{topology_of, placed_nodes, placed_segment, barred, class_topology}
use Rattle.loom_edits.specs.Places.{changed_at}
use Rattle.loom_laid.specs.Kept.{IsSameGround}

-- a segment as a run of its price: what tells runs from couplers and how many pins these have is left out
abbrev pub as_run : Segment → Segment
as_run g = record g { kind = Run (price_of g.kind) }

-- what a list has at a place, as a run
run_at : (xs : List Segment) (s : ℕ) → as_run (slice_index_or xs s no_segment) ≡ slice_index_or (map as_run xs) s no_segment
run_at xs s = sym (get_or-map as_run xs s no_segment)

-- topologies with the same nodes and, as runs, the same segments are alike
alike : (one other : TopologyView) → one.nodes ≡ other.nodes → map as_run one.segments ≡ map as_run other.segments → AreAlike one other
alike one other nodes segments =
    let at : (s : ℕ) → as_run (slice_index_or one.segments s no_segment) ≡ as_run (slice_index_or other.segments s no_segment) =
    λ s. run_at one.segments s ∙ ap (λ (xs : List Segment). slice_index_or xs s no_segment) segments ∙ sym (run_at other.segments s) in
    record {
      as_many = ap (λ (ns : List Node). length ns) nodes;
      branch = λ v. ap (λ (ns : List Node). (slice_index_or ns v no_node).branch) nodes;
      from = λ s. ap (λ (g : Segment). g.from) (at s);
      to = λ s. ap (λ (g : Segment). g.to) (at s);
      price = λ s. ap (λ (g : Segment). price_of g.kind) (at s);
      is_open = λ s. ap (λ (g : Segment). g.is_open) (at s);
    }

map_twice : {A B C : Type 0} (f : B → C) (g : A → B) (xs : List A) → map f (map g xs) ≡ map (λ x. f (g x)) xs
map_twice f g [] = refl
map_twice f g (x ∷ xs) = ap (λ ys. f (g x) ∷ ys) (map_twice f g xs)

-- segments that are shut, as runs, are the runs that are shut
shut_runs : (segments : List Segment) (list : List ℕ) → map as_run (shut_among segments list) ≡ shut_among (map as_run segments) list
unfolding shut_among
shut_runs segments list =
    map_twice as_run (λ s. shut_if (list_any (nat_eq s) list) (slice_index_or segments s no_segment)) (range_with_len 0 (length segments))
    ∙ (λ i. map (λ s. shut_if (list_any (nat_eq s) list) (run_at segments s i)) (range_with_len 0 (length segments)))
    ∙ ap (λ n. map (λ s. shut_if (list_any (nat_eq s) list) (slice_index_or (map as_run segments) s no_segment)) (range_with_len 0 n))
    (sym (length-map segments as_run))

-- the segments of a class's topology, as runs, from the draft's nodes, its segments as runs, and what these bar
class_runs : (draft : Draft) (class : List ℕ) → map as_run (class_topology draft class).segments
    ≡ shut_among (map (λ segment. as_run (placed_segment (node_names draft.nodes) segment)) draft.segments) (barred draft class)
unfolding topology_of
class_runs draft class =
    shut_runs (map (placed_segment (node_names draft.nodes)) draft.segments) (barred draft class)
    ∙ ap (λ (gs : List Segment). shut_among gs (barred draft class)) (map_twice as_run (placed_segment (node_names draft.nodes)) draft.segments)

-- drafts with the same nodes, and with segments that are the same as runs and bar the same classes
module _ (one other : Draft) (nodes : one.nodes ≡ other.nodes)
    (runs : map (λ segment. as_run (placed_segment (node_names one.nodes) segment)) one.segments
    ≡ map (λ segment. as_run (placed_segment (node_names other.nodes) segment)) other.segments)
    (bars : map (λ (s : SegmentDraft). s.bars) one.segments ≡ map (λ (s : SegmentDraft). s.bars) other.segments) where
  same-count : length one.segments ≡ length other.segments
  same-count =
      sym (length-map one.segments (λ (s : SegmentDraft). s.bars)) ∙ ap (λ (bs : List (List (List ℕ))). length bs) bars
      ∙ length-map other.segments (λ (s : SegmentDraft). s.bars)

  same-barred : (class : List ℕ) → barred one class ≡ barred other class
  same-barred class = λ i.
      filter (λ s. has_name (slice_index_or (bars i) s []) class) (range_with_len 0 (same-count i))

  same-nodes : (class : List ℕ) → (class_topology one class).nodes ≡ (class_topology other class).nodes
  unfolding topology_of
  same-nodes class = ap placed_nodes nodes

  pub same-ground : IsSameGround one other
  same-ground class =
      alike (class_topology one class) (class_topology other class) (same-nodes class)
      (class_runs one class ∙ (λ i. shut_among (runs i) (same-barred class i)) ∙ sym (class_runs other class))

-- other parts don't matter
pub same-parts : (one other : Draft) → one.nodes ≡ other.nodes → one.segments ≡ other.segments → IsSameGround one other
same-parts one other nodes segments =
    same-ground one other nodes
    (λ i. map (λ segment. as_run (placed_segment (node_names (nodes i)) segment)) (segments i))
    (λ i. map (λ (s : SegmentDraft). s.bars) (segments i))

-- what a change of an element leaves as it is stays in the list of it
map-changed : {A B : Type 0} (f : A → B) (change : A → A) → ((x : A) → f (change x) ≡ f x) → (xs : List A) (at : ℕ) → map f (changed_at change xs at) ≡ map f xs
map-changed f change same [] at = refl
map-changed f change same (x ∷ xs) zero = ap (λ y. y ∷ map f xs) (same x)
map-changed f change same (x ∷ xs) (suc at) = ap (λ ys. f x ∷ ys) (map-changed f change same xs at)

-- neither do changes of a segment that leave its ends, its price and its bars
pub same-but-one : (draft : Draft) (change : SegmentDraft → SegmentDraft) (at : ℕ)
    → ((s : SegmentDraft) → (change s).from ≡ s.from) → ((s : SegmentDraft) → (change s).to ≡ s.to)
    → ((s : SegmentDraft) → price_of (change s).kind ≡ price_of s.kind) → ((s : SegmentDraft) → (change s).bars ≡ s.bars)
    → IsSameGround draft (record draft { segments = changed_at change draft.segments at })
same-but-one draft change at from to price bars =
    let names = node_names draft.nodes in
    same-ground draft (record draft { segments = changed_at change draft.segments at }) refl
    (sym (map-changed (λ segment. as_run (placed_segment names segment)) change
    (λ s. λ i. record { from = index_of names (from s i); to = index_of names (to s i); kind = Run (price s i); is_open = true }) draft.segments at))
    (sym (map-changed (λ (s : SegmentDraft). s.bars) change bars draft.segments at))
