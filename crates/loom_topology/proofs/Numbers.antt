-- Another price of a segment and another branch cost of a node leave a topology sound, and its lists of open segments as they are.
use Rattle.std.proofs.Common.{◌≡◌, ◌<◌, ◌≤◌, inl, inr, length, map, get_or, ℕ, List, eqb, not, sym, ap, ◌∙◌, refl, arith, subst}
use Rattle.std.specs.List.{All, filter, range_with_len}
use Rattle.std.proofs.Math.ListN.{set}
use Rattle.std.proofs.lemmas.Bool.{cases_eq}
use Rattle.std.proofs.lemmas.List.{length-set, get_or-set_same, get_or-set_other, get_or-map, get_or_default, map-set}
use Rattle.std.proofs.lemmas.List.Elements.{All-set, All-get_or}
use Rattle.loom_topology.specs.declared.kind.Kind.{Kind}
use Rattle.loom_topology.specs.declared.kind.Kind.TheVariants.{Run, Coupler}
use Rattle.loom_topology.specs.Topology.{TopologyView, Node, Segment, no_node, no_segment, harness_at, segment_at, node_at, price_of, priced, is_coupler, KeepsBorder, is_open_to, open_among, IsSoundSegment, with_price, with_branch}
use Rattle.loom_topology.specs.declared.topology.NodeData.{NodeData}
use Rattle.loom_topology.specs.declared.topology.Link.{Link}
use Rattle.loom_topology.specs.TopologyInside.{node_of_data, segment_of_link, IsIndexed, IsKept}
use Rattle.loom_topology.proofs.OpenSegments.{filter-range_same}

price_of-priced : (price : ℕ) (kind : Kind) → price_of (priced price kind) ≡ price
price_of-priced price (Run length) = refl
price_of-priced price (Coupler before pins) = refl

is_coupler-priced : (price : ℕ) (kind : Kind) → is_coupler (priced price kind) ≡ is_coupler kind
is_coupler-priced price (Run length) = refl
is_coupler-priced price (Coupler before pins) = refl

-- where an element gave way to one that looks the same, each looks as it did
looks_same : {A B : Type 0} (look : A → B) (xs : List A) (s : ℕ) (y d : A) → s < length xs → look y ≡ look (get_or xs s d) → (k : ℕ) → look (get_or (set xs s y) k d) ≡ look (get_or xs k d)
looks_same look xs s y d within same k = elim (cases_eq k s) [
  | inl here ↦
      ap (λ i. look (get_or (set xs s y) i d)) here
      ∙ ap look (get_or-set_same xs s y d within)
      ∙ same
      ∙ ap (λ i. look (get_or xs i d)) (sym here)
  | inr other ↦ ap look (get_or-set_other xs s k y d other)
]

-- a segment between the same nodes, open as before, stands in the same lists
open_among-set : (segments : List Segment) (s : ℕ) (g : Segment) → s < length segments → ((v : ℕ) → is_open_to g v ≡ is_open_to (get_or segments s no_segment) v) → (v : ℕ) → open_among (set segments s g) v ≡ open_among segments v
unfolding open_among
open_among-set segments s g within same v =
    ap (λ n. filter (λ k. is_open_to (get_or (set segments s g) k no_segment) v) (range_with_len 0 n)) (length-set segments s g)
    ∙ filter-range_same _ _ 0 (length segments) (λ k from to. looks_same (λ h. is_open_to h v) segments s g no_segment within (same v) k)

pub IsKept-with_price : (old new : TopologyView) (incidence : List (List ℕ)) (s price : ℕ) → IsKept old incidence → new ≡ with_price old s price → s < length old.segments → 1 ≤ price → price ≤ 1000000 → IsKept new incidence
IsKept-with_price old new incidence s price kept e within low high =
    let g = segment_at old s in
    let sound = All-get_or (IsSoundSegment (length old.nodes)) old.segments s no_segment within kept.sound.segments in
    let border = All-get_or (KeepsBorder old) old.segments s no_segment within kept.sound.borders in
    let same = price_of-priced price g.kind in
    let K : TopologyView → Type 0 = λ t. IsKept t incidence in
    subst K (sym e) (record {
      sound = record {
        segments = All-set (IsSoundSegment (length old.nodes)) old.segments s (record g { kind = priced price g.kind })
            (record {
              from_below = sound.from_below;
              to_below = sound.to_below;
              apart = sound.apart;
              price_from = omega (arith, same);
              price_to = omega (arith, same);
            })
            kept.sound.segments;
        borders = All-set (KeepsBorder old) old.segments s (record g { kind = priced price g.kind }) (is_coupler-priced price g.kind ∙ border) kept.sound.borders;
        cavities = kept.sound.cavities;
        branches = kept.sound.branches;
        few_nodes = kept.sound.few_nodes;
        few_segments = omega (arith, kept.sound.few_segments, length-set old.segments s (record g { kind = priced price g.kind }));
        few_cavities = kept.sound.few_cavities;
      };
      indexed = record {
        count = kept.indexed.count;
        lists = λ v below.
            kept.indexed.lists v below
            ∙ sym (open_among-set old.segments s (record g { kind = priced price g.kind }) within (λ u. refl) v);
      };
    })

-- the border rule looks at harnesses alone
border-with_branch : (old : TopologyView) (v branch : ℕ) (g : Segment) → v < length old.nodes → KeepsBorder old g → KeepsBorder (with_branch old v branch) g
border-with_branch old v branch g within border =
    let harness : (u : ℕ) → harness_at (with_branch old v branch) u ≡ harness_at old u =
    looks_same (λ (node : Node). node.harness) old.nodes v (record (node_at old v) { branch = branch }) no_node within refl in
    border
    ∙ ap (λ a. not (eqb a (harness_at old g.to))) (sym (harness g.from))
    ∙ ap (λ b. not (eqb (harness_at (with_branch old v branch) g.from) b)) (sym (harness g.to))

pub IsKept-with_branch : (old new : TopologyView) (incidence : List (List ℕ)) (v branch : ℕ) → IsKept old incidence → new ≡ with_branch old v branch → v < length old.nodes → branch ≤ 1000000 → IsKept new incidence
IsKept-with_branch old new incidence v branch kept e within high =
    let node = record (node_at old v) { branch = branch } in
    let count : length old.nodes ≡ length (set old.nodes v node) = sym (length-set old.nodes v node) in
    let K : TopologyView → Type 0 = λ t. IsKept t incidence in
    let P : ℕ → Type 0 = λ n. All (IsSoundSegment n) old.segments in
    let Q : ℕ → Type 0 = λ n. All (λ u. u < n) old.cavities in
    let R : ℕ → Type 0 = λ n. IsIndexed incidence n old.segments in
    subst K (sym e) (record {
      sound = record {
        segments = subst P count kept.sound.segments;
        borders = λ k d lt. border-with_branch old v branch (get_or old.segments k d) within (kept.sound.borders k d lt);
        cavities = subst Q count kept.sound.cavities;
        branches = All-set (λ (x : Node). x.branch ≤ 1000000) old.nodes v node high kept.sound.branches;
        few_nodes = omega (arith, kept.sound.few_nodes, count);
        few_segments = kept.sound.few_segments;
        few_cavities = kept.sound.few_cavities;
      };
      indexed = subst R count kept.indexed;
    })

-- a price that was written into a link is one of its segment
pub price_written : (links : List Link) (s price : ℕ) (read link : Link) (kind : Kind) → s < length links → read ≡ get_or links s read → link ≡ get_or links s link → kind ≡ priced price read.kind
    → map segment_of_link (set links s (record link { kind = kind })) ≡ set (map segment_of_link links) s (record (get_or (map segment_of_link links) s no_segment) { kind = priced price (get_or (map segment_of_link links) s no_segment).kind })
price_written links s price read link kind within read_is link_is made =
    let seen : get_or (map segment_of_link links) s no_segment ≡ segment_of_link link =
    get_or-map segment_of_link links s link no_segment within ∙ ap segment_of_link (sym link_is) in
    let same : read ≡ link = read_is ∙ get_or_default links s read link within ∙ sym link_is in
    map-set segment_of_link links s (record link { kind = kind })
    ∙ ap (λ k. set (map segment_of_link links) s (record (segment_of_link link) { kind = k })) (made ∙ ap (λ (x : Link). priced price x.kind) same)
    ∙ ap (λ (g : Segment). set (map segment_of_link links) s (record g { kind = priced price g.kind })) (sym seen)

-- a branch cost that was written into the data of a node is one of the node
pub branch_written : (nodes : List NodeData) (v branch cost : ℕ) (data_at : NodeData) → v < length nodes → data_at ≡ get_or nodes v data_at → cost ≡ branch
    → map node_of_data (set nodes v (record data_at { branch = cost })) ≡ set (map node_of_data nodes) v (record (get_or (map node_of_data nodes) v no_node) { branch = branch })
branch_written nodes v branch cost data_at within is made =
    let seen : get_or (map node_of_data nodes) v no_node ≡ node_of_data data_at =
    get_or-map node_of_data nodes v data_at no_node within ∙ ap node_of_data (sym is) in
    map-set node_of_data nodes v (record data_at { branch = cost })
    ∙ ap (λ b. set (map node_of_data nodes) v (record (node_of_data data_at) { branch = b })) made
    ∙ ap (λ (n : Node). set (map node_of_data nodes) v (record n { branch = branch })) (sym seen)
