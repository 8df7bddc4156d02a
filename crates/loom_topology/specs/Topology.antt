use Rattle.std.specs.Prelude.{ℕ, List, [], ◌∷◌, ◌++◌, Bool, true, false, not, Option, Some, None, ◌≡◌, ◌≢◌, ◌⊎◌, ◌==◌, ◌<◌, ◌≤◌, ◌&&◌, ◌||◌, nat_eq, IsTrue, All, filter, length, map, slice_index, slice_index_or, slice_set, if◌then◌else◌}
use Rattle.std.specs.List.{list_any, range_with_len}
use Rattle.loom_topology.specs.declared.kind.Kind.{Kind}
use Rattle.loom_topology.specs.declared.kind.Kind.TheVariants.{Run, Coupler}

-- a node lies in a harness; a splice there costs the branch cost for each wire past the second
pub record Node : Type 0 where
  pub harness : ℕ
  pub branch : ℕ

-- a run or a coupler between two nodes, open to the net at hand or shut
pub record Segment : Type 0 where
  pub from : ℕ
  pub to : ℕ
  pub kind : Kind
  pub is_open : Bool

-- what contracts see of a `Topology`; a cavity is the number of its node
pub record TopologyView : Type 0 where
  pub nodes : List Node
  pub segments : List Segment
  pub cavities : List ℕ

-- a run's length, a coupler's price
abbrev pub price_of : Kind → ℕ
price_of (Run length) = length
price_of (Coupler price pins) = price

-- the kind with another price: a run of that length, a coupler at that price
abbrev pub priced : ℕ → Kind → Kind
priced price (Run length) = Run price
priced price (Coupler before pins) = Coupler price pins

abbrev pub is_coupler : Kind → Bool
is_coupler (Run length) = false
is_coupler (Coupler price pins) = true

abbrev pub no_node : Node
no_node = record { harness = 0; branch = 0 }

abbrev pub node_at : TopologyView → ℕ → Node
node_at topology v = slice_index_or topology.nodes v no_node

abbrev pub branch_at : TopologyView → ℕ → ℕ
branch_at topology v = (node_at topology v).branch

-- past the last segment there is none, which is as good as a shut one
abbrev pub no_segment : Segment
no_segment = record { from = 0; to = 0; kind = Run 1; is_open = false }

abbrev pub segment_at : TopologyView → ℕ → Segment
segment_at topology s = slice_index_or topology.segments s no_segment

abbrev pub price_at : TopologyView → ℕ → ℕ
price_at topology s = price_of (segment_at topology s).kind

-- the node at which a cavity lies
abbrev pub node_of : TopologyView → ℕ → ℕ
node_of topology c = slice_index topology.cavities c

-- segment s is open and joins v and u
abbrev pub Leads : TopologyView → ℕ → ℕ → ℕ → Type 0
Leads topology s v u =
    let g = segment_at topology s in
    IsTrue g.is_open × (((g.from ≡ v) × (g.to ≡ u)) ⊎ ((g.from ≡ u) × (g.to ≡ v)))

abbrev pub harness_at : TopologyView → ℕ → ℕ
harness_at topology v = (node_at topology v).harness

-- a segment that is open and ends at node v
abbrev pub is_open_to : Segment → ℕ → Bool
is_open_to g v = g.is_open && (g.from == v || g.to == v)

-- the numbers of the open segments at a node, rising
unfoldable pub open_among : List Segment → ℕ → List ℕ
open_among segments v =
    filter (λ s. is_open_to (slice_index_or segments s no_segment) v) (range_with_len 0 (length segments))

abbrev pub open_at : TopologyView → ℕ → List ℕ
open_at topology v = open_among topology.segments v

-- the end of segment s that isn't node v; none where v is no end
abbrev pub other_end_at : TopologyView → ℕ → ℕ → Option ℕ
other_end_at topology s v =
    let g = segment_at topology s in
    if g.from == v then Some g.to else if g.to == v then Some g.from else None

-- a segment joins two different nodes of the topology, at a price of 1 to 1,000,000
pub record IsSoundSegment (node_count : ℕ) (g : Segment) : Type 0 where
  pub from_below : g.from < node_count
  pub to_below : g.to < node_count
  pub apart : g.from ≢ g.to
  pub price_from : 1 ≤ price_of g.kind
  pub price_to : price_of g.kind ≤ 1000000

-- a run lies inside one harness, a coupler joins two
abbrev pub KeepsBorder : TopologyView → Segment → Type 0
KeepsBorder topology g = is_coupler g.kind ≡ not (harness_at topology g.from == harness_at topology g.to)

-- what holds of every topology
pub record IsSound (topology : TopologyView) : Type 0 where
  pub segments : All (IsSoundSegment (length topology.nodes)) topology.segments
  pub borders : All (KeepsBorder topology) topology.segments
  pub cavities : All (λ v. v < length topology.nodes) topology.cavities
  pub branches : All (λ node. node.branch ≤ 1000000) topology.nodes
  pub few_nodes : length topology.nodes ≤ 1024
  pub few_segments : length topology.segments ≤ 4096
  pub few_cavities : length topology.cavities ≤ 8192

abbrev pub no_topology : TopologyView
no_topology = record { nodes = []; segments = []; cavities = [] }

abbrev pub with_node : TopologyView → ℕ → ℕ → TopologyView
with_node topology harness branch =
    record topology { nodes = topology.nodes ++ (record { harness = harness; branch = branch }) ∷ [] }

abbrev pub with_cavity : TopologyView → ℕ → TopologyView
with_cavity topology v = record topology { cavities = topology.cavities ++ v ∷ [] }

abbrev pub open_segment : ℕ → ℕ → Kind → Segment
open_segment from to kind = record { from = from; to = to; kind = kind; is_open = true }

-- with one more segment, which is open
abbrev pub with_segment : TopologyView → ℕ → ℕ → Kind → TopologyView
with_segment topology from to kind =
    record topology { segments = topology.segments ++ (open_segment from to kind) ∷ [] }

-- with another price of segment s
abbrev pub with_price : TopologyView → ℕ → ℕ → TopologyView
with_price topology s price =
    let g = segment_at topology s in
    record topology { segments = slice_set topology.segments s (record g { kind = priced price g.kind }) }

-- with another branch cost of node v
abbrev pub with_branch : TopologyView → ℕ → ℕ → TopologyView
with_branch topology v branch =
    record topology { nodes = slice_set topology.nodes v (record (node_at topology v) { branch = branch }) }

abbrev pub shut_if : Bool → Segment → Segment
shut_if is_shut g = record g { is_open = not is_shut }

-- the same segments, of which exactly those of the list are shut
unfoldable pub shut_among : List Segment → List ℕ → List Segment
shut_among segments list =
    map (λ s. shut_if (list_any (nat_eq s) list) (slice_index_or segments s no_segment)) (range_with_len 0 (length segments))

-- the same topology, in which exactly the segments of the list are shut
abbrev pub shut_in : TopologyView → List ℕ → TopologyView
shut_in topology list = record topology { segments = shut_among topology.segments list }
