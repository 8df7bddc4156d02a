-- Drafts with another number: a segment's price, a node's branch cost.
use Rattle.std.specs.Prelude.{ℕ, List, [], ◌<◌, length, slice_index_or, slice_set}
use Rattle.loom_topology.specs.declared.kind.Kind.TheVariants.{Run}
use Rattle.loom_topology.specs.Topology.{priced}
use Rattle.loom_project.specs.declared.draft.Draft.{Draft}
use Rattle.loom_project.specs.declared.draft.NodeDraft.{NodeDraft}
use Rattle.loom_project.specs.declared.draft.SegmentDraft.{SegmentDraft}
use Rattle.loom_project.specs.declared.numbers.NumberChange.{NumberChange}
use Rattle.loom_project.specs.declared.numbers.NumberChange.TheVariants.{Price, Branch}

abbrev pub no_segment : SegmentDraft
no_segment = record { name = []; from = []; to = []; kind = Run 1; bars = []; reserved = [] }

abbrev pub no_node : NodeDraft
no_node = record { name = []; harness = []; branch = 0 }

-- the segments, of which one has another price
abbrev pub segments_with_price : List SegmentDraft → ℕ → ℕ → List SegmentDraft
segments_with_price segments s price =
    let segment = slice_index_or segments s no_segment in
    slice_set segments s (record segment { kind = priced price segment.kind })

-- the nodes, of which one has another branch cost
abbrev pub nodes_with_branch : List NodeDraft → ℕ → ℕ → List NodeDraft
nodes_with_branch nodes v branch =
    slice_set nodes v (record (slice_index_or nodes v no_node) { branch = branch })

abbrev pub with_price : Draft → ℕ → ℕ → Draft
with_price draft s price = record draft { segments = segments_with_price draft.segments s price }

abbrev pub with_branch : Draft → ℕ → ℕ → Draft
with_branch draft v branch = record draft { nodes = nodes_with_branch draft.nodes v branch }

-- the draft with another number
abbrev pub with_number : Draft → NumberChange → Draft
with_number draft (Price segment price) = with_price draft segment.0 price
with_number draft (Branch node branch) = with_branch draft node.0 branch

-- the segment or the node that the number belongs to is there
abbrev pub IsThere : Draft → NumberChange → Type 0
IsThere draft (Price segment price) = segment.0 < length draft.segments
IsThere draft (Branch node branch) = node.0 < length draft.nodes
