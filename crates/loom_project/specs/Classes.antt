use Rattle.std.specs.Prelude.{ℕ, List, map, position, bytes_eq}
use Rattle.std.specs.List.{filter_map}
use Rattle.loom_project.specs.declared.draft.NetDraft.{NetDraft}
use Rattle.loom_project.specs.declared.draft.SegmentDraft.{SegmentDraft}
use Rattle.loom_project.specs.Draft.{index_of, each_once}

-- the classes of nets, each once, in the order of the first net that has it
abbrev pub net_classes : List NetDraft → List (List ℕ)
net_classes nets = each_once (map (λ net. net.class) nets)

-- the number of each net's class
abbrev pub class_numbers : List NetDraft → List ℕ
class_numbers nets = map (λ net. index_of (net_classes nets) net.class) nets

-- the numbers of those classes that bars name
abbrev pub barred_numbers : List (List ℕ) → List (List ℕ) → List ℕ
barred_numbers classes bars = filter_map (λ bar. position (bytes_eq bar) classes) bars

-- the same for each segment
abbrev pub segment_bars : List (List ℕ) → List SegmentDraft → List (List ℕ)
segment_bars classes segments = map (λ segment. barred_numbers classes segment.bars) segments
