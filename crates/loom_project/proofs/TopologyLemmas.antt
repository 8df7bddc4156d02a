-- A topology that grows by the next node, segment or cavity of a draft.
use Rattle.std.proofs.Common.{◌≡◌, ℕ, ◌+◌, ◌<◌, List, [], length, get_or, take, map, sym, ap, ◌∙◌}
use Rattle.loom_formula.specs.NameIndex.{with_name}
use Rattle.loom_topology.specs.Topology.{TopologyView, Node, with_node, with_segment, with_cavity}
use Rattle.loom_project.specs.declared.draft.NodeDraft.{NodeDraft}
use Rattle.loom_project.specs.declared.draft.SegmentDraft.{SegmentDraft}
use Rattle.loom_project.specs.declared.draft.CavityDraft.{CavityDraft}
use Rattle.loom_project.specs.Draft.{index_of, each_once, harness_labels}
use Rattle.loom_project.specs.Project.{placed_nodes, placed_segment}
use Rattle.loom_base.proofs.EachLemmas.{map_next}
use Rattle.loom_project.proofs.NameLemmas.{placed_next}

abbrev of_nodes : List Node → TopologyView
of_nodes nodes = record { nodes = nodes; segments = []; cavities = [] }

pub node_added : (before after : TopologyView) (harness : ℕ) (labels : List (List ℕ)) (xs : List NodeDraft) (i : ℕ) (x : NodeDraft) → x ≡ get_or xs i x → i < length xs → before ≡ of_nodes (placed_nodes (take i xs)) → harness ≡ index_of labels x.harness → labels ≡ with_name (each_once (harness_labels (take i xs))) x.harness → after ≡ with_node before harness x.branch → after ≡ of_nodes (placed_nodes (take (i + 1) xs))
node_added before after harness labels xs i x is lt was number label added =
    added ∙ ap (λ t. with_node t harness x.branch) was
    ∙ ap (λ n. with_node (of_nodes (placed_nodes (take i xs))) n x.branch) (number ∙ ap (λ ns. index_of ns x.harness) label)
    ∙ ap of_nodes (sym (placed_next xs i x is lt))

pub segment_added : (before after start : TopologyView) (from to : ℕ) (names : List (List ℕ)) (xs : List SegmentDraft) (i : ℕ) (x : SegmentDraft) → x ≡ get_or xs i x → i < length xs → before ≡ record start { segments = map (placed_segment names) (take i xs) } → from ≡ index_of names x.from → to ≡ index_of names x.to → after ≡ with_segment before from to x.kind → after ≡ record start { segments = map (placed_segment names) (take (i + 1) xs) }
segment_added before after start from to names xs i x is lt was here there added =
    added ∙ ap (λ t. with_segment t from to x.kind) was
    ∙ ap (λ v. with_segment (record start { segments = map (placed_segment names) (take i xs) }) v to x.kind) here
    ∙ ap (λ v. with_segment (record start { segments = map (placed_segment names) (take i xs) }) (index_of names x.from) v x.kind) there
    ∙ ap (λ s. record start { segments = s }) (sym (map_next (placed_segment names) xs i x is lt))

pub cavity_added : (before after start : TopologyView) (node : ℕ) (places : List (List ℕ)) (xs : List CavityDraft) (i : ℕ) (x : CavityDraft) → x ≡ get_or xs i x → i < length xs → before ≡ record start { cavities = map (λ cavity. index_of places cavity.node) (take i xs) } → node ≡ index_of places x.node → after ≡ with_cavity before node → after ≡ record start { cavities = map (λ cavity. index_of places cavity.node) (take (i + 1) xs) }
cavity_added before after start node places xs i x is lt was here added =
    added ∙ ap (λ t. with_cavity t node) was
    ∙ ap (λ v. with_cavity (record start { cavities = map (λ cavity. index_of places cavity.node) (take i xs) }) v) here
    ∙ ap (λ s. record start { cavities = s }) (sym (map_next (λ cavity. index_of places cavity.node) xs i x is lt))
