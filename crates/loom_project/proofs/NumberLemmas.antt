-- Prices and branch costs are looked at by no rule of a draft's check, and by nothing that a project keeps but its topology.
use Rattle.std.proofs.Common.{◌≡◌, ℕ, ◌<◌, not, List, [], ◌∷◌, ◌++◌, length, map, get_or, refl, sym, ap, ◌∙◌, bytes_eq}
use Rattle.std.proofs.Math.ListN.{set}
use Rattle.std.proofs.Math.Seq.{map-set_same}
use Rattle.std.proofs.lemmas.List.{length-set, get_or-map, map-set, map-append}
use Rattle.loom_base.specs.First.{Check, ◌>>◌, require, each, each_after}
use Rattle.loom_base.specs.declared.limits.Which.TheVariants as limits
use Rattle.loom_topology.specs.declared.kind.Kind.{Kind}
use Rattle.loom_topology.specs.declared.kind.Kind.TheVariants.{Run, Coupler}
use Rattle.loom_topology.specs.Topology.{TopologyView, Node, Segment, priced}
use Rattle.loom_topology.specs.Topology as topologies
use Rattle.loom_project.specs.declared.draft.Draft.{Draft}
use Rattle.loom_project.specs.declared.draft.NodeDraft.{NodeDraft}
use Rattle.loom_project.specs.declared.draft.SegmentDraft.{SegmentDraft}
use Rattle.loom_project.specs.declared.fault.Of.TheVariants as of
use Rattle.loom_project.specs.declared.fault.ProjectFault.{ProjectFault}
use Rattle.loom_project.specs.declared.fault.ProjectFault.TheVariants.{EndsEqual}
use Rattle.loom_project.specs.Draft.{index_of, each_once, node_names, harness_labels, segment_names, cavity_names, rule_nodes}
use Rattle.loom_project.specs.Project.{placed_node, placed_nodes, placed_segment, topology_of}
use Rattle.loom_project.specs.Classes.{barred_numbers, segment_bars}
use Rattle.loom_project.specs.Sound.{within_limit, known, border_check, options_check, rules_check, node_check, nodes_check, ends_check, segment_check, segments_check, cavities_check, nets_check, draft_check}
use Rattle.loom_project.specs.Numbers.{no_segment, no_node, segments_with_price, nodes_with_branch, with_price, with_branch}

-- a check of a list that doesn't see what a change of its elements changes
each_after-map : {A F : Type 0} (check : List A → A → Check F) (f : A → A) → ((before : List A) (x : A) → check (map f before) (f x) ≡ check before x) → (before xs : List A) → each_after check (map f before) (map f xs) ≡ each_after check before xs
each_after-map check f same before [] = refl
each_after-map check f same before (x ∷ xs) =
    ap (λ c. c >> each_after check (map f before ++ f x ∷ []) (map f xs)) (same before x)
    ∙ ap (λ b. check before x >> each_after check b (map f xs)) (sym (map-append f before (x ∷ [])))
    ∙ ap (λ r. check before x >> r) (each_after-map check f same (before ++ x ∷ []) xs)

each-alike : {A F : Type 0} (check : List A → A → Check F) (f : A → A) → ((before : List A) (x : A) → check (map f before) (f x) ≡ check before x) → (xs ys : List A) → map f xs ≡ map f ys → each check xs ≡ each check ys
each-alike check f same xs ys alike =
    sym (each_after-map check f same [] xs) ∙ ap (each check) alike ∙ each_after-map check f same [] ys

seen-map : {A B : Type 0} (look : A → B) (f : A → A) → ((x : A) → look (f x) ≡ look x) → (xs : List A) → map look (map f xs) ≡ map look xs
seen-map look f same [] = refl
seen-map look f same (x ∷ xs) = ap (λ y. y ∷ map look (map f xs)) (same x) ∙ ap (λ ys. look x ∷ ys) (seen-map look f same xs)

-- a segment without its price, a node without its branch cost
abbrev unpriced : SegmentDraft → SegmentDraft
unpriced segment = record segment { kind = priced 0 segment.kind }

abbrev bare : NodeDraft → NodeDraft
bare node = record node { branch = 0 }

priced-priced : (price : ℕ) (kind : Kind) → priced 0 (priced price kind) ≡ priced 0 kind
priced-priced price (Run length) = refl
priced-priced price (Coupler before pins) = refl

kind_unpriced : (nodes : List NodeDraft) (taken : List (List ℕ)) (segment : SegmentDraft) (kind : Kind) → segment_check nodes taken (record segment { kind = priced 0 kind }) ≡ segment_check nodes taken (record segment { kind = kind })
unfolding segment_check ends_check
kind_unpriced nodes taken segment (Run length) = refl
kind_unpriced nodes taken segment (Coupler price pins) = refl

segments_alike : (segments : List SegmentDraft) (s price : ℕ) → map unpriced (segments_with_price segments s price) ≡ map unpriced segments
segments_alike segments s price =
    let segment = get_or segments s no_segment in
    map-set_same unpriced segments s (record segment { kind = priced price segment.kind }) no_segment (ap (λ k. record segment { kind = k }) (priced-priced price segment.kind))

segments_same : (nodes : List NodeDraft) (segments : List SegmentDraft) (s price : ℕ) → segments_check nodes (segments_with_price segments s price) ≡ segments_check nodes segments
unfolding segments_check
segments_same nodes segments s price =
    let segment = get_or segments s no_segment in
    let after = segments_with_price segments s price in
    let check : List SegmentDraft → SegmentDraft → Check ProjectFault = λ before x. segment_check nodes (segment_names before) x in
    ap (λ n. within_limit limits.Segments 4096 n >> each check after) (length-set segments s (record segment { kind = priced price segment.kind }))
    ∙ ap (λ r. within_limit limits.Segments 4096 (length segments) >> r)
    (each-alike check unpriced
    (λ before x. ap (λ names. segment_check nodes names (unpriced x)) (seen-map (λ (y : SegmentDraft). y.name) unpriced (λ y. refl) before)
    ∙ kind_unpriced nodes (segment_names before) x x.kind)
    after segments (segments_alike segments s price))

pub sound-with_price : (draft : Draft) (s price : ℕ) → draft_check (with_price draft s price) ≡ draft_check draft
unfolding draft_check
sound-with_price draft s price =
    ap (λ c. options_check draft.options >> rules_check draft.options draft.rules >> nodes_check draft.nodes >> c
    >> cavities_check (node_names draft.nodes) draft.cavities
    >> nets_check draft.options (cavity_names draft.cavities) (rule_nodes draft.rules) draft.nets)
    (segments_same draft.nodes draft.segments s price)

module _ (nodes : List NodeDraft) (v branch : ℕ) where
  abbrev after : List NodeDraft
  after = nodes_with_branch nodes v branch

  names_same : node_names after ≡ node_names nodes
  names_same = map-set_same (λ (node : NodeDraft). node.name) nodes v (record (get_or nodes v no_node) { branch = branch }) no_node refl

  labels_same : harness_labels after ≡ harness_labels nodes
  labels_same = map-set_same (λ (node : NodeDraft). node.harness) nodes v (record (get_or nodes v no_node) { branch = branch }) no_node refl

  ends_same : (segment : SegmentDraft) → ends_check after segment ≡ ends_check nodes segment
  unfolding ends_check
  ends_same segment =
      let ends : List (List ℕ) → List (List ℕ) → Check ProjectFault = λ names labels.
      known of.Node names segment.from
      >> known of.Node names segment.to
      >> require (not (bytes_eq segment.from segment.to)) (EndsEqual segment.name)
      >> border_check segment.kind segment.name (bytes_eq (get_or labels (index_of names segment.from) []) (get_or labels (index_of names segment.to) [])) in
      ap (λ names. ends names (harness_labels after)) names_same ∙ ap (ends (node_names nodes)) labels_same

  segment_same : (taken : List (List ℕ)) (segment : SegmentDraft) → segment_check after taken segment ≡ segment_check nodes taken segment
  unfolding segment_check
  segment_same taken segment = rw (ends_same segment) refl

  segments_same_over : (segments : List SegmentDraft) → segments_check after segments ≡ segments_check nodes segments
  unfolding segments_check
  segments_same_over segments =
      ap (λ (check : List SegmentDraft → SegmentDraft → Check ProjectFault). within_limit limits.Segments 4096 (length segments) >> each check segments)
      (λ k before segment. segment_same (segment_names before) segment k)

  nodes_same : nodes_check after ≡ nodes_check nodes
  unfolding nodes_check node_check
  nodes_same =
      let node = get_or nodes v no_node in
      let check : List NodeDraft → NodeDraft → Check ProjectFault = λ before x. node_check (node_names before) x in
      ap (λ n. within_limit limits.Nodes 1024 n >> each check after) (length-set nodes v (record node { branch = branch }))
      ∙ ap (λ r. within_limit limits.Nodes 1024 (length nodes) >> r)
      (each-alike check bare
      (λ before x. ap (λ names. node_check names x) (seen-map (λ (y : NodeDraft). y.name) bare (λ y. refl) before))
      after nodes (map-set_same bare nodes v (record node { branch = branch }) no_node refl))

pub sound-with_branch : (draft : Draft) (v branch : ℕ) → draft_check (with_branch draft v branch) ≡ draft_check draft
unfolding draft_check
sound-with_branch draft v branch =
    let checks : Check ProjectFault → Check ProjectFault → Check ProjectFault → Check ProjectFault = λ nodes segments cavities.
    options_check draft.options >> rules_check draft.options draft.rules >> nodes >> segments >> cavities
    >> nets_check draft.options (cavity_names draft.cavities) (rule_nodes draft.rules) draft.nets in
    let after = nodes_with_branch draft.nodes v branch in
    ap (λ c. checks c (segments_check after draft.segments) (cavities_check (node_names after) draft.cavities)) (nodes_same draft.nodes v branch)
    ∙ ap (λ c. checks (nodes_check draft.nodes) c (cavities_check (node_names after) draft.cavities)) (segments_same_over draft.nodes v branch draft.segments)
    ∙ ap (λ names. checks (nodes_check draft.nodes) (segments_check draft.nodes draft.segments) (cavities_check names draft.cavities)) (names_same draft.nodes v branch)

-- the topology of the changed draft is the changed topology
pub topology-with_price : (draft : Draft) (s price : ℕ) → s < length draft.segments → topologies.with_price (topology_of draft) s price ≡ topology_of (with_price draft s price)
unfolding topology_of
topology-with_price draft s price within =
    let names = node_names draft.nodes in
    let segment = get_or draft.segments s no_segment in
    let with : List Segment → TopologyView = λ segments. record { nodes = placed_nodes draft.nodes; segments = segments; cavities = map (λ cavity. index_of names cavity.node) draft.cavities } in
    ap (λ (g : Segment). with (set (map (placed_segment names) draft.segments) s (record g { kind = priced price g.kind })))
    (get_or-map (placed_segment names) draft.segments s no_segment topologies.no_segment within)
    ∙ ap with (sym (map-set (placed_segment names) draft.segments s (record segment { kind = priced price segment.kind })))

pub topology-with_branch : (draft : Draft) (v branch : ℕ) → v < length draft.nodes → topologies.with_branch (topology_of draft) v branch ≡ topology_of (with_branch draft v branch)
unfolding topology_of
topology-with_branch draft v branch within =
    let nodes = draft.nodes in
    let after = nodes_with_branch nodes v branch in
    let harnesses = each_once (harness_labels nodes) in
    let node = get_or nodes v no_node in
    let with : List Node → List (List ℕ) → TopologyView = λ placed names. record { nodes = placed; segments = map (placed_segment names) draft.segments; cavities = map (λ cavity. index_of names cavity.node) draft.cavities } in
    ap (λ (n : Node). with (set (map (placed_node harnesses) nodes) v (record n { branch = branch })) (node_names nodes))
    (get_or-map (placed_node harnesses) nodes v no_node topologies.no_node within)
    ∙ ap (λ placed. with placed (node_names nodes)) (sym (map-set (placed_node harnesses) nodes v (record node { branch = branch })))
    ∙ ap (λ labels. with (map (placed_node (each_once labels)) after) (node_names nodes)) (sym (labels_same nodes v branch))
    ∙ ap (with (placed_nodes after)) (sym (names_same nodes v branch))

-- and its segments bar the same classes
pub bars-with_price : (classes : List (List ℕ)) (segments : List SegmentDraft) (s price : ℕ) → segment_bars classes (segments_with_price segments s price) ≡ segment_bars classes segments
bars-with_price classes segments s price =
    let segment = get_or segments s no_segment in
    map-set_same (λ (x : SegmentDraft). barred_numbers classes x.bars) segments s (record segment { kind = priced price segment.kind }) no_segment refl
