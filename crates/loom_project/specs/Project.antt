use Rattle.std.specs.Prelude.{ℕ, List, [], ◌<◌, ◌≤◌, true, All, map, length, filter, slice_index_or}
use Rattle.std.specs.List.{range_with_len}
use Rattle.loom_formula.specs.declared.formula.Formula.{Formula}
use Rattle.loom_formula.specs.declared.formula.Formula.TheVariants.{Always}
use Rattle.loom_topology.specs.Topology.{TopologyView, Node, Segment, IsSound, shut_in}
use Rattle.loom_formula.specs.NameIndex.{has_name}
use Rattle.loom_project.specs.declared.draft.Draft.{Draft}
use Rattle.loom_project.specs.declared.draft.NodeDraft.{NodeDraft}
use Rattle.loom_project.specs.declared.draft.SegmentDraft.{SegmentDraft}
use Rattle.loom_project.specs.declared.draft.NetDraft.{NetDraft}
use Rattle.loom_project.specs.declared.draft.TerminalDraft.{TerminalDraft}
use Rattle.loom_project.specs.Draft.{index_of, each_once, node_names, harness_labels, cavity_names}

-- a node with its harness by number
abbrev pub placed_node : List (List ℕ) → NodeDraft → Node
placed_node harnesses node =
    record { harness = index_of harnesses node.harness; branch = node.branch }

-- the nodes; harnesses are numbered in order of the first node that names them
abbrev pub placed_nodes : List NodeDraft → List Node
placed_nodes nodes = map (placed_node (each_once (harness_labels nodes))) nodes

-- an open segment with its ends by number
abbrev pub placed_segment : List (List ℕ) → SegmentDraft → Segment
placed_segment nodes segment =
    record {
      from = index_of nodes segment.from;
      to = index_of nodes segment.to;
      kind = segment.kind;
      is_open = true;
    }

-- the topology that a draft writes down, with every segment open
unfoldable pub topology_of : Draft → TopologyView
topology_of draft =
    record {
      nodes = placed_nodes draft.nodes;
      segments = map (placed_segment (node_names draft.nodes)) draft.segments;
      cavities = map (λ cavity. index_of (node_names draft.nodes) cavity.node) draft.cavities;
    }

-- the cavities of terminals by number
abbrev pub terminal_places : List (List ℕ) → List TerminalDraft → List ℕ
terminal_places cavities terminals = map (λ terminal. index_of cavities terminal.cavity) terminals

-- the cavities of each net by number
abbrev pub net_places : List (List ℕ) → List NetDraft → List (List ℕ)
net_places cavities nets = map (λ net. terminal_places cavities net.terminals) nets

abbrev pub no_net : NetDraft
no_net = record { name = []; class = []; terminals = [] }

abbrev pub net_at : Draft → ℕ → NetDraft
net_at draft net = slice_index_or draft.nets net no_net

-- the cavities of a net by number, in the order of its terminals
abbrev pub cavities_of : Draft → ℕ → List ℕ
cavities_of draft net = terminal_places (cavity_names draft.cavities) (net_at draft net).terminals

-- when a net needs the cavity of a terminal
abbrev pub when_at : Draft → ℕ → ℕ → Formula
when_at draft net terminal =
    slice_index_or (map (λ t. t.when) (net_at draft net).terminals) terminal Always

-- the pins of a segment that no net gets
abbrev pub reserved_of : Draft → ℕ → List ℕ
reserved_of draft segment = slice_index_or (map (λ s. s.reserved) draft.segments) segment []

-- the classes of nets that may not pass a segment
abbrev pub bars_of : Draft → ℕ → List (List ℕ)
bars_of draft segment = slice_index_or (map (λ s. s.bars) draft.segments) segment []

-- the segments whose bars name a class
abbrev pub barred : Draft → List ℕ → List ℕ
barred draft class =
    filter (λ s. has_name (bars_of draft s) class) (range_with_len 0 (length draft.segments))

-- the topology of a class: the draft's, in which exactly those segments are shut whose bars name the
-- class
abbrev pub class_topology : Draft → List ℕ → TopologyView
class_topology draft class = shut_in (topology_of draft) (barred draft class)

-- the topology of a net is its class's
unfoldable pub net_topology : Draft → ℕ → TopologyView
net_topology draft net = class_topology draft (net_at draft net).class

-- the topologies of a draft are sound, the whole one and that of each net, and the terminals of nets
-- are cavities of theirs
pub record HasSoundTopologies (draft : Draft) : Type 0 where
  pub whole : IsSound (topology_of draft)
  pub each : (net : ℕ) → IsSound (net_topology draft net)
  pub terminals : (net : ℕ) → net < length draft.nets
      → All (λ c. c < length (net_topology draft net).cavities) (cavities_of draft net)

-- the lists of a draft are within their limits
pub record IsWithinLimits (draft : Draft) : Type 0 where
  pub few_options : length draft.options ≤ 512
  pub few_rules : length draft.rules ≤ 1024
  pub few_nodes : length draft.nodes ≤ 1024
  pub few_segments : length draft.segments ≤ 4096
  pub few_cavities : length draft.cavities ≤ 8192
  pub few_nets : length draft.nets ≤ 2048
