use Rattle.std.specs.Prelude.{ℕ, List, [], ◌∷◌, map, sum_by, fold, slice_index_or, bytes_eq}
use Rattle.std.specs.List.{flat_map, position_or_len}
use Rattle.loom_formula.specs.declared.formula.Formula.{Formula}
use Rattle.loom_formula.specs.declared.formula.Formula.TheOpen.{Formula-F}
use Rattle.loom_formula.specs.declared.formula.Formula.TheFolds.{fold-Formula}
use Rattle.loom_formula.specs.Formula.{nodes_of}
use Rattle.loom_formula.specs.NameIndex.{with_name}
use Rattle.loom_topology.specs.declared.kind.Kind.{Kind}
use Rattle.loom_topology.specs.declared.kind.Kind.TheVariants.{Run, Coupler}
use Rattle.loom_project.specs.declared.draft.NodeDraft.{NodeDraft}
use Rattle.loom_project.specs.declared.draft.SegmentDraft.{SegmentDraft}
use Rattle.loom_project.specs.declared.draft.CavityDraft.{CavityDraft}
use Rattle.loom_project.specs.declared.draft.NetDraft.{NetDraft}
use Rattle.loom_project.specs.declared.draft.TerminalDraft.{TerminalDraft}

-- the index of a name among names, which is their count where it is not there
abbrev pub index_of : List (List ℕ) → List ℕ → ℕ
index_of names name = position_or_len (bytes_eq name) names

-- names in order, each at its first place alone
abbrev pub each_once : List (List ℕ) → List (List ℕ)
each_once names = fold with_name [] names

abbrev pub node_names : List NodeDraft → List (List ℕ)
node_names nodes = map (λ node. node.name) nodes

-- the harness of each node
abbrev pub harness_labels : List NodeDraft → List (List ℕ)
harness_labels nodes = map (λ node. node.harness) nodes

-- the harness of the node of that name
abbrev pub harness_of : List NodeDraft → List ℕ → List ℕ
harness_of nodes name = slice_index_or (harness_labels nodes) (index_of (node_names nodes) name) []

abbrev pub segment_names : List SegmentDraft → List (List ℕ)
segment_names segments = map (λ segment. segment.name) segments

abbrev pub cavity_names : List CavityDraft → List (List ℕ)
cavity_names cavities = map (λ cavity. cavity.name) cavities

abbrev pub net_names : List NetDraft → List (List ℕ)
net_names nets = map (λ net. net.name) nets

-- how many pins a segment has; a run has none
abbrev pub pins_of : Kind → ℕ
pins_of (Run length) = 0
pins_of (Coupler price pins) = pins

-- the options that a formula names, from those that its inner formulas name
abbrev pub names_step : Formula-F (List (List ℕ)) (List (List (List ℕ))) → List (List ℕ)
names_step Formula-F.Always = []
names_step Formula-F.Never = []
names_step (Formula-F.Is name) = name ∷ []
names_step (Formula-F.Not inner) = inner
names_step (Formula-F.And members) = flat_map (λ m. m) members
names_step (Formula-F.Or members) = flat_map (λ m. m) members
names_step (Formula-F.One members) = flat_map (λ m. m) members

-- the options that a formula names, in reading order
abbrev pub option_names : Formula → List (List ℕ)
option_names = fold-Formula (List (List ℕ)) (List (List (List ℕ))) names_step (λ m. m.list)

-- how many nodes the formulas have
abbrev pub rule_nodes : List Formula → ℕ
rule_nodes rules = sum_by nodes_of rules

-- how many nodes the formulas of terminals have
abbrev pub terminal_nodes : List TerminalDraft → ℕ
terminal_nodes terminals = sum_by (λ terminal. nodes_of terminal.when) terminals

-- how many nodes the formulas of nets have
abbrev pub net_nodes : List NetDraft → ℕ
net_nodes nets = sum_by (λ net. terminal_nodes net.terminals) nets
