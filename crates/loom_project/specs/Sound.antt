use Rattle.std.specs.Prelude.{◌≡◌, ◌≢◌, ℕ, ◌+◌, ◌&&◌, Bool, not, nat_le, List, length, Result, Ok, Err, bytes_eq}
use Rattle.std.specs.List.{list_any}
use Rattle.loom_base.specs.declared.limits.Which.{Which}
use Rattle.loom_base.specs.declared.limits.Which.TheVariants as limits
use Rattle.loom_formula.specs.declared.formula.Formula.{Formula}
use Rattle.loom_formula.specs.Formula.{nodes_of, depth_of}
use Rattle.loom_formula.specs.NameIndex.{has_name}
use Rattle.loom_topology.specs.declared.kind.Kind.{Kind}
use Rattle.loom_topology.specs.declared.kind.Kind.TheVariants.{Run, Coupler}
use Rattle.loom_project.specs.declared.draft.Draft.{Draft}
use Rattle.loom_project.specs.declared.draft.NodeDraft.{NodeDraft}
use Rattle.loom_project.specs.declared.draft.SegmentDraft.{SegmentDraft}
use Rattle.loom_project.specs.declared.draft.CavityDraft.{CavityDraft}
use Rattle.loom_project.specs.declared.draft.NetDraft.{NetDraft}
use Rattle.loom_project.specs.declared.draft.TerminalDraft.{TerminalDraft}
use Rattle.loom_project.specs.declared.fault.Of.{Of}
use Rattle.loom_project.specs.declared.fault.Of.TheVariants as of
use Rattle.loom_project.specs.declared.fault.ProjectFault.{ProjectFault}
use Rattle.loom_project.specs.declared.fault.ProjectFault.TheVariants.{UnknownName, RepeatedName, TerminalRepeated, TooFewTerminals, EndsEqual, BorderCrossed, NoBorder, ReservedPin, Limit, NoMemory}
use Rattle.loom_base.specs.First.{Check, ◌>>◌, require, every, each}
use Rattle.loom_project.specs.Draft.{node_names, harness_of, segment_names, cavity_names, net_names, pins_of, option_names, rule_nodes, terminal_nodes, net_nodes}

-- there are no more than the limit; a refusal counts the limit and one more
abbrev pub within_limit : Which → ℕ → ℕ → Check ProjectFault
within_limit which limit count = require (nat_le count limit) (Limit which (limit + 1))

-- no earlier thing of the kind has the name
abbrev pub not_repeated : Of → List (List ℕ) → List ℕ → Check ProjectFault
not_repeated kind taken name = require (not (has_name taken name)) (RepeatedName kind name)

-- some thing of the kind has the name
abbrev pub known : Of → List (List ℕ) → List ℕ → Check ProjectFault
known kind names name = require (has_name names name) (UnknownName kind name)

-- at most 512 options, each with a name of its own
unfoldable pub options_check : List (List ℕ) → Check ProjectFault
options_check options =
    within_limit limits.Options 512 (length options)
    >> each (not_repeated of.OptionName) options

-- a formula is at most 64 deep, names options alone, and has with the nodes counted before it at most
-- 65,536 nodes
unfoldable pub formula_check : List (List ℕ) → ℕ → Formula → Check ProjectFault
formula_check options counted formula =
    within_limit limits.FormulaDepth 64 (depth_of formula)
    >> every (known of.OptionName options) (option_names formula)
    >> within_limit limits.FormulaNodes 65536 (counted + nodes_of formula)

-- at most 1,024 rules, each of them a sound formula
unfoldable pub rules_check : List (List ℕ) → List Formula → Check ProjectFault
rules_check options rules =
    within_limit limits.Rules 1024 (length rules)
    >> each (λ before rule. formula_check options (rule_nodes before) rule) rules

-- a node has a name that isn't taken
unfoldable pub node_check : List (List ℕ) → NodeDraft → Check ProjectFault
node_check taken node = not_repeated of.Node taken node.name

-- at most 1,024 nodes, each of them sound
unfoldable pub nodes_check : List NodeDraft → Check ProjectFault
nodes_check nodes =
    within_limit limits.Nodes 1024 (length nodes)
    >> each (λ before node. node_check (node_names before) node) nodes

-- a run lies inside one harness, a coupler joins two
abbrev pub border_check : Kind → List ℕ → Bool → Check ProjectFault
border_check (Run length) name is_inside = require is_inside (BorderCrossed name)
border_check (Coupler price pins) name is_inside = require (not is_inside) (NoBorder name)

-- a segment joins two different nodes, inside one harness or over a border as its kind wants it
unfoldable pub ends_check : List NodeDraft → SegmentDraft → Check ProjectFault
ends_check nodes segment =
    known of.Node (node_names nodes) segment.from
    >> known of.Node (node_names nodes) segment.to
    >> require (not (bytes_eq segment.from segment.to)) (EndsEqual segment.name)
    >> border_check segment.kind segment.name
    (bytes_eq (harness_of nodes segment.from) (harness_of nodes segment.to))

-- a reserved pin is one of the coupler's; a run has none
abbrev pub pin_check : List ℕ → ℕ → ℕ → Check ProjectFault
pin_check name pins pin = require (nat_le 1 pin && nat_le pin pins) (ReservedPin name pin)

-- a segment with a name that isn't taken, few bars, sound ends and reserved pins of its own
unfoldable pub segment_check : List NodeDraft → List (List ℕ) → SegmentDraft → Check ProjectFault
segment_check nodes taken segment =
    not_repeated of.Segment taken segment.name
    >> within_limit limits.Bars 64 (length segment.bars)
    >> ends_check nodes segment
    >> every (pin_check segment.name (pins_of segment.kind)) segment.reserved

-- at most 4,096 segments, each of them sound
unfoldable pub segments_check : List NodeDraft → List SegmentDraft → Check ProjectFault
segments_check nodes segments =
    within_limit limits.Segments 4096 (length segments)
    >> each (λ before segment. segment_check nodes (segment_names before) segment) segments

-- a cavity has a name that isn't taken, and lies at a node
unfoldable pub cavity_check : List (List ℕ) → List (List ℕ) → CavityDraft → Check ProjectFault
cavity_check nodes taken cavity =
    not_repeated of.Cavity taken cavity.name
    >> known of.Node nodes cavity.node

-- at most 8,192 cavities, each of them sound
unfoldable pub cavities_check : List (List ℕ) → List CavityDraft → Check ProjectFault
cavities_check nodes cavities =
    within_limit limits.Cavities 8192 (length cavities)
    >> each (λ before cavity. cavity_check nodes (cavity_names before) cavity) cavities

-- a terminal names a cavity, which no earlier terminal of its net names, and has a sound formula
unfoldable pub terminal_check : List (List ℕ) → List (List ℕ) → ℕ → List ℕ → List TerminalDraft
    → TerminalDraft → Check ProjectFault
terminal_check options cavities counted net before terminal =
    known of.Cavity cavities terminal.cavity
    >> require (not (list_any (λ earlier. bytes_eq terminal.cavity earlier.cavity) before))
    (TerminalRepeated net terminal.cavity)
    >> formula_check options counted terminal.when

-- a net has 2 to 12 terminals, each of them sound
unfoldable pub terminals_check : List (List ℕ) → List (List ℕ) → ℕ → NetDraft → Check ProjectFault
terminals_check options cavities counted net =
    within_limit limits.Terminals 12 (length net.terminals)
    >> require (nat_le 2 (length net.terminals)) (TooFewTerminals net.name (length net.terminals))
    >> each (λ before terminal.
    terminal_check options cavities (counted + terminal_nodes before) net.name before terminal) net.terminals

-- a net has a name that isn't taken, and sound terminals
unfoldable pub net_check : List (List ℕ) → List (List ℕ) → ℕ → List (List ℕ) → NetDraft
    → Check ProjectFault
net_check options cavities counted taken net =
    not_repeated of.Net taken net.name
    >> terminals_check options cavities counted net

-- at most 2,048 nets, each of them sound; the nodes of formulas are counted on from those of the
-- rules
unfoldable pub nets_check : List (List ℕ) → List (List ℕ) → ℕ → List NetDraft → Check ProjectFault
nets_check options cavities counted nets =
    within_limit limits.Nets 2048 (length nets)
    >> each (λ before net.
    net_check options cavities (counted + net_nodes before) (net_names before) net) nets

-- whether a draft is sound, or its first failure in reading order
unfoldable pub draft_check : Draft → Check ProjectFault
draft_check draft =
    options_check draft.options
    >> rules_check draft.options draft.rules
    >> nodes_check draft.nodes
    >> segments_check draft.nodes draft.segments
    >> cavities_check (node_names draft.nodes) draft.cavities
    >> nets_check draft.options (cavity_names draft.cavities) (rule_nodes draft.rules) draft.nets

-- what a call answers is what the check gives, unless memory ran out
abbrev pub Gives : {A : Type 0} → Result A ProjectFault → Check ProjectFault → Type 0
Gives (Ok made) check = check ≡ Ok tt
Gives (Err fault) check = fault ≢ NoMemory → check ≡ Err fault

-- what a call answers is exactly what the check gives
abbrev pub Answers : {A : Type 0} → Result A ProjectFault → Check ProjectFault → Type 0
Answers (Ok made) check = check ≡ Ok tt
Answers (Err fault) check = check ≡ Err fault
