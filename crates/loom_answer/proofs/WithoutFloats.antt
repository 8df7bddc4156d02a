-- Nothing that is printed has a float.
use Rattle.std.proofs.Common.{◌≡◌, ℕ, ◌+◌, ◌||◌, List, [], ◌∷◌, Bool, true, false, ◌==◌, map, codes, Option, Some, None, refl, ap, ◌∙◌, subst}
use Rattle.std.specs.List.{range_with_len}
use Rattle.serde_json.specs.Data.{Data, string, put, no_members, Members}
use Rattle.serde_json.specs.View.{items_of}
use Rattle.serde_json.specs.Written.{has_float, items_have_float, members_have_float}
use Rattle.loom_base.specs.declared.positions.SegmentNo.{SegmentNo}
use Rattle.loom_formula.specs.declared.formula.Formula.{Formula, map-Formula, roll-Formula}
use Rattle.loom_formula.specs.declared.formula.Formula.TheOpen.{Formula-F, Members-F}
use Rattle.loom_formula.specs.declared.formula.Formula.TheFolds.{fold-Members, fold-roll-Formula, fold-roll-Members, ind-Formula}
use Rattle.loom_formula.specs.declared.formula.Members.{Members as FormulaMembers, map-Members, roll-Members}
use Rattle.loom_formula.specs.declared.row_list.Row.{Row}
use Rattle.loom_json.proofs.Floats.{items_have_float-map, members_have_float-put}
use Rattle.loom_topology.specs.Table.{TableView, cell_at}
use Rattle.loom_topology.specs.declared.kind.Kind.{Kind}
use Rattle.loom_topology.specs.declared.kind.Kind.TheVariants.{Run, Coupler}
use Rattle.loom_types.specs.declared.plan.SetLine.{SetLine}
use Rattle.loom_types.specs.declared.plan.PinLine.{PinLine}
use Rattle.loom_types.specs.declared.plan.TableLine.{TableLine}
use Rattle.loom_types.specs.declared.plan.Module.{Module}
use Rattle.loom_types.specs.declared.plan.Plan.{Plan}
use Rattle.loom_types.specs.declared.wire.End.{End}
use Rattle.loom_types.specs.declared.wire.End.TheVariants.{Cavity, Splice, Pin}
use Rattle.loom_types.specs.declared.wire.Wire.{Wire}
use Rattle.loom_project.specs.declared.draft.Draft.{Draft}
use Rattle.loom_project.specs.declared.draft.NodeDraft.{NodeDraft}
use Rattle.loom_project.specs.declared.draft.SegmentDraft.{SegmentDraft}
use Rattle.loom_project.specs.declared.draft.CavityDraft.{CavityDraft}
use Rattle.loom_project.specs.declared.draft.NetDraft.{NetDraft}
use Rattle.loom_project.specs.declared.draft.TerminalDraft.{TerminalDraft}
use Rattle.loom_rules.specs.declared.finding.Finding.{Finding}
use Rattle.loom_rules.specs.declared.report.Report.{Report}
use Rattle.loom_answer.specs.Answer.{answer_of}
use Rattle.loom_answer.specs.declared.outcome.Outcome.{Outcome}
use Rattle.loom_answer.specs.Outcomes.{outcome_shown}
use Rattle.loom_answer.proofs.OutcomesWithoutFloats.{outcome_plain}
use Rattle.loom_answer.specs.Reports.{finding_shown, report_shown}
use Rattle.loom_answer.specs.Plans.{row_shown, step_shown, set_shown, cell_shown, mask_shown, cells_shown, table_shown, pin_shown, module_shown, plan_shown}
use Rattle.loom_answer.specs.Projects.{formula_step, formula_shown, node_shown, in_second, with_bars, with_reserved, with_class, kind_shown, segment_draft_shown, cavity_shown, terminal_shown, net_shown, project_shown}
use Rattle.loom_json.specs.Fields.{array_of}
use Rattle.loom_answer.specs.Values.{whole, numbers, tagged}
use Rattle.loom_answer.specs.Wires.{segment_shown, end_shown, wire_shown}

-- members without a float
record Plain : Type 0 where
  members : Members
  plain : members_have_float members ≡ false

abbrev none : Plain
none = record { members = no_members; plain = refl }

-- one member more
abbrev add : (key : List ℕ) (d : Data) → has_float d ≡ false → Plain → Plain
add key d is rest = record { members = put key d rest.members; plain = members_have_float-put key d rest.members is rest.plain }

-- a member that is a whole number
abbrev add_whole : (key : List ℕ) (n : ℕ) → Plain → Plain
add_whole key n rest = add key (whole n) refl rest

-- a member that is a string
abbrev add_string : (key text : List ℕ) → Plain → Plain
add_string key text rest = add key (string text) refl rest

-- a member that is a list, each element shown the same way
abbrev add_list : {X : Type 0} (key : List ℕ) (shows : X → Data) → ((x : X) → has_float (shows x) ≡ false) → (xs : List X) → Plain → Plain
add_list key shows is xs rest = add key (array_of (map shows xs)) (items_have_float-map shows is xs) rest

numbers_plain : (ns : List ℕ) → has_float (numbers ns) ≡ false
numbers_plain ns = items_have_float-map whole (λ n. refl) ns

tagged_plain : (tag ns : List ℕ) → has_float (tagged tag ns) ≡ false
tagged_plain tag ns = items_have_float-map whole (λ n. refl) ns

end_plain : (end : End) → has_float (end_shown end) ≡ false
end_plain (Cavity cavity) = tagged_plain (codes "cavity") (cavity.0 ∷ [])
end_plain (Splice node ordinal) = tagged_plain (codes "splice") (node.0 ∷ ordinal ∷ [])
end_plain (Pin coupler pin side) = tagged_plain (codes "pin") (coupler.0 ∷ pin ∷ side ∷ [])

wire_plain : (w : Wire) → has_float (wire_shown w) ≡ false
wire_plain w =
    (add (codes "to") (end_shown w.to) (end_plain w.to)
    (add_whole (codes "row") w.row
    (add_list (codes "route") segment_shown (λ s. refl) w.route
    (add_whole (codes "net") w.net.0
    (add_whole (codes "length") w.length
    (add (codes "from") (end_shown w.from) (end_plain w.from)
    none)))))).plain

row_plain : (row : Row) → has_float (row_shown row) ≡ false
row_plain row = numbers_plain (row.option ∷ row.low ∷ row.high ∷ [])

step_plain : (step : ℕ × SegmentNo) → has_float (step_shown step) ≡ false
step_plain step = numbers_plain (step.0 ∷ step.1.0 ∷ [])

set_plain : (line : SetLine) → has_float (set_shown line) ≡ false
set_plain line =
    (add_list (codes "steps") step_shown step_plain line.layout.steps
    (add_list (codes "hangs") whole (λ n. refl) line.layout.hangs
    (add_whole (codes "row") line.row
    (add_whole (codes "net") line.net.0
    (add_whole (codes "mask") line.mask
    (add_whole (codes "cost") line.cost
    none)))))).plain

cell_plain : (cell : Option ℕ) → has_float (cell_shown cell) ≡ false
cell_plain None = refl
cell_plain (Some n) = refl

mask_plain : (table : TableView) (mask : ℕ) → has_float (mask_shown table mask) ≡ false
mask_plain table mask =
    items_have_float-map (λ v. cell_shown (cell_at table mask v)) (λ v. cell_plain (cell_at table mask v)) (range_with_len 0 table.nodes)

cells_plain : (table : TableView) → has_float (cells_shown table) ≡ false
cells_plain table =
    items_have_float-map (λ place. mask_shown table (place + 1)) (λ place. mask_plain table (place + 1)) (range_with_len 0 table.masks)

table_plain : (line : TableLine) → has_float (table_shown line) ≡ false
table_plain line =
    (add_whole (codes "net") line.net.0
    (add (codes "cells") (cells_shown line.table) (cells_plain line.table)
    none)).plain

pin_plain : (line : PinLine) → has_float (pin_shown line) ≡ false
pin_plain line =
    (add_whole (codes "pin") line.pin
    (add_whole (codes "ordinal") line.ordinal
    (add_whole (codes "net") line.net.0
    (add_whole (codes "coupler") line.coupler.0
    none)))).plain

module_plain : (part : Module) → has_float (module_shown part) ≡ false
module_plain part =
    (add_list (codes "wires") whole (λ n. refl) part.wires
    (add_whole (codes "row") part.row
    (add_whole (codes "harness") part.harness
    none))).plain

plan_plain : (plan : Plan) → has_float (plan_shown plan) ≡ false
plan_plain plan =
    (add_list (codes "wires") wire_shown wire_plain plan.wires
    (add_list (codes "tables") table_shown table_plain plan.tables
    (add_list (codes "sets") set_shown set_plain plan.sets
    (add_list (codes "rows") row_shown row_plain plan.rows
    (add_list (codes "pins") pin_shown pin_plain plan.pins
    (add_list (codes "modules") module_shown module_plain plan.modules
    none)))))).plain

node_plain : (node : NodeDraft) → has_float (node_shown node) ≡ false
node_plain node =
    (add_string (codes "name") node.name
    (add_string (codes "harness") node.harness
    (add_whole (codes "branch") node.branch
    none))).plain

abbrev add_bars : SegmentDraft → Plain → Plain
add_bars segment = add_list (codes "bars") string (λ name. refl) segment.bars

kind_plain : (second : Bool) (segment : SegmentDraft) (kind : Kind) → has_float (kind_shown second segment kind) ≡ false
kind_plain second segment (Run length) =
    let rest = add_string (codes "to") segment.to
    (add_string (codes "name") segment.name
    (add_whole (codes "length") length
    (add_string (codes "from") segment.from
    none))) in
    elim second as (λ b. members_have_float (in_second b (with_bars segment) rest.members) ≡ false)
    [ true ↦ (add_bars segment rest).plain | false ↦ rest.plain ]
kind_plain second segment (Coupler price pins) =
    let rest = add_string (codes "to") segment.to
    (add_whole (codes "price") price
    (add_whole (codes "pins") pins
    (add_string (codes "name") segment.name
    (add_string (codes "from") segment.from
    none)))) in
    elim second as (λ b. members_have_float (in_second b (with_reserved segment) (in_second b (with_bars segment) rest.members)) ≡ false)
    [ true ↦ (add_list (codes "reserved") whole (λ n. refl) segment.reserved (add_bars segment rest)).plain | false ↦ rest.plain ]

segment_draft_plain : (second : Bool) (segment : SegmentDraft) → has_float (segment_draft_shown second segment) ≡ false
segment_draft_plain second segment = kind_plain second segment segment.kind

cavity_plain : (cavity : CavityDraft) → has_float (cavity_shown cavity) ≡ false
cavity_plain cavity =
    (add_string (codes "node") cavity.node
    (add_string (codes "name") cavity.name
    (add_string (codes "device") cavity.device
    none))).plain

-- whether a formula is shown without a float
abbrev IsPlain : Formula → Type 0
IsPlain f = has_float (formula_shown f) ≡ false

abbrev ArePlain : FormulaMembers → Type 0
ArePlain ms = items_have_float (items_of (fold-Members Data (List Data) formula_step (λ m. m.list) ms)) ≡ false

all_plain : (es : List ((f : Formula) × IsPlain f)) → items_have_float (items_of (map formula_shown (map (λ e. e.0) es))) ≡ false
all_plain [] = refl
all_plain (e ∷ es) = let first : has_float (formula_shown e.0) ≡ false = e.1 in rw (first, all_plain es)

-- a formula is shown without a float where its inner formulas are
layer_plain : (y : Formula-F ((f : Formula) × IsPlain f) ((ms : FormulaMembers) × ArePlain ms)) → IsPlain (roll-Formula (map-Formula _ _ Formula FormulaMembers (λ e. e.0) (λ e. e.0) y))
layer_plain Formula-F.Always = ap has_float (fold-roll-Formula Data (List Data) formula_step (λ m. m.list) Formula-F.Always)
layer_plain Formula-F.Never = ap has_float (fold-roll-Formula Data (List Data) formula_step (λ m. m.list) Formula-F.Never)
layer_plain (Formula-F.Is name) = ap has_float (fold-roll-Formula Data (List Data) formula_step (λ m. m.list) (Formula-F.Is name))
layer_plain (Formula-F.Not e) = ap has_float (fold-roll-Formula Data (List Data) formula_step (λ m. m.list) (Formula-F.Not e.0)) ∙ ap (λ b. b || false) e.1
layer_plain (Formula-F.And e) = ap has_float (fold-roll-Formula Data (List Data) formula_step (λ m. m.list) (Formula-F.And e.0)) ∙ e.1
layer_plain (Formula-F.Or e) = ap has_float (fold-roll-Formula Data (List Data) formula_step (λ m. m.list) (Formula-F.Or e.0)) ∙ e.1
layer_plain (Formula-F.One e) = ap has_float (fold-roll-Formula Data (List Data) formula_step (λ m. m.list) (Formula-F.One e.0)) ∙ e.1

members_plain : (y : Members-F ((f : Formula) × IsPlain f) ((ms : FormulaMembers) × ArePlain ms)) → ArePlain (roll-Members (map-Members _ _ Formula FormulaMembers (λ e. e.0) (λ e. e.0) y))
members_plain y =
    ap (λ ds. items_have_float (items_of ds)) (fold-roll-Members Data (List Data) formula_step (λ m. m.list) (map-Members _ _ Formula FormulaMembers (λ e. e.0) (λ e. e.0) y))
    ∙ all_plain y.list

formula_plain : (f : Formula) → IsPlain f
formula_plain =
    ind-Formula IsPlain ArePlain
    (λ x y is. subst (λ z. IsPlain (roll-Formula z)) is (layer_plain y))
    (λ x y is. subst (λ z. ArePlain (roll-Members z)) is (members_plain y))

terminal_plain : (terminal : TerminalDraft) → has_float (terminal_shown terminal) ≡ false
terminal_plain terminal =
    (add (codes "when") (formula_shown terminal.when) (formula_plain terminal.when)
    (add_string (codes "cavity") terminal.cavity
    none)).plain

net_plain : (second : Bool) (net : NetDraft) → has_float (net_shown second net) ≡ false
net_plain second net =
    let rest = add_list (codes "terminals") terminal_shown terminal_plain net.terminals
    (add_string (codes "name") net.name
    none) in
    elim second as (λ b. members_have_float (in_second b (with_class net) rest.members) ≡ false)
    [ true ↦ (add_string (codes "class") net.class rest).plain | false ↦ rest.plain ]

project_plain : (second : Bool) (draft : Draft) → has_float (project_shown second draft) ≡ false
project_plain second draft =
    (add_list (codes "segments") (segment_draft_shown second) (segment_draft_plain second) draft.segments
    (add_list (codes "rules") formula_shown formula_plain draft.rules
    (add_list (codes "options") string (λ name. refl) draft.options
    (add_list (codes "nodes") node_shown node_plain draft.nodes
    (add_list (codes "nets") (net_shown second) (net_plain second) draft.nets
    (add_list (codes "cavities") cavity_shown cavity_plain draft.cavities
    none)))))).plain

finding_plain : (found : Finding) → has_float (finding_shown found) ≡ false
finding_plain found = numbers_plain (found.first ∷ found.second ∷ found.third ∷ [])

report_plain : (report : Report) → has_float (report_shown report) ≡ false
report_plain report =
    (add_whole (codes "limit") report.limit
    (add_whole (codes "kind") report.kind
    (add_list (codes "findings") finding_shown finding_plain report.findings
    none))).plain

answer_plain : (version : ℕ) (outcomes : List Outcome) (plan : Plan) (draft : Draft) (reports : List Report) → has_float (answer_of version outcomes plan draft reports) ≡ false
answer_plain version outcomes plan draft reports =
    (add_whole (codes "version") version
    (add_list (codes "reports") report_shown report_plain reports
    (add (codes "project") (project_shown (version == 2) draft) (project_plain (version == 2) draft)
    (add (codes "plan") (plan_shown plan) (plan_plain plan)
    (add_list (codes "outcomes") outcome_shown outcome_plain outcomes
    none))))).plain

-- a value that is an answer has no float
pub plain_answer : (d : Data) (version : ℕ) (outcomes : List Outcome) (plan : Plan) (draft : Draft) (reports : List Report) → d ≡ answer_of version outcomes plan draft reports
    → has_float d ≡ false
plain_answer d version outcomes plan draft reports is = ap has_float is ∙ answer_plain version outcomes plan draft reports

-- a value that is a wire has no float
pub plain_wire : (d : Data) (w : Wire) → d ≡ wire_shown w → has_float d ≡ false
plain_wire d w is = ap has_float is ∙ wire_plain w
