use Rattle.std.specs.Prelude.{ℕ, List, [], ◌∷◌, map, codes, Bool, true, false, if◌then◌else◌}
use Rattle.serde_json.specs.Data.{Data, boolean, string, object, Members, put, no_members}
use Rattle.loom_formula.specs.declared.formula.Formula.{Formula}
use Rattle.loom_formula.specs.declared.formula.Formula.TheOpen.{Formula-F}
use Rattle.loom_formula.specs.declared.formula.Formula.TheFolds.{fold-Formula}
use Rattle.loom_topology.specs.declared.kind.Kind.{Kind}
use Rattle.loom_topology.specs.declared.kind.Kind.TheVariants.{Run, Coupler}
use Rattle.loom_project.specs.declared.draft.Draft.{Draft}
use Rattle.loom_project.specs.declared.draft.NodeDraft.{NodeDraft}
use Rattle.loom_project.specs.declared.draft.SegmentDraft.{SegmentDraft}
use Rattle.loom_project.specs.declared.draft.CavityDraft.{CavityDraft}
use Rattle.loom_project.specs.declared.draft.NetDraft.{NetDraft}
use Rattle.loom_project.specs.declared.draft.TerminalDraft.{TerminalDraft}
use Rattle.loom_json.specs.Fields.{array_of}
use Rattle.loom_answer.specs.Values.{whole}

-- how a formula is printed, from how its inner formulas are printed
abbrev pub formula_step : Formula-F Data (List Data) → Data
formula_step Formula-F.Always = boolean true
formula_step Formula-F.Never = boolean false
formula_step (Formula-F.Is name) = string name
formula_step (Formula-F.Not inner) = array_of (string (codes "not") ∷ inner ∷ [])
formula_step (Formula-F.And members) = array_of (string (codes "and") ∷ members)
formula_step (Formula-F.Or members) = array_of (string (codes "or") ∷ members)
formula_step (Formula-F.One members) = array_of (string (codes "one") ∷ members)

-- how a formula is printed
abbrev pub formula_shown : Formula → Data
formula_shown = fold-Formula Data (List Data) formula_step (λ m. m.list)

-- how a node is printed
abbrev pub node_shown : NodeDraft → Data
node_shown node = object
    (put (codes "name") (string node.name)
    (put (codes "harness") (string node.harness)
    (put (codes "branch") (whole node.branch)
    no_members)))

-- what the forms of the second version alone have, beside the members that each version has
abbrev pub in_second : Bool → (Members → Members) → Members → Members
in_second second more members = if second then more members else members

-- an object's members with the classes that a segment bars
abbrev pub with_bars : SegmentDraft → Members → Members
with_bars segment members = put (codes "bars") (array_of (map string segment.bars)) members

-- an object's members with the pins that a coupler reserves
abbrev pub with_reserved : SegmentDraft → Members → Members
with_reserved segment members = put (codes "reserved") (array_of (map whole segment.reserved)) members

-- an object's members with the class of a net
abbrev pub with_class : NetDraft → Members → Members
with_class net members = put (codes "class") (string net.class) members

-- how a run of this length is printed
abbrev pub run_shown : Bool → SegmentDraft → ℕ → Data
run_shown second segment length = object
    (in_second second (with_bars segment)
    (put (codes "to") (string segment.to)
    (put (codes "name") (string segment.name)
    (put (codes "length") (whole length)
    (put (codes "from") (string segment.from)
    no_members)))))

-- how a coupler of this price and so many pins is printed
abbrev pub coupler_shown : Bool → SegmentDraft → ℕ → ℕ → Data
coupler_shown second segment price pins = object
    (in_second second (with_reserved segment)
    (in_second second (with_bars segment)
    (put (codes "to") (string segment.to)
    (put (codes "price") (whole price)
    (put (codes "pins") (whole pins)
    (put (codes "name") (string segment.name)
    (put (codes "from") (string segment.from)
    no_members)))))))

-- how a segment of this kind is printed
abbrev pub kind_shown : Bool → SegmentDraft → Kind → Data
kind_shown second segment (Run length) = run_shown second segment length
kind_shown second segment (Coupler price pins) = coupler_shown second segment price pins

-- how a run or a coupler is printed
abbrev pub segment_draft_shown : Bool → SegmentDraft → Data
segment_draft_shown second segment = kind_shown second segment segment.kind

-- how a cavity is printed
abbrev pub cavity_shown : CavityDraft → Data
cavity_shown cavity = object
    (put (codes "node") (string cavity.node)
    (put (codes "name") (string cavity.name)
    (put (codes "device") (string cavity.device)
    no_members)))

-- how a terminal is printed
abbrev pub terminal_shown : TerminalDraft → Data
terminal_shown terminal = object
    (put (codes "when") (formula_shown terminal.when)
    (put (codes "cavity") (string terminal.cavity)
    no_members))

-- how a net is printed
abbrev pub net_shown : Bool → NetDraft → Data
net_shown second net = object
    (in_second second (with_class net)
    (put (codes "terminals") (array_of (map terminal_shown net.terminals))
    (put (codes "name") (string net.name)
    no_members)))

-- how a project is printed, in the forms of the second version or in those of the first
abbrev pub project_shown : Bool → Draft → Data
project_shown second draft = object
    (put (codes "segments") (array_of (map (segment_draft_shown second) draft.segments))
    (put (codes "rules") (array_of (map formula_shown draft.rules))
    (put (codes "options") (array_of (map string draft.options))
    (put (codes "nodes") (array_of (map node_shown draft.nodes))
    (put (codes "nets") (array_of (map (net_shown second) draft.nets))
    (put (codes "cavities") (array_of (map cavity_shown draft.cavities))
    no_members))))))
