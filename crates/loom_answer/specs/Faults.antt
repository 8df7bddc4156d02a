-- How it is printed why a project isn't sound, and that a limit is passed.
use Rattle.std.specs.Prelude.{ℕ, List, codes}
use Rattle.serde_json.specs.Data.{Data, null, string, object, Members, put, no_members}
use Rattle.loom_base.specs.declared.limits.Which.{Which}
use Rattle.loom_base.specs.declared.limits.Which.TheVariants as limits
use Rattle.loom_project.specs.declared.fault.Of.{Of}
use Rattle.loom_project.specs.declared.fault.Of.TheVariants as things
use Rattle.loom_project.specs.declared.fault.ProjectFault.{ProjectFault}
use Rattle.loom_project.specs.declared.fault.ProjectFault.TheVariants as faults
use Rattle.loom_answer.specs.Values.{whole}

-- the word for the kind of thing that a name stands for
abbrev pub of_name : Of → List ℕ
of_name things.OptionName = codes "option"
of_name things.Node = codes "node"
of_name things.Segment = codes "segment"
of_name things.Cavity = codes "cavity"
of_name things.Net = codes "net"
of_name things.Terminal = codes "terminal"

-- the name of a limited quantity
abbrev pub limit_name : Which → List ℕ
limit_name limits.Options = codes "options"
limit_name limits.Rules = codes "rules"
limit_name limits.FormulaNodes = codes "formula_nodes"
limit_name limits.FormulaDepth = codes "formula_depth"
limit_name limits.Nodes = codes "nodes"
limit_name limits.Segments = codes "segments"
limit_name limits.Bars = codes "bars"
limit_name limits.Cavities = codes "cavities"
limit_name limits.Nets = codes "nets"
limit_name limits.Terminals = codes "terminals"
limit_name limits.Edits = codes "edits"
limit_name limits.Sets = codes "sets"
limit_name limits.Cells = codes "cells"
limit_name limits.Steps = codes "steps"
limit_name limits.Wires = codes "wires"
limit_name limits.Rows = codes "rows"

-- the member that every object of a refusal has
abbrev pub of_kind : List ℕ → Members
of_kind kind = put (codes "kind") (string kind) no_members

-- a name, and the kind of thing that it should or may not stand for
abbrev pub name_fault_shown : List ℕ → Of → List ℕ → Data
name_fault_shown kind of name = object
    (put (codes "of") (string (of_name of))
    (put (codes "name") (string name)
    (of_kind kind)))

-- a segment by its name
abbrev pub segment_fault_shown : List ℕ → List ℕ → Data
segment_fault_shown kind segment = object
    (put (codes "segment") (string segment)
    (of_kind kind))

-- a cavity that a net names twice
abbrev pub terminal_repeated_shown : List ℕ → List ℕ → Data
terminal_repeated_shown net cavity = object
    (put (codes "net") (string net)
    (put (codes "cavity") (string cavity)
    (of_kind (codes "TerminalRepeated"))))

-- a net and how many terminals it has
abbrev pub too_few_terminals_shown : List ℕ → ℕ → Data
too_few_terminals_shown net count = object
    (put (codes "net") (string net)
    (put (codes "count") (whole count)
    (of_kind (codes "TooFewTerminals"))))

-- a segment and the pin that it doesn't have
abbrev pub reserved_pin_shown : List ℕ → ℕ → Data
reserved_pin_shown segment pin = object
    (put (codes "segment") (string segment)
    (put (codes "pin") (whole pin)
    (of_kind (codes "ReservedPin"))))

-- what is limited, and how many there are at least
abbrev pub limit_shown : Which → ℕ → Data
limit_shown which count = object
    (put (codes "which") (string (limit_name which))
    (put (codes "count") (whole count)
    (of_kind (codes "Limit"))))

-- how a project's fault is printed; want of memory is none
abbrev pub fault_shown : ProjectFault → Data
fault_shown (faults.UnknownName of name) = name_fault_shown (codes "UnknownName") of name
fault_shown (faults.RepeatedName of name) = name_fault_shown (codes "RepeatedName") of name
fault_shown (faults.TerminalRepeated net cavity) = terminal_repeated_shown net cavity
fault_shown (faults.TooFewTerminals net count) = too_few_terminals_shown net count
fault_shown (faults.EndsEqual segment) = segment_fault_shown (codes "EndsEqual") segment
fault_shown (faults.BorderCrossed segment) = segment_fault_shown (codes "BorderCrossed") segment
fault_shown (faults.NoBorder segment) = segment_fault_shown (codes "NoBorder") segment
fault_shown (faults.ReservedPin segment pin) = reserved_pin_shown segment pin
fault_shown (faults.Limit which count) = limit_shown which count
fault_shown faults.NoMemory = null
