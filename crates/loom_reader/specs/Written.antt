-- Drafts with names that are names and numbers that may be written down.
use Rattle.std.specs.Prelude.{ℕ, ◌≤◌, List, Bool, true, IsTrue}
use Rattle.std.specs.List.{All, list_all}
use Rattle.loom_base.specs.Names.{is_name}
use Rattle.loom_formula.specs.declared.formula.Formula.{Formula}
use Rattle.loom_formula.specs.declared.formula.Formula.TheOpen.{Formula-F}
use Rattle.loom_formula.specs.declared.formula.Formula.TheFolds.{fold-Formula}
use Rattle.loom_topology.specs.declared.kind.Kind.{Kind}
use Rattle.loom_topology.specs.declared.kind.Kind.TheVariants.{Run, Coupler}
use Rattle.loom_project.specs.declared.draft.Draft.{Draft}
use Rattle.loom_project.specs.declared.draft.NodeDraft.{NodeDraft}
use Rattle.loom_project.specs.declared.draft.SegmentDraft.{SegmentDraft}
use Rattle.loom_project.specs.declared.draft.CavityDraft.{CavityDraft}
use Rattle.loom_project.specs.declared.draft.TerminalDraft.{TerminalDraft}
use Rattle.loom_project.specs.declared.draft.NetDraft.{NetDraft}

-- bytes that are a name
abbrev pub IsName : List ℕ → Type 0
IsName bytes = IsTrue (is_name bytes)

-- whether the names in a formula are names, from whether those in its inner formulas are
abbrev pub named_step : Formula-F Bool (List Bool) → Bool
named_step Formula-F.Always = true
named_step Formula-F.Never = true
named_step (Formula-F.Is name) = is_name name
named_step (Formula-F.Not inner) = inner
named_step (Formula-F.And members) = list_all (λ told. told) members
named_step (Formula-F.Or members) = list_all (λ told. told) members
named_step (Formula-F.One members) = list_all (λ told. told) members

-- whether the names in a formula are names
abbrev pub has_names : Formula → Bool
has_names = fold-Formula Bool (List Bool) named_step (λ m. m.list)

-- a formula in which the names are names
abbrev pub FormulaHasNames : Formula → Type 0
FormulaHasNames formula = IsTrue (has_names formula)

-- a node with names, and a branch cost that may be written down
pub record IsWrittenNode (node : NodeDraft) : Type 0 where
  pub name : IsName node.name
  pub harness : IsName node.harness
  pub branch : node.branch ≤ 1000000

-- a length or a price that may be written down
pub record IsPrice (price : ℕ) : Type 0 where
  pub low : 1 ≤ price
  pub high : price ≤ 1000000

-- a pin, or a number of pins, that may be written down
pub record IsPin (pin : ℕ) : Type 0 where
  pub low : 1 ≤ pin
  pub high : pin ≤ 512

-- a length or a price, and a number of pins, that may be written down
abbrev pub IsWrittenKind : Kind → Type 0
IsWrittenKind (Run length) = IsPrice length
IsWrittenKind (Coupler price pins) = IsPrice price × IsPin pins

-- a segment with names and numbers
pub record IsWrittenSegment (segment : SegmentDraft) : Type 0 where
  pub name : IsName segment.name
  pub from : IsName segment.from
  pub to : IsName segment.to
  pub kind : IsWrittenKind segment.kind
  pub bars : All IsName segment.bars

-- a cavity with names
pub record IsWrittenCavity (cavity : CavityDraft) : Type 0 where
  pub name : IsName cavity.name
  pub device : IsName cavity.device
  pub node : IsName cavity.node

-- a terminal with names
pub record IsWrittenTerminal (terminal : TerminalDraft) : Type 0 where
  pub cavity : IsName terminal.cavity
  pub when : FormulaHasNames terminal.when

-- a net with names
pub record IsWrittenNet (net : NetDraft) : Type 0 where
  pub name : IsName net.name
  pub class : IsName net.class
  pub terminals : All IsWrittenTerminal net.terminals

-- a draft with names and numbers
pub record IsWrittenDraft (draft : Draft) : Type 0 where
  pub options : All IsName draft.options
  pub rules : All FormulaHasNames draft.rules
  pub nodes : All IsWrittenNode draft.nodes
  pub segments : All IsWrittenSegment draft.segments
  pub cavities : All IsWrittenCavity draft.cavities
  pub nets : All IsWrittenNet draft.nets
