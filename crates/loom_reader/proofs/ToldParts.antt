-- Drafts whose parts are each read from what is shown of them.
use Rattle.std.proofs.Common.{◌≡◌, ℕ, ◌≤◌, List, [], length, IsTrue}
use Rattle.std.specs.List.{All}
use Rattle.loom_base.specs.declared.limits.TheConstants.{MAX_ELEMENTS}
use Rattle.loom_formula.specs.declared.formula.Formula.{Formula}
use Rattle.loom_formula.specs.Formula.{nodes_of, depth_of}
use Rattle.loom_topology.specs.declared.kind.Kind.{Kind}
use Rattle.loom_topology.specs.declared.kind.Kind.TheVariants.{Run, Coupler}
use Rattle.loom_project.specs.declared.draft.Draft.{Draft}
use Rattle.loom_project.specs.declared.draft.SegmentDraft.{SegmentDraft}
use Rattle.loom_project.specs.declared.draft.TerminalDraft.{TerminalDraft}
use Rattle.loom_project.specs.declared.draft.NetDraft.{NetDraft}
use Rattle.loom_reader.specs.Written.{IsName, has_names, IsWrittenNode, IsPrice, IsPin, IsWrittenCavity}

-- a list of so few elements that an array may have them, each as it is to be
pub record AreTold {X : Type 0} (IsTold : X → Type 0) (xs : List X) : Type 0 where
  pub short : length xs ≤ MAX_ELEMENTS
  pub each : All IsTold xs

-- a formula with names, at most 64 deep and of at most 65,536 nodes
pub record IsToldFormula (formula : Formula) : Type 0 where
  pub told : IsTrue (has_names formula)
  pub shallow : depth_of formula ≤ 64
  pub few : nodes_of formula ≤ 65536

-- a kind and reserved pins that may be written down; a run reserves none
abbrev pub IsToldKind : Kind → List ℕ → Type 0
IsToldKind (Run length) reserved = IsPrice length × (reserved ≡ [])
IsToldKind (Coupler price pins) reserved = IsPrice price × IsPin pins × AreTold IsPin reserved

-- a segment with names, and with numbers that may be written down
pub record IsToldSegment (segment : SegmentDraft) : Type 0 where
  pub name : IsName segment.name
  pub from : IsName segment.from
  pub to : IsName segment.to
  pub kind : IsToldKind segment.kind segment.reserved
  pub bars : AreTold IsName segment.bars

-- a terminal with a name, and a formula that is told in full
pub record IsToldTerminal (terminal : TerminalDraft) : Type 0 where
  pub cavity : IsName terminal.cavity
  pub when : IsToldFormula terminal.when

-- a net with names, and terminals that are told in full
pub record IsToldNet (net : NetDraft) : Type 0 where
  pub name : IsName net.name
  pub class : IsName net.class
  pub terminals : AreTold IsToldTerminal net.terminals

-- a draft that is told in full
pub record IsToldDraft (draft : Draft) : Type 0 where
  pub options : AreTold IsName draft.options
  pub rules : AreTold IsToldFormula draft.rules
  pub nodes : AreTold IsWrittenNode draft.nodes
  pub segments : AreTold IsToldSegment draft.segments
  pub cavities : AreTold IsWrittenCavity draft.cavities
  pub nets : AreTold IsToldNet draft.nets
