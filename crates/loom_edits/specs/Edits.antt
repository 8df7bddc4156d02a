-- What an edit makes of a draft, or the first cause why it is refused.
use Rattle.std.specs.Prelude.{◌≡◌, ◌≢◌, ℕ, ◌++◌, [], ◌∷◌, Bool, not, nat_lt, List, length, Option, Some, None, Result, Ok, Err}
use Rattle.std.specs.List.{remove}
use Rattle.loom_base.specs.First.{Check, ◌>>◌, ◌>>=◌, require}
use Rattle.loom_topology.specs.declared.kind.Kind.{Kind}
use Rattle.loom_topology.specs.declared.kind.Kind.TheVariants.{Run, Coupler}
use Rattle.loom_project.specs.declared.draft.Draft.{Draft}
use Rattle.loom_project.specs.declared.fault.Of.{Of}
use Rattle.loom_project.specs.declared.fault.Of.TheVariants as of
use Rattle.loom_project.specs.declared.fault.ProjectFault.{ProjectFault}
use Rattle.loom_project.specs.Project.{net_at}
use Rattle.loom_project.specs.Sound.{draft_check}
use Rattle.loom_edits.specs.declared.edit.Edit.{Edit}
use Rattle.loom_edits.specs.declared.edit.Edit.TheVariants as edits
use Rattle.loom_edits.specs.declared.fault.EditFault.{EditFault}
use Rattle.loom_edits.specs.declared.fault.EditFault.TheVariants.{UnknownName, UnknownRule, WrongKind, InUse, Project, NoMemory}
use Rattle.loom_edits.specs.Places.{changed_at, option_place, node_place, segment_place, cavity_place, net_place, terminal_place, is_coupler_at}
use Rattle.loom_edits.specs.Uses.{is_option_used, is_node_used, is_cavity_used}

-- the place of the thing that an edit addresses, which has to be there
abbrev pub addressed : Of → List ℕ → Option ℕ → Result ℕ EditFault
addressed kind name (Some at) = Ok at
addressed kind name None = Err (UnknownName kind name)

-- a thing that is removed may not be named by another
abbrev pub unused : Of → List ℕ → Bool → Check EditFault
unused kind name is_used = require (not is_used) (InUse kind name)

-- a run gets a length
abbrev pub on_run : Draft → List ℕ → ℕ → Check EditFault
on_run draft name at = require (not (is_coupler_at draft at)) (WrongKind name)

-- a coupler gets a price, pins or reserved pins
abbrev pub on_coupler : Draft → List ℕ → ℕ → Check EditFault
on_coupler draft name at = require (is_coupler_at draft at) (WrongKind name)

-- a coupler's kind with another price; a run's is the same
abbrev pub with_price : ℕ → Kind → Kind
with_price price (Run length) = Run length
with_price price (Coupler before pins) = Coupler price pins

-- a coupler's kind with another number of pins; a run's is the same
abbrev pub with_pins : ℕ → Kind → Kind
with_pins pins (Run length) = Run length
with_pins pins (Coupler price before) = Coupler price pins

-- the draft as an edit changes it, sound or not, or the first cause why that can't be done
unfoldable pub changed : Draft → Edit → Result Draft EditFault
changed draft (edits.AddOption name) = Ok (record draft { options = draft.options ++ name ∷ [] })
changed draft (edits.RemoveOption name) = do
  at ← addressed of.OptionName name (option_place draft name)
  unused of.OptionName name (is_option_used draft name)
  Ok (record draft { options = remove draft.options at })
changed draft (edits.AddRule when) = Ok (record draft { rules = draft.rules ++ when ∷ [] })
changed draft (edits.RemoveRule number) = do
  require (nat_lt number (length draft.rules)) (UnknownRule number)
  Ok (record draft { rules = remove draft.rules number })
changed draft (edits.AddNode name harness branch) =
    Ok (record draft { nodes = draft.nodes ++ (record { name = name; harness = harness; branch = branch }) ∷ [] })
changed draft (edits.RemoveNode name) = do
  at ← addressed of.Node name (node_place draft name)
  unused of.Node name (is_node_used draft name)
  Ok (record draft { nodes = remove draft.nodes at })
changed draft (edits.AddRun name from to length bars) =
    Ok (record draft { segments = draft.segments ++ (record { name = name; from = from; to = to; kind = Run length; bars = bars; reserved = [] }) ∷ [] })
changed draft (edits.AddCoupler name from to price pins bars reserved) =
    Ok (record draft { segments = draft.segments ++ (record { name = name; from = from; to = to; kind = Coupler price pins; bars = bars; reserved = reserved }) ∷ [] })
changed draft (edits.RemoveSegment name) = do
  at ← addressed of.Segment name (segment_place draft name)
  Ok (record draft { segments = remove draft.segments at })
changed draft (edits.AddCavity name device node) =
    Ok (record draft { cavities = draft.cavities ++ (record { name = name; device = device; node = node }) ∷ [] })
changed draft (edits.RemoveCavity name) = do
  at ← addressed of.Cavity name (cavity_place draft name)
  unused of.Cavity name (is_cavity_used draft name)
  Ok (record draft { cavities = remove draft.cavities at })
changed draft (edits.AddNet name class terminals) =
    Ok (record draft { nets = draft.nets ++ (record { name = name; class = class; terminals = terminals }) ∷ [] })
changed draft (edits.RemoveNet name) = do
  at ← addressed of.Net name (net_place draft name)
  Ok (record draft { nets = remove draft.nets at })
changed draft (edits.AddTerminal net cavity when) = do
  at ← addressed of.Net net (net_place draft net)
  Ok (record draft { nets = changed_at (λ old. record old { terminals = old.terminals ++ (record { cavity = cavity; when = when }) ∷ [] }) draft.nets at })
changed draft (edits.RemoveTerminal net cavity) = do
  at ← addressed of.Net net (net_place draft net)
  terminal ← addressed of.Terminal cavity (terminal_place (net_at draft at) cavity)
  Ok (record draft { nets = changed_at (λ old. record old { terminals = remove old.terminals terminal }) draft.nets at })
changed draft (edits.SetLength name length) = do
  at ← addressed of.Segment name (segment_place draft name)
  on_run draft name at
  Ok (record draft { segments = changed_at (λ old. record old { kind = Run length }) draft.segments at })
changed draft (edits.SetPrice name price) = do
  at ← addressed of.Segment name (segment_place draft name)
  on_coupler draft name at
  Ok (record draft { segments = changed_at (λ old. record old { kind = with_price price old.kind }) draft.segments at })
changed draft (edits.SetPins name pins) = do
  at ← addressed of.Segment name (segment_place draft name)
  on_coupler draft name at
  Ok (record draft { segments = changed_at (λ old. record old { kind = with_pins pins old.kind }) draft.segments at })
changed draft (edits.SetBranch name branch) = do
  at ← addressed of.Node name (node_place draft name)
  Ok (record draft { nodes = changed_at (λ old. record old { branch = branch }) draft.nodes at })
changed draft (edits.SetWhen net cavity when) = do
  at ← addressed of.Net net (net_place draft net)
  terminal ← addressed of.Terminal cavity (terminal_place (net_at draft at) cavity)
  Ok (record draft { nets = changed_at (λ old. record old { terminals = changed_at (λ before. record before { when = when }) old.terminals terminal }) draft.nets at })
changed draft (edits.SetClass name class) = do
  at ← addressed of.Net name (net_place draft name)
  Ok (record draft { nets = changed_at (λ old. record old { class = class }) draft.nets at })
changed draft (edits.SetBars name bars) = do
  at ← addressed of.Segment name (segment_place draft name)
  Ok (record draft { segments = changed_at (λ old. record old { bars = bars }) draft.segments at })
changed draft (edits.SetReserved name reserved) = do
  at ← addressed of.Segment name (segment_place draft name)
  on_coupler draft name at
  Ok (record draft { segments = changed_at (λ old. record old { reserved = reserved }) draft.segments at })

-- a failure of the project's check as a cause why an edit is refused
abbrev pub sound : Check ProjectFault → Check EditFault
sound (Ok passed) = Ok tt
sound (Err failure) = Err (Project failure)

-- the draft, if it is sound
abbrev pub if_sound : Draft → Result Draft EditFault
if_sound draft = sound (draft_check draft) >> Ok draft

-- the sound draft that an edit makes of a draft, or the first cause why the edit is refused: what it
-- addresses isn't there or is of another kind, what it removes is in use, or the changed draft isn't sound
unfoldable pub edited : Draft → Edit → Result Draft EditFault
edited draft edit = changed draft edit >>= if_sound

-- what a call answers is what the definition gives, unless memory ran out
abbrev pub Gives : {A : Type 0} → Result A EditFault → Result A EditFault → Type 0
Gives (Ok made) wanted = wanted ≡ Ok made
Gives (Err fault) wanted = fault ≢ NoMemory → wanted ≡ Err fault
