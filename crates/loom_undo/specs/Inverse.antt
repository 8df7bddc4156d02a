-- What takes an edit back: the inverse that an edit of a draft has, and what an inverse makes of a draft.
use Rattle.std.specs.Prelude.{ℕ, ◌-◌, List, length, take, Option, Some, None, option_map, option_and_then, slice_get}
use Rattle.std.specs.List.{insert}
use Rattle.loom_topology.specs.declared.kind.Kind.{Kind}
use Rattle.loom_topology.specs.declared.kind.Kind.TheVariants.{Run, Coupler}
use Rattle.loom_project.specs.declared.draft.Draft.{Draft}
use Rattle.loom_project.specs.Project.{net_at}
use Rattle.loom_edits.specs.declared.edit.Edit.{Edit}
use Rattle.loom_edits.specs.declared.edit.Edit.TheVariants as edits
use Rattle.loom_edits.specs.Places.{changed_at, option_place, node_place, segment_place, cavity_place, net_place, terminal_place}
use Rattle.loom_edits.specs.Edits.{with_price, with_pins}
use Rattle.loom_undo.specs.declared.inverse.Inverse.{Inverse}
use Rattle.loom_undo.specs.declared.inverse.Inverse.TheVariants.{DropLast, DropTerminal, PutOption, PutRule, PutNode, PutSegment, PutCavity, PutNet, PutTerminal, SetLength, SetPrice, SetPins, SetBranch, SetWhen, SetClass, SetBars, SetReserved}
use Rattle.loom_undo.specs.declared.inverse.ListName.{ListName}
use Rattle.loom_undo.specs.declared.inverse.ListName.TheVariants as lists

-- all elements but the last one
abbrev pub without_last : {A : Type 0} → List A → List A
without_last xs = take (length xs - 1) xs

-- a draft without the last thing of one of its lists
abbrev pub without_last_of : ListName → Draft → Draft
without_last_of lists.Options draft = record draft { options = without_last draft.options }
without_last_of lists.Rules draft = record draft { rules = without_last draft.rules }
without_last_of lists.Nodes draft = record draft { nodes = without_last draft.nodes }
without_last_of lists.Segments draft = record draft { segments = without_last draft.segments }
without_last_of lists.Cavities draft = record draft { cavities = without_last draft.cavities }
without_last_of lists.Nets draft = record draft { nets = without_last draft.nets }

-- what an inverse makes of a draft
unfoldable pub taken_back : Inverse → Draft → Draft
taken_back (DropLast list) draft = without_last_of list draft
taken_back (DropTerminal net) draft = record draft { nets = changed_at (λ old. record old { terminals = without_last old.terminals }) draft.nets net }
taken_back (PutOption at name) draft = record draft { options = insert draft.options at name }
taken_back (PutRule at when) draft = record draft { rules = insert draft.rules at when }
taken_back (PutNode at node) draft = record draft { nodes = insert draft.nodes at node }
taken_back (PutSegment at segment) draft = record draft { segments = insert draft.segments at segment }
taken_back (PutCavity at cavity) draft = record draft { cavities = insert draft.cavities at cavity }
taken_back (PutNet at net) draft = record draft { nets = insert draft.nets at net }
taken_back (PutTerminal net at terminal) draft = record draft { nets = changed_at (λ old. record old { terminals = insert old.terminals at terminal }) draft.nets net }
taken_back (SetLength at length) draft = record draft { segments = changed_at (λ old. record old { kind = Run length }) draft.segments at }
taken_back (SetPrice at price) draft = record draft { segments = changed_at (λ old. record old { kind = with_price price old.kind }) draft.segments at }
taken_back (SetPins at pins) draft = record draft { segments = changed_at (λ old. record old { kind = with_pins pins old.kind }) draft.segments at }
taken_back (SetBranch at branch) draft = record draft { nodes = changed_at (λ old. record old { branch = branch }) draft.nodes at }
taken_back (SetWhen net at when) draft = record draft { nets = changed_at (λ old. record old { terminals = changed_at (λ before. record before { when = when }) old.terminals at }) draft.nets net }
taken_back (SetClass net class) draft = record draft { nets = changed_at (λ old. record old { class = class }) draft.nets net }
taken_back (SetBars at bars) draft = record draft { segments = changed_at (λ old. record old { bars = bars }) draft.segments at }
taken_back (SetReserved at reserved) draft = record draft { segments = changed_at (λ old. record old { reserved = reserved }) draft.segments at }

-- the inverse that sets a run's length back
abbrev pub length_back : ℕ → Kind → Option Inverse
length_back at (Run length) = Some (SetLength at length)
length_back at (Coupler price pins) = None

-- the inverse that sets a coupler's price back
abbrev pub price_back : ℕ → Kind → Option Inverse
price_back at (Run length) = None
price_back at (Coupler price pins) = Some (SetPrice at price)

-- the inverse that sets a coupler's number of pins back
abbrev pub pins_back : ℕ → Kind → Option Inverse
pins_back at (Run length) = None
pins_back at (Coupler price pins) = Some (SetPins at pins)

infixl 10 ◌>>?◌
-- what comes next, of what was found
abbrev pub ◌>>?◌ : {A B : Type 0} → Option A → (A → Option B) → Option B
found >>? next = option_and_then next found

-- the inverse of an edit, by the draft before it; none where the edit can't be made
unfoldable pub inverse_of : Draft → Edit → Option Inverse
inverse_of draft (edits.AddOption name) = Some (DropLast lists.Options)
inverse_of draft (edits.RemoveOption name) = option_map (λ at. PutOption at name) (option_place draft name)
inverse_of draft (edits.AddRule when) = Some (DropLast lists.Rules)
inverse_of draft (edits.RemoveRule number) = option_map (λ old. PutRule number old) (slice_get draft.rules number)
inverse_of draft (edits.AddNode name harness branch) = Some (DropLast lists.Nodes)
inverse_of draft (edits.RemoveNode name) =
    node_place draft name >>? λ at. option_map (λ old. PutNode at old) (slice_get draft.nodes at)
inverse_of draft (edits.AddRun name from to length bars) = Some (DropLast lists.Segments)
inverse_of draft (edits.AddCoupler name from to price pins bars reserved) = Some (DropLast lists.Segments)
inverse_of draft (edits.RemoveSegment name) =
    segment_place draft name >>? λ at. option_map (λ old. PutSegment at old) (slice_get draft.segments at)
inverse_of draft (edits.AddCavity name device node) = Some (DropLast lists.Cavities)
inverse_of draft (edits.RemoveCavity name) =
    cavity_place draft name >>? λ at. option_map (λ old. PutCavity at old) (slice_get draft.cavities at)
inverse_of draft (edits.AddNet name class terminals) = Some (DropLast lists.Nets)
inverse_of draft (edits.RemoveNet name) =
    net_place draft name >>? λ at. option_map (λ old. PutNet at old) (slice_get draft.nets at)
inverse_of draft (edits.AddTerminal net cavity when) =
    option_map (λ at. DropTerminal at) (net_place draft net)
inverse_of draft (edits.RemoveTerminal net cavity) =
    net_place draft net >>? λ at. terminal_place (net_at draft at) cavity >>? λ terminal.
    option_map (λ old. PutTerminal at terminal old) (slice_get (net_at draft at).terminals terminal)
inverse_of draft (edits.SetLength name length) =
    segment_place draft name >>? λ at. slice_get draft.segments at >>? λ old. length_back at old.kind
inverse_of draft (edits.SetPrice name price) =
    segment_place draft name >>? λ at. slice_get draft.segments at >>? λ old. price_back at old.kind
inverse_of draft (edits.SetPins name pins) =
    segment_place draft name >>? λ at. slice_get draft.segments at >>? λ old. pins_back at old.kind
inverse_of draft (edits.SetBranch name branch) =
    node_place draft name >>? λ at. option_map (λ old. SetBranch at old.branch) (slice_get draft.nodes at)
inverse_of draft (edits.SetWhen net cavity when) =
    net_place draft net >>? λ at. terminal_place (net_at draft at) cavity >>? λ terminal.
    option_map (λ old. SetWhen at terminal old.when) (slice_get (net_at draft at).terminals terminal)
inverse_of draft (edits.SetClass name class) =
    net_place draft name >>? λ at. option_map (λ old. SetClass at old.class) (slice_get draft.nets at)
inverse_of draft (edits.SetBars name bars) =
    segment_place draft name >>? λ at. option_map (λ old. SetBars at old.bars) (slice_get draft.segments at)
inverse_of draft (edits.SetReserved name reserved) =
    segment_place draft name >>? λ at. option_map (λ old. SetReserved at old.reserved) (slice_get draft.segments at)
