-- What an inverse makes of the draft after its edit is the draft before it.
use Rattle.std.proofs.Common.{◌≡◌, ℕ, List, [], ◌∷◌, ◌++◌, length, get_or, slice_get, Some, refl, sym, ap, subst, ◌∙◌, Result, Ok}
use Rattle.std.specs.Prelude.{not, nat_lt, option_map}
use Rattle.std.specs.List.{insert, remove}
use Rattle.std.proofs.lemmas.Option.{get_or_from_slice_get, slice_get-get_or}
use Rattle.std.proofs.lemmas.Bool.{ltb-true}
use Rattle.loom_topology.specs.declared.kind.Kind.{Kind}
use Rattle.loom_topology.specs.declared.kind.Kind.TheVariants.{Run, Coupler}
use Rattle.loom_formula.specs.declared.formula.Formula.{Formula}
use Rattle.loom_formula.specs.declared.formula.Formula.TheVariants.{Always}
use Rattle.loom_project.specs.declared.draft.Draft.{Draft}
use Rattle.loom_project.specs.declared.draft.NodeDraft.{NodeDraft}
use Rattle.loom_project.specs.declared.draft.SegmentDraft.{SegmentDraft}
use Rattle.loom_project.specs.declared.draft.NetDraft.{NetDraft}
use Rattle.loom_project.specs.declared.draft.TerminalDraft.{TerminalDraft}
use Rattle.loom_project.specs.declared.fault.Of.TheVariants as of
use Rattle.loom_project.specs.Project.{net_at, no_net}
use Rattle.loom_edits.specs.declared.edit.Edit.{Edit}
use Rattle.loom_edits.specs.declared.edit.Edit.TheVariants as edits
use Rattle.loom_edits.specs.declared.fault.EditFault.{EditFault}
use Rattle.loom_edits.specs.Places.{changed_at, is_coupler_at, option_place, node_place, segment_place, cavity_place, net_place, terminal_place}
use Rattle.loom_edits.specs.Edits.{changed, with_price, with_pins}
use Rattle.loom_undo.specs.declared.inverse.Inverse.{Inverse}
use Rattle.loom_undo.specs.declared.inverse.Inverse.TheVariants as inverses
use Rattle.loom_undo.specs.declared.inverse.ListName.TheVariants as lists
use Rattle.loom_undo.specs.Inverse.{inverse_of, taken_back, without_last, length_back, price_back, pins_back}
use Rattle.loom_undo.proofs.Moves.{without_last-push, insert-remove, changed_back, standing, name_standing, opened, passed, same_Ok, required, found_at, found_if, found_next, run_kind, coupler_kind, kind_standing, not_true}

-- an edit has an inverse, which leads from the draft after it to the one before
pub record IsTakenBack (before : Draft) (edit : Edit) (after : Draft) : Type 0 where
  pub inverse : Inverse
  pub found : inverse_of before edit ≡ Some inverse
  pub back : taken_back inverse after ≡ before

-- an edit is taken back, whatever sound or unsound draft it leads to
abbrev pub Back : Draft → Edit → Type 0
Back before edit = (after : Draft) → changed before edit ≡ Ok after → IsTakenBack before edit after

-- the draft that came is the one that was made
taken : (before : Draft) (edit : Edit) (after made : Draft) (inverse : Inverse) → ◌≡◌ {A = Result Draft EditFault} (Ok made) (Ok after) → inverse_of before edit ≡ Some inverse → taken_back inverse made ≡ before → IsTakenBack before edit after
taken before edit after made inverse same found back =
    record { inverse = inverse; found = found; back = subst (λ d. taken_back inverse d ≡ before) (same_Ok made after same) back }

add_option_back : (before : Draft) (name : List ℕ) → Back before (edits.AddOption name)
unfolding changed inverse_of taken_back
add_option_back before name after is =
    taken before (edits.AddOption name) after _ (inverses.DropLast lists.Options) is refl
    (ap (λ xs. record before { options = xs }) (without_last-push before.options (name)))

add_rule_back : (before : Draft) (when : Formula) → Back before (edits.AddRule when)
unfolding changed inverse_of taken_back
add_rule_back before when after is =
    taken before (edits.AddRule when) after _ (inverses.DropLast lists.Rules) is refl
    (ap (λ xs. record before { rules = xs }) (without_last-push before.rules (when)))

add_node_back : (before : Draft) (name harness : List ℕ) (branch : ℕ) → Back before (edits.AddNode name harness branch)
unfolding changed inverse_of taken_back
add_node_back before name harness branch after is =
    taken before (edits.AddNode name harness branch) after _ (inverses.DropLast lists.Nodes) is refl
    (ap (λ xs. record before { nodes = xs }) (without_last-push before.nodes (record { name = name; harness = harness; branch = branch })))

add_run_back : (before : Draft) (name from to : List ℕ) (length : ℕ) (bars : List (List ℕ)) → Back before (edits.AddRun name from to length bars)
unfolding changed inverse_of taken_back
add_run_back before name from to length bars after is =
    taken before (edits.AddRun name from to length bars) after _ (inverses.DropLast lists.Segments) is refl
    (ap (λ xs. record before { segments = xs }) (without_last-push before.segments (record { name = name; from = from; to = to; kind = Run length; bars = bars; reserved = [] })))

add_coupler_back : (before : Draft) (name from to : List ℕ) (price pins : ℕ) (bars : List (List ℕ)) (reserved : List ℕ) → Back before (edits.AddCoupler name from to price pins bars reserved)
unfolding changed inverse_of taken_back
add_coupler_back before name from to price pins bars reserved after is =
    taken before (edits.AddCoupler name from to price pins bars reserved) after _ (inverses.DropLast lists.Segments) is refl
    (ap (λ xs. record before { segments = xs }) (without_last-push before.segments (record { name = name; from = from; to = to; kind = Coupler price pins; bars = bars; reserved = reserved })))

add_cavity_back : (before : Draft) (name device node : List ℕ) → Back before (edits.AddCavity name device node)
unfolding changed inverse_of taken_back
add_cavity_back before name device node after is =
    taken before (edits.AddCavity name device node) after _ (inverses.DropLast lists.Cavities) is refl
    (ap (λ xs. record before { cavities = xs }) (without_last-push before.cavities (record { name = name; device = device; node = node })))

add_net_back : (before : Draft) (name class : List ℕ) (terminals : List TerminalDraft) → Back before (edits.AddNet name class terminals)
unfolding changed inverse_of taken_back
add_net_back before name class terminals after is =
    taken before (edits.AddNet name class terminals) after _ (inverses.DropLast lists.Nets) is refl
    (ap (λ xs. record before { nets = xs }) (without_last-push before.nets (record { name = name; class = class; terminals = terminals })))

remove_option_back : (before : Draft) (name : List ℕ) → Back before (edits.RemoveOption name)
unfolding changed inverse_of taken_back
remove_option_back before name after is =
    let place = opened of.OptionName name (option_place before name) _ after is in
    taken before (edits.RemoveOption name) after _ (inverses.PutOption place.0 name) (passed _ _ after place.2)
    (ap (option_map (λ k. inverses.PutOption k name)) place.1)
    (ap (λ xs. record before { options = xs }) (insert-remove before.options place.0 name (name_standing before.options name place.0 place.1)))

remove_rule_back : (before : Draft) (number : ℕ) → Back before (edits.RemoveRule number)
unfolding changed inverse_of taken_back
remove_rule_back before number after is =
    let held = required (nat_lt number (length before.rules)) _ _ after is in
    let old = get_or before.rules number Always in
    let there = slice_get-get_or before.rules number Always (ltb-true number (length before.rules) held.0) in
    taken before (edits.RemoveRule number) after _ (inverses.PutRule number old) held.1
    (ap (option_map (inverses.PutRule number)) there)
    (ap (λ xs. record before { rules = xs }) (insert-remove before.rules number old there))

remove_node_back : (before : Draft) (name : List ℕ) → Back before (edits.RemoveNode name)
unfolding changed inverse_of taken_back
remove_node_back before name after is =
    let place = opened of.Node name (node_place before name) _ after is in
    let old = standing _ before.nodes place.0 place.1 in
    taken before (edits.RemoveNode name) after _ (inverses.PutNode place.0 old.0) (passed _ _ after place.2)
    (found_at (node_place before name) (slice_get before.nodes) inverses.PutNode place.0 old.0 place.1 old.1)
    (ap (λ xs. record before { nodes = xs }) (insert-remove before.nodes place.0 old.0 old.1))

remove_segment_back : (before : Draft) (name : List ℕ) → Back before (edits.RemoveSegment name)
unfolding changed inverse_of taken_back
remove_segment_back before name after is =
    let place = opened of.Segment name (segment_place before name) _ after is in
    let old = standing _ before.segments place.0 place.1 in
    taken before (edits.RemoveSegment name) after _ (inverses.PutSegment place.0 old.0) place.2
    (found_at (segment_place before name) (slice_get before.segments) inverses.PutSegment place.0 old.0 place.1 old.1)
    (ap (λ xs. record before { segments = xs }) (insert-remove before.segments place.0 old.0 old.1))

remove_cavity_back : (before : Draft) (name : List ℕ) → Back before (edits.RemoveCavity name)
unfolding changed inverse_of taken_back
remove_cavity_back before name after is =
    let place = opened of.Cavity name (cavity_place before name) _ after is in
    let old = standing _ before.cavities place.0 place.1 in
    taken before (edits.RemoveCavity name) after _ (inverses.PutCavity place.0 old.0) (passed _ _ after place.2)
    (found_at (cavity_place before name) (slice_get before.cavities) inverses.PutCavity place.0 old.0 place.1 old.1)
    (ap (λ xs. record before { cavities = xs }) (insert-remove before.cavities place.0 old.0 old.1))

remove_net_back : (before : Draft) (name : List ℕ) → Back before (edits.RemoveNet name)
unfolding changed inverse_of taken_back
remove_net_back before name after is =
    let place = opened of.Net name (net_place before name) _ after is in
    let old = standing _ before.nets place.0 place.1 in
    taken before (edits.RemoveNet name) after _ (inverses.PutNet place.0 old.0) place.2
    (found_at (net_place before name) (slice_get before.nets) inverses.PutNet place.0 old.0 place.1 old.1)
    (ap (λ xs. record before { nets = xs }) (insert-remove before.nets place.0 old.0 old.1))

set_branch_back : (before : Draft) (name : List ℕ) (branch : ℕ) → Back before (edits.SetBranch name branch)
unfolding changed inverse_of taken_back
set_branch_back before name branch after is =
    let place = opened of.Node name (node_place before name) _ after is in
    let old = standing _ before.nodes place.0 place.1 in
    taken before (edits.SetBranch name branch) after _ (inverses.SetBranch place.0 old.0.branch) place.2
    (found_at (node_place before name) (slice_get before.nodes) (λ k (x : NodeDraft). inverses.SetBranch k x.branch) place.0 old.0 place.1 old.1)
    (ap (λ xs. record before { nodes = xs }) (changed_back (λ (x : NodeDraft). record x { branch = old.0.branch }) (λ (x : NodeDraft). record x { branch = branch }) before.nodes place.0 old.0 old.1 refl))

set_class_back : (before : Draft) (name : List ℕ) (class : List ℕ) → Back before (edits.SetClass name class)
unfolding changed inverse_of taken_back
set_class_back before name class after is =
    let place = opened of.Net name (net_place before name) _ after is in
    let old = standing _ before.nets place.0 place.1 in
    taken before (edits.SetClass name class) after _ (inverses.SetClass place.0 old.0.class) place.2
    (found_at (net_place before name) (slice_get before.nets) (λ k (x : NetDraft). inverses.SetClass k x.class) place.0 old.0 place.1 old.1)
    (ap (λ xs. record before { nets = xs }) (changed_back (λ (x : NetDraft). record x { class = old.0.class }) (λ (x : NetDraft). record x { class = class }) before.nets place.0 old.0 old.1 refl))

set_bars_back : (before : Draft) (name : List ℕ) (bars : List (List ℕ)) → Back before (edits.SetBars name bars)
unfolding changed inverse_of taken_back
set_bars_back before name bars after is =
    let place = opened of.Segment name (segment_place before name) _ after is in
    let old = standing _ before.segments place.0 place.1 in
    taken before (edits.SetBars name bars) after _ (inverses.SetBars place.0 old.0.bars) place.2
    (found_at (segment_place before name) (slice_get before.segments) (λ k (x : SegmentDraft). inverses.SetBars k x.bars) place.0 old.0 place.1 old.1)
    (ap (λ xs. record before { segments = xs }) (changed_back (λ (x : SegmentDraft). record x { bars = old.0.bars }) (λ (x : SegmentDraft). record x { bars = bars }) before.segments place.0 old.0 old.1 refl))

set_reserved_back : (before : Draft) (name : List ℕ) (reserved : List ℕ) → Back before (edits.SetReserved name reserved)
unfolding changed inverse_of taken_back
set_reserved_back before name reserved after is =
    let place = opened of.Segment name (segment_place before name) _ after is in
    let old = standing _ before.segments place.0 place.1 in
    taken before (edits.SetReserved name reserved) after _ (inverses.SetReserved place.0 old.0.reserved) (passed _ _ after place.2)
    (found_at (segment_place before name) (slice_get before.segments) (λ k (x : SegmentDraft). inverses.SetReserved k x.reserved) place.0 old.0 place.1 old.1)
    (ap (λ xs. record before { segments = xs }) (changed_back (λ (x : SegmentDraft). record x { reserved = old.0.reserved }) (λ (x : SegmentDraft). record x { reserved = reserved }) before.segments place.0 old.0 old.1 refl))

add_terminal_back : (before : Draft) (net cavity : List ℕ) (when : Formula) → Back before (edits.AddTerminal net cavity when)
unfolding changed inverse_of taken_back
add_terminal_back before net cavity when after is =
    let place = opened of.Net net (net_place before net) _ after is in
    let old = standing _ before.nets place.0 place.1 in
    taken before (edits.AddTerminal net cavity when) after _ (inverses.DropTerminal place.0) place.2
    (ap (option_map inverses.DropTerminal) place.1)
    (ap (λ xs. record before { nets = xs }) (changed_back
    (λ (x : NetDraft). record x { terminals = without_last x.terminals })
    (λ (x : NetDraft). record x { terminals = x.terminals ++ (record { cavity = cavity; when = when }) ∷ [] })
    before.nets place.0 old.0 old.1
    (ap (λ xs. record old.0 { terminals = xs }) (without_last-push old.0.terminals (record { cavity = cavity; when = when })))))

remove_terminal_back : (before : Draft) (net cavity : List ℕ) → Back before (edits.RemoveTerminal net cavity)
unfolding changed inverse_of taken_back
remove_terminal_back before net cavity after is =
    let place = opened of.Net net (net_place before net) _ after is in
    let old = standing _ before.nets place.0 place.1 in
    let inner = opened of.Terminal cavity (terminal_place (net_at before place.0) cavity) _ after place.2 in
    let terminal = standing _ (net_at before place.0).terminals inner.0 inner.1 in
    let there = subst (λ (x : NetDraft). slice_get x.terminals inner.0 ≡ Some terminal.0) (get_or_from_slice_get before.nets place.0 old.0 no_net old.1) terminal.1 in
    taken before (edits.RemoveTerminal net cavity) after _ (inverses.PutTerminal place.0 inner.0 terminal.0) inner.2
    (found_next (net_place before net) _ place.0 _ place.1 (found_at (terminal_place (net_at before place.0) cavity) (slice_get (net_at before place.0).terminals) (inverses.PutTerminal place.0) inner.0 terminal.0 inner.1 terminal.1))
    (ap (λ xs. record before { nets = xs }) (changed_back
    (λ (x : NetDraft). record x { terminals = insert x.terminals inner.0 terminal.0 })
    (λ (x : NetDraft). record x { terminals = remove x.terminals inner.0 })
    before.nets place.0 old.0 old.1
    (ap (λ xs. record old.0 { terminals = xs }) (insert-remove old.0.terminals inner.0 terminal.0 there))))

set_when_back : (before : Draft) (net cavity : List ℕ) (when : Formula) → Back before (edits.SetWhen net cavity when)
unfolding changed inverse_of taken_back
set_when_back before net cavity when after is =
    let place = opened of.Net net (net_place before net) _ after is in
    let old = standing _ before.nets place.0 place.1 in
    let inner = opened of.Terminal cavity (terminal_place (net_at before place.0) cavity) _ after place.2 in
    let terminal = standing _ (net_at before place.0).terminals inner.0 inner.1 in
    let there = subst (λ (x : NetDraft). slice_get x.terminals inner.0 ≡ Some terminal.0) (get_or_from_slice_get before.nets place.0 old.0 no_net old.1) terminal.1 in
    taken before (edits.SetWhen net cavity when) after _ (inverses.SetWhen place.0 inner.0 terminal.0.when) inner.2
    (found_next (net_place before net) _ place.0 _ place.1 (found_at (terminal_place (net_at before place.0) cavity) (slice_get (net_at before place.0).terminals) (λ k (x : TerminalDraft). inverses.SetWhen place.0 k x.when) inner.0 terminal.0 inner.1 terminal.1))
    (ap (λ xs. record before { nets = xs }) (changed_back
    (λ (x : NetDraft). record x { terminals = changed_at (λ (t : TerminalDraft). record t { when = terminal.0.when }) x.terminals inner.0 })
    (λ (x : NetDraft). record x { terminals = changed_at (λ (t : TerminalDraft). record t { when = when }) x.terminals inner.0 })
    before.nets place.0 old.0 old.1
    (ap (λ xs. record old.0 { terminals = xs }) (changed_back
    (λ (t : TerminalDraft). record t { when = terminal.0.when })
    (λ (t : TerminalDraft). record t { when = when })
    old.0.terminals inner.0 terminal.0 there refl))))

set_length_back : (before : Draft) (name : List ℕ) (length : ℕ) → Back before (edits.SetLength name length)
unfolding changed inverse_of taken_back
set_length_back before name length after is =
    let place = opened of.Segment name (segment_place before name) _ after is in
    let old = standing _ before.segments place.0 place.1 in
    let held = required (not (is_coupler_at before place.0)) _ _ after place.2 in
    let kind = run_kind old.0.kind (sym (kind_standing before place.0 old.0 old.1) ∙ not_true (is_coupler_at before place.0) held.0) in
    taken before (edits.SetLength name length) after _ (inverses.SetLength place.0 kind.0) held.1
    (found_if (segment_place before name) (slice_get before.segments) (λ k (x : SegmentDraft). length_back k x.kind) place.0 old.0 place.1 old.1 ∙ ap (length_back place.0) kind.1)
    (ap (λ xs. record before { segments = xs }) (changed_back
    (λ (x : SegmentDraft). record x { kind = Run kind.0 })
    (λ (x : SegmentDraft). record x { kind = Run length })
    before.segments place.0 old.0 old.1
    (ap (λ k. record old.0 { kind = k }) (sym kind.1))))

price_again : (kind : Kind) (old pins price : ℕ) → kind ≡ Coupler old pins → with_price old (with_price price kind) ≡ kind
price_again kind old pins price is = rw is refl

set_price_back : (before : Draft) (name : List ℕ) (price : ℕ) → Back before (edits.SetPrice name price)
unfolding changed inverse_of taken_back
set_price_back before name price after is =
    let place = opened of.Segment name (segment_place before name) _ after is in
    let old = standing _ before.segments place.0 place.1 in
    let held = required (is_coupler_at before place.0) _ _ after place.2 in
    let kind = coupler_kind old.0.kind (sym (kind_standing before place.0 old.0 old.1) ∙ held.0) in
    taken before (edits.SetPrice name price) after _ (inverses.SetPrice place.0 kind.0) held.1
    (found_if (segment_place before name) (slice_get before.segments) (λ k (x : SegmentDraft). price_back k x.kind) place.0 old.0 place.1 old.1 ∙ ap (price_back place.0) kind.2)
    (ap (λ xs. record before { segments = xs }) (changed_back
    (λ (x : SegmentDraft). record x { kind = with_price kind.0 x.kind })
    (λ (x : SegmentDraft). record x { kind = with_price price x.kind })
    before.segments place.0 old.0 old.1
    (ap (λ k. record old.0 { kind = k }) (price_again old.0.kind kind.0 kind.1 price kind.2))))

pins_again : (kind : Kind) (price old pins : ℕ) → kind ≡ Coupler price old → with_pins old (with_pins pins kind) ≡ kind
pins_again kind price old pins is = rw is refl

set_pins_back : (before : Draft) (name : List ℕ) (pins : ℕ) → Back before (edits.SetPins name pins)
unfolding changed inverse_of taken_back
set_pins_back before name pins after is =
    let place = opened of.Segment name (segment_place before name) _ after is in
    let old = standing _ before.segments place.0 place.1 in
    let held = required (is_coupler_at before place.0) _ _ after place.2 in
    let kind = coupler_kind old.0.kind (sym (kind_standing before place.0 old.0 old.1) ∙ held.0) in
    taken before (edits.SetPins name pins) after _ (inverses.SetPins place.0 kind.1) held.1
    (found_if (segment_place before name) (slice_get before.segments) (λ k (x : SegmentDraft). pins_back k x.kind) place.0 old.0 place.1 old.1 ∙ ap (pins_back place.0) kind.2)
    (ap (λ xs. record before { segments = xs }) (changed_back
    (λ (x : SegmentDraft). record x { kind = with_pins kind.1 x.kind })
    (λ (x : SegmentDraft). record x { kind = with_pins pins x.kind })
    before.segments place.0 old.0 old.1
    (ap (λ k. record old.0 { kind = k }) (pins_again old.0.kind kind.0 kind.1 pins kind.2))))

-- every edit is taken back
pub edit_back : (before : Draft) (edit : Edit) → Back before edit
edit_back before (edits.AddOption name) = add_option_back before name
edit_back before (edits.RemoveOption name) = remove_option_back before name
edit_back before (edits.AddRule when) = add_rule_back before when
edit_back before (edits.RemoveRule number) = remove_rule_back before number
edit_back before (edits.AddNode name harness branch) = add_node_back before name harness branch
edit_back before (edits.RemoveNode name) = remove_node_back before name
edit_back before (edits.AddRun name from to length bars) = add_run_back before name from to length bars
edit_back before (edits.AddCoupler name from to price pins bars reserved) = add_coupler_back before name from to price pins bars reserved
edit_back before (edits.RemoveSegment name) = remove_segment_back before name
edit_back before (edits.AddCavity name device node) = add_cavity_back before name device node
edit_back before (edits.RemoveCavity name) = remove_cavity_back before name
edit_back before (edits.AddNet name class terminals) = add_net_back before name class terminals
edit_back before (edits.RemoveNet name) = remove_net_back before name
edit_back before (edits.AddTerminal net cavity when) = add_terminal_back before net cavity when
edit_back before (edits.RemoveTerminal net cavity) = remove_terminal_back before net cavity
edit_back before (edits.SetLength name length) = set_length_back before name length
edit_back before (edits.SetPrice name price) = set_price_back before name price
edit_back before (edits.SetPins name pins) = set_pins_back before name pins
edit_back before (edits.SetBranch name branch) = set_branch_back before name branch
edit_back before (edits.SetWhen net cavity when) = set_when_back before net cavity when
edit_back before (edits.SetClass name class) = set_class_back before name class
edit_back before (edits.SetBars name bars) = set_bars_back before name bars
edit_back before (edits.SetReserved name reserved) = set_reserved_back before name reserved
