-- After an edit that doesn't forget, what is kept is true of the changed draft.
use Rattle.std.proofs.Common.{◌≡◌, ℕ, Bool, true, false, List, [], ◌∷◌, ◌++◌, length, refl, sym, ap, ◌∙◌, subst, arith, Result, Ok, Option, Some, None}
use Rattle.std.specs.Prelude.{if◌then◌else◌, nat_lt, option_map}
use Rattle.std.proofs.lemmas.Option.{same_Some}
use Rattle.std.specs.List.{remove}
use Rattle.loom_base.proofs.EachLemmas.{next-parts}
use Rattle.loom_formula.specs.declared.formula.Formula.{Formula}
use Rattle.loom_topology.specs.declared.kind.Kind.{Kind}
use Rattle.loom_topology.specs.declared.kind.Kind.TheVariants.{Run, Coupler}
use Rattle.loom_topology.specs.Topology.{price_of}
use Rattle.loom_project.specs.declared.draft.Draft.{Draft}
use Rattle.loom_project.specs.declared.draft.SegmentDraft.{SegmentDraft}
use Rattle.loom_project.specs.declared.draft.TerminalDraft.{TerminalDraft}
use Rattle.loom_project.specs.declared.fault.Of.TheVariants as of
use Rattle.loom_project.specs.Project.{net_at}
use Rattle.loom_edits.specs.declared.edit.Edit.{Edit}
use Rattle.loom_edits.specs.declared.edit.Edit.TheVariants as edits
use Rattle.loom_edits.specs.declared.fault.EditFault.{EditFault}
use Rattle.loom_edits.specs.Places.{is_coupler_at, option_place, segment_place, cavity_place, net_place, terminal_place}
use Rattle.loom_edits.specs.Edits.{changed, edited, with_pins}
use Rattle.loom_undo.specs.Changes.{Change, Changes, last_of, after_edit, after_undo, after_redo, TakesBack, MakesAgain}
use Rattle.loom_undo.proofs.Moves.{opened, passed, required, same_Ok}
use Rattle.loom_undo.proofs.HistoryLemmas.{made_sound}
use Rattle.loom_laid.specs.Kept.{KeptTable, AreTrueOf, IsSameGround, KeptStaysTrue}
use Rattle.loom_layout.proofs.Nodes.{alike_back}
use Rattle.loom_session.specs.Forgets.{forgets, kept_after}
use Rattle.loom_session.proofs.SameGround.{same-parts, same-but-one}

-- the ground after an edit is that before it
abbrev pub Stays : Draft → Edit → Type 0
Stays before edit = (after : Draft) → changed before edit ≡ Ok after → IsSameGround before after

stays-made : (before after made : Draft) → ◌≡◌ {A = Result Draft EditFault} (Ok made) (Ok after) → IsSameGround before made → IsSameGround before after
stays-made before after made same stays = subst (IsSameGround before) (same_Ok made after same) stays

add_option_stays : (before : Draft) (name : List ℕ) → Stays before (edits.AddOption name)
unfolding changed
add_option_stays before name after is = stays-made before after _ is (same-parts before _ refl refl)

remove_option_stays : (before : Draft) (name : List ℕ) → Stays before (edits.RemoveOption name)
unfolding changed
remove_option_stays before name after is =
    let place = opened of.OptionName name (option_place before name) _ after is in
    stays-made before after _ (passed _ _ after place.2) (same-parts before _ refl refl)

add_rule_stays : (before : Draft) (when : Formula) → Stays before (edits.AddRule when)
unfolding changed
add_rule_stays before when after is = stays-made before after _ is (same-parts before _ refl refl)

remove_rule_stays : (before : Draft) (number : ℕ) → Stays before (edits.RemoveRule number)
unfolding changed
remove_rule_stays before number after is =
    let held = required (nat_lt number (length before.rules)) _ _ after is in
    stays-made before after _ held.1 (same-parts before _ refl refl)

add_cavity_stays : (before : Draft) (name device node : List ℕ) → Stays before (edits.AddCavity name device node)
unfolding changed
add_cavity_stays before name device node after is = stays-made before after _ is (same-parts before _ refl refl)

remove_cavity_stays : (before : Draft) (name : List ℕ) → Stays before (edits.RemoveCavity name)
unfolding changed
remove_cavity_stays before name after is =
    let place = opened of.Cavity name (cavity_place before name) _ after is in
    stays-made before after _ (passed _ _ after place.2) (same-parts before _ refl refl)

add_net_stays : (before : Draft) (name class : List ℕ) (terminals : List TerminalDraft) → Stays before (edits.AddNet name class terminals)
unfolding changed
add_net_stays before name class terminals after is = stays-made before after _ is (same-parts before _ refl refl)

remove_net_stays : (before : Draft) (name : List ℕ) → Stays before (edits.RemoveNet name)
unfolding changed
remove_net_stays before name after is =
    let place = opened of.Net name (net_place before name) _ after is in
    stays-made before after _ place.2 (same-parts before _ refl refl)

add_terminal_stays : (before : Draft) (net cavity : List ℕ) (when : Formula) → Stays before (edits.AddTerminal net cavity when)
unfolding changed
add_terminal_stays before net cavity when after is =
    let place = opened of.Net net (net_place before net) _ after is in
    stays-made before after _ place.2 (same-parts before _ refl refl)

remove_terminal_stays : (before : Draft) (net cavity : List ℕ) → Stays before (edits.RemoveTerminal net cavity)
unfolding changed
remove_terminal_stays before net cavity after is =
    let place = opened of.Net net (net_place before net) _ after is in
    let inner = opened of.Terminal cavity (terminal_place (net_at before place.0) cavity) _ after place.2 in
    stays-made before after _ inner.2 (same-parts before _ refl refl)

pins_price : (pins : ℕ) (kind : Kind) → price_of (with_pins pins kind) ≡ price_of kind
pins_price pins (Run length) = refl
pins_price pins (Coupler price before) = refl

set_pins_stays : (before : Draft) (name : List ℕ) (pins : ℕ) → Stays before (edits.SetPins name pins)
unfolding changed
set_pins_stays before name pins after is =
    let place = opened of.Segment name (segment_place before name) _ after is in
    let held = required (is_coupler_at before place.0) _ _ after place.2 in
    stays-made before after _ held.1
    (same-but-one before (λ (old : SegmentDraft). record old { kind = with_pins pins old.kind }) place.0
    (λ s. refl) (λ s. refl) (λ s. pins_price pins s.kind) (λ s. refl))

set_when_stays : (before : Draft) (net cavity : List ℕ) (when : Formula) → Stays before (edits.SetWhen net cavity when)
unfolding changed
set_when_stays before net cavity when after is =
    let place = opened of.Net net (net_place before net) _ after is in
    let inner = opened of.Terminal cavity (terminal_place (net_at before place.0) cavity) _ after place.2 in
    stays-made before after _ inner.2 (same-parts before _ refl refl)

set_class_stays : (before : Draft) (name class : List ℕ) → Stays before (edits.SetClass name class)
unfolding changed
set_class_stays before name class after is =
    let place = opened of.Net name (net_place before name) _ after is in
    stays-made before after _ place.2 (same-parts before _ refl refl)

set_reserved_stays : (before : Draft) (name : List ℕ) (reserved : List ℕ) → Stays before (edits.SetReserved name reserved)
unfolding changed
set_reserved_stays before name reserved after is =
    let place = opened of.Segment name (segment_place before name) _ after is in
    let held = required (is_coupler_at before place.0) _ _ after place.2 in
    stays-made before after _ held.1
    (same-but-one before (λ (old : SegmentDraft). record old { reserved = reserved }) place.0
    (λ s. refl) (λ s. refl) (λ s. refl) (λ s. refl))

-- an edit that doesn't forget leaves the ground as it is
edit_stays : (before : Draft) (edit : Edit) → forgets edit ≡ false → Stays before edit
edit_stays before (edits.AddOption name) not = add_option_stays before name
edit_stays before (edits.RemoveOption name) not = remove_option_stays before name
edit_stays before (edits.AddRule when) not = add_rule_stays before when
edit_stays before (edits.RemoveRule number) not = remove_rule_stays before number
edit_stays before (edits.AddNode name harness branch) not = absurd (cc)
edit_stays before (edits.RemoveNode name) not = absurd (cc)
edit_stays before (edits.AddRun name from to length bars) not = absurd (cc)
edit_stays before (edits.AddCoupler name from to price pins bars reserved) not = absurd (cc)
edit_stays before (edits.RemoveSegment name) not = absurd (cc)
edit_stays before (edits.AddCavity name device node) not = add_cavity_stays before name device node
edit_stays before (edits.RemoveCavity name) not = remove_cavity_stays before name
edit_stays before (edits.AddNet name class terminals) not = add_net_stays before name class terminals
edit_stays before (edits.RemoveNet name) not = remove_net_stays before name
edit_stays before (edits.AddTerminal net cavity when) not = add_terminal_stays before net cavity when
edit_stays before (edits.RemoveTerminal net cavity) not = remove_terminal_stays before net cavity
edit_stays before (edits.SetLength name length) not = absurd (cc)
edit_stays before (edits.SetPrice name price) not = absurd (cc)
edit_stays before (edits.SetPins name pins) not = set_pins_stays before name pins
edit_stays before (edits.SetBranch name branch) not = absurd (cc)
edit_stays before (edits.SetWhen net cavity when) not = set_when_stays before net cavity when
edit_stays before (edits.SetClass name class) not = set_class_stays before name class
edit_stays before (edits.SetBars name bars) not = absurd (cc)
edit_stays before (edits.SetReserved name reserved) not = set_reserved_stays before name reserved

-- sameness goes both ways
ground_back : (one other : Draft) → IsSameGround one other → IsSameGround other one
ground_back one other same class = alike_back _ _ (same class)

kept_where : (b : Bool) (before after : Draft) (kept : List KeptTable) → KeptStaysTrue → (b ≡ false → IsSameGround before after)
    → AreTrueOf before kept → AreTrueOf after (if b then [] else kept)
kept_where true before after kept law same holds = λ k d lt. absurd (omega (arith, lt))
kept_where false before after kept law same holds = law before after kept (same refl) holds

-- what stays kept after an edit was made is true of the draft after it
pub made_keeps : (before after : Draft) (edit : Edit) (kept : List KeptTable) → KeptStaysTrue → edited before edit ≡ Ok after
    → AreTrueOf before kept → AreTrueOf after (kept_after edit kept)
made_keeps before after edit kept law made =
    kept_where (forgets edit) before after kept law (λ not. edit_stays before edit not after (made_sound before edit after made))

-- and after it was taken back of the draft before it
pub back_keeps : (before after : Draft) (edit : Edit) (kept : List KeptTable) → KeptStaysTrue → edited before edit ≡ Ok after
    → AreTrueOf after kept → AreTrueOf before (kept_after edit kept)
back_keeps before after edit kept law made =
    kept_where (forgets edit) after before kept law (λ not. ground_back before after (edit_stays before edit not after (made_sound before edit after made)))

-- what came is what a draft was made of
made_from : (old new : Changes) (edit : Edit) → after_edit old edit ≡ Ok new → edited old.draft edit ≡ Ok new.draft
unfolding after_edit
made_from old new edit is =
    let parts = next-parts (edited old.draft edit) _ new is in
    parts.1 ∙ ap Ok (ap (λ (c : Changes). c.draft) (same_Ok _ new parts.2))

module _ (old new : Changes) (edit : Edit) (kept left : List KeptTable) (b : Bool) (law : KeptStaysTrue)
    (tells : b ≡ forgets edit) (left_is : left ≡ (if b then [] else kept)) where
  left-after : left ≡ kept_after edit kept
  left-after = left_is ∙ ap (λ (c : Bool). if c then [] else kept) tells

  -- what is kept is true of a session's draft after an edit, an undoing and a redoing
  pub edit_true : after_edit old edit ≡ Ok new → AreTrueOf old.draft kept → AreTrueOf new.draft left
  edit_true is holds =
      subst (AreTrueOf new.draft) (sym left-after) (made_keeps old.draft new.draft edit kept law (made_from old new edit is) holds)

  pub undo_true : TakesBack old new → option_map (λ (c : Change). c.edit) (last_of old.past) ≡ Some edit
      → AreTrueOf old.draft kept → AreTrueOf new.draft left
  undo_true takes newest holds =
      let same : takes.edit ≡ edit = same_Some takes.edit edit (sym takes.newest ∙ newest) in
      let made : edited new.draft edit ≡ Ok old.draft = subst (λ e. edited new.draft e ≡ Ok old.draft) same takes.leads in
      subst (AreTrueOf new.draft) (sym left-after) (back_keeps new.draft old.draft edit kept law made holds)

  pub redo_true : MakesAgain old new → option_map (λ (c : Change). c.edit) (last_of old.undone) ≡ Some edit
      → AreTrueOf old.draft kept → AreTrueOf new.draft left
  redo_true makes newest holds =
      let same : makes.edit ≡ edit = same_Some makes.edit edit (sym makes.newest ∙ newest) in
      let made : edited old.draft edit ≡ Ok new.draft = subst (λ e. edited old.draft e ≡ Ok new.draft) same makes.leads in
      subst (AreTrueOf new.draft) (sym left-after) (made_keeps old.draft new.draft edit kept law made holds)

no-newest : (newest : Option Change) → option_map (λ (c : Change). c.edit) newest ≡ None → newest ≡ None
no-newest None is = refl
no-newest (Some c) is = absurd (cc)

-- nothing is undone where there is no newest edit, and nothing redone where there is none that was undone
pub none_undone : (changes : Changes) → option_map (λ (c : Change). c.edit) (last_of changes.past) ≡ None → after_undo changes ≡ None
unfolding after_undo
none_undone changes is = ap (option_map _) (no-newest (last_of changes.past) is)

pub none_redone : (changes : Changes) → option_map (λ (c : Change). c.edit) (last_of changes.undone) ≡ None → after_redo changes ≡ None
unfolding after_redo
none_redone changes is = ap (option_map _) (no-newest (last_of changes.undone) is)
