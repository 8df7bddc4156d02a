-- The inverses of the removal of a terminal and of a change of its formula.
use Rattle.std.proofs.Common.{◌≡◌, ℕ, List, slice_get, Some, None, sym, ap, ◌∙◌, bytes_eq}
use Rattle.std.specs.Prelude.{option_map}
use Rattle.std.specs.List.{position}
use Rattle.loom_formula.specs.declared.formula.Formula.{Formula}
use Rattle.loom_project.specs.declared.draft.Draft.{Draft}
use Rattle.loom_project.specs.declared.draft.TerminalDraft.{TerminalDraft}
use Rattle.loom_project.specs.Project.{net_at}
use Rattle.loom_edits.specs.declared.edit.Edit.TheVariants as edits
use Rattle.loom_edits.specs.Places.{net_place, terminal_place}
use Rattle.loom_undo.specs.declared.inverse.Inverse.{Inverse}
use Rattle.loom_undo.specs.declared.inverse.Inverse.TheVariants as inverses
use Rattle.loom_undo.specs.Inverse.{inverse_of, ◌>>?◌}
use Rattle.loom_undo.proofs.Moves.{found_at, found_next}

-- what is made of a terminal of a net that stands there
at_terminal : (draft : Draft) (net cavity : List ℕ) (at k : ℕ) (xs : List TerminalDraft) (x : TerminalDraft) (make : ℕ → ℕ → TerminalDraft → Inverse) → net_place draft net ≡ Some at → xs ≡ (net_at draft at).terminals → position (λ (t : TerminalDraft). bytes_eq cavity t.cavity) xs ≡ Some k → slice_get xs k ≡ Some x → (net_place draft net >>? λ n. terminal_place (net_at draft n) cavity >>? λ t. option_map (make n t) (slice_get (net_at draft n).terminals t)) ≡ Some (make at k x)
at_terminal draft net cavity at k xs x make found same place there =
    let test : TerminalDraft → _ = λ (t : TerminalDraft). bytes_eq cavity t.cavity in
    found_next (net_place draft net) _ at _ found
    (found_at (terminal_place (net_at draft at) cavity) (slice_get (net_at draft at).terminals) (make at) k x (sym (ap (position test) same) ∙ place) (sym (ap (λ ys. slice_get ys k) same) ∙ there))

-- nothing is made where the net has no such terminal
no_terminal : (draft : Draft) (net cavity : List ℕ) (at : ℕ) (xs : List TerminalDraft) (make : ℕ → ℕ → TerminalDraft → Inverse) → net_place draft net ≡ Some at → xs ≡ (net_at draft at).terminals → position (λ (t : TerminalDraft). bytes_eq cavity t.cavity) xs ≡ None → (net_place draft net >>? λ n. terminal_place (net_at draft n) cavity >>? λ t. option_map (make n t) (slice_get (net_at draft n).terminals t)) ≡ None
no_terminal draft net cavity at xs make found same place =
    let test : TerminalDraft → _ = λ (t : TerminalDraft). bytes_eq cavity t.cavity in
    found_next (net_place draft net) _ at None found
    (ap (λ p. p >>? λ t. option_map (make at t) (slice_get (net_at draft at).terminals t)) (sym (ap (position test) same) ∙ place))

pub removal_found : (draft : Draft) (net cavity : List ℕ) (at k : ℕ) (xs : List TerminalDraft) (x : TerminalDraft) → net_place draft net ≡ Some at → xs ≡ (net_at draft at).terminals → position (λ (t : TerminalDraft). bytes_eq cavity t.cavity) xs ≡ Some k → slice_get xs k ≡ Some x → Some (inverses.PutTerminal at k x) ≡ inverse_of draft (edits.RemoveTerminal net cavity)
unfolding inverse_of
removal_found draft net cavity at k xs x found same place there =
    sym (at_terminal draft net cavity at k xs x inverses.PutTerminal found same place there)

pub removal_missed : (draft : Draft) (net cavity : List ℕ) (at : ℕ) (xs : List TerminalDraft) → net_place draft net ≡ Some at → xs ≡ (net_at draft at).terminals → position (λ (t : TerminalDraft). bytes_eq cavity t.cavity) xs ≡ None → None ≡ inverse_of draft (edits.RemoveTerminal net cavity)
unfolding inverse_of
removal_missed draft net cavity at xs found same place =
    sym (no_terminal draft net cavity at xs inverses.PutTerminal found same place)

pub when_found : (draft : Draft) (net cavity : List ℕ) (when : Formula) (at k : ℕ) (xs : List TerminalDraft) (x : TerminalDraft) → net_place draft net ≡ Some at → xs ≡ (net_at draft at).terminals → position (λ (t : TerminalDraft). bytes_eq cavity t.cavity) xs ≡ Some k → slice_get xs k ≡ Some x → Some (inverses.SetWhen at k x.when) ≡ inverse_of draft (edits.SetWhen net cavity when)
unfolding inverse_of
when_found draft net cavity when at k xs x found same place there =
    sym (at_terminal draft net cavity at k xs x (λ n t (o : TerminalDraft). inverses.SetWhen n t o.when) found same place there)

pub when_missed : (draft : Draft) (net cavity : List ℕ) (when : Formula) (at : ℕ) (xs : List TerminalDraft) → net_place draft net ≡ Some at → xs ≡ (net_at draft at).terminals → position (λ (t : TerminalDraft). bytes_eq cavity t.cavity) xs ≡ None → None ≡ inverse_of draft (edits.SetWhen net cavity when)
unfolding inverse_of
when_missed draft net cavity when at xs found same place =
    sym (no_terminal draft net cavity at xs (λ n t (o : TerminalDraft). inverses.SetWhen n t o.when) found same place)
