-- What the calls of a history owe, in the words of its fields.
use Rattle.std.proofs.Common.{◌≡◌, ◌≢◌, ℕ, zero, suc, ◌+◌, ◌≤◌, get_or, List, [], ◌∷◌, ◌++◌, length, take, drop, slice_get, Some, None, Result, Ok, Err, refl, sym, ap, subst, ◌∙◌, arith, rules}
use Rattle.std.specs.Prelude.{option_map, option_and_then, IsSome, IsOk}
use Rattle.std.proofs.lemmas.Option.{same_Some, none-some, slice_get-get_or}
use Rattle.loom_base.specs.First.{◌>>=◌}
use Rattle.loom_base.proofs.EachLemmas.{next-parts}
use Rattle.loom_project.specs.declared.draft.Draft.{Draft}
use Rattle.loom_project.specs.Sound.{draft_check}
use Rattle.loom_edits.specs.declared.edit.Edit.{Edit}
use Rattle.loom_edits.specs.declared.fault.EditFault.{EditFault}
use Rattle.loom_edits.specs.Edits.{changed, edited, if_sound, sound}
use Rattle.loom_undo.specs.declared.history.Kept.{Kept}
use Rattle.loom_undo.specs.declared.inverse.Inverse.{Inverse}
use Rattle.loom_undo.specs.Inverse.{taken_back, inverse_of, without_last}
use Rattle.loom_undo.specs.Changes.{Change, Changes, last_of, after_edit, after_undo, after_redo, newest_inverse, TakesBack, MakesAgain}
use Rattle.loom_undo.specs.HistoryInside.{IsStep, past_of, made_or, draft_after, changes_of, IsHistory}
use Rattle.loom_undo.proofs.Moves.{passed}
use Rattle.loom_undo.proofs.TakenBack.{edit_back}
use Rattle.loom_undo.proofs.Walks.{undone, undone_changes, undone_edit, redone, redone_changes, redone_edit, undone_newest, newest_step, ahead_step, made_on, made_changes, last_of-push, past-newest, changing}

-- an edit that leads to a sound draft makes it
pub made_sound : (before : Draft) (edit : Edit) (after : Draft) → edited before edit ≡ Ok after → changed before edit ≡ Ok after
unfolding edited
made_sound before edit after is =
    let parts = next-parts (changed before edit) if_sound after is in
    parts.1 ∙ passed (sound (draft_check parts.0)) (Ok parts.0) after parts.2

pub has_inverse : (before : Draft) (edit : Edit) (after : Draft) → edited before edit ≡ Ok after → IsSome (inverse_of before edit)
has_inverse before edit after is =
    subst IsSome (sym (edit_back before edit after (made_sound before edit after is)).found) (search rules)

-- an edit with its inverse leads on, and its inverse back
pub is_step : (before after : Draft) (k : Kept) (edit : Edit) → draft_check before ≡ Ok tt → edited before edit ≡ Ok after → k.edit ≡ edit → inverse_of before edit ≡ Some k.inverse → IsStep before k after
is_step before after k edit sound made same found =
    let law = edit_back before edit after (made_sound before edit after made) in
    record {
      sound = sound;
      made = ap (edited before) same ∙ made;
      inverse = ap (inverse_of before) same ∙ found;
      back = ap (λ (x : Inverse). taken_back x after) (same_Some k.inverse law.inverse (sym found ∙ law.found)) ∙ law.back;
    }

pub edit_keeps : (ks : List Kept) (s : ℕ) (d after : Draft) (k : Kept) (all : List Kept) (n : ℕ) → IsHistory ks s d → IsStep d k after → all ≡ take s ks ++ k ∷ [] → n ≡ length all → IsHistory all n after
edit_keeps ks s d after k all n h step is count =
    subst (λ (m : ℕ). IsHistory all m after) (sym count) (made_on ks s k d after all h step is)

pub edit_moves : (ks : List Kept) (s : ℕ) (d after : Draft) (k : Kept) (edit : Edit) (all : List Kept) (n : ℕ) (old : Changes) → changes_of ks s d ≡ old → IsStep d k after → k.edit ≡ edit → all ≡ take s ks ++ k ∷ [] → n ≡ length all → after_edit old edit ≡ Ok (changes_of all n after)
edit_moves ks s d after k edit all n old seen step same is count =
    ap (λ (x : Changes). after_edit x edit) (sym seen)
    ∙ ap (after_edit (changes_of ks s d)) (sym same)
    ∙ made_changes ks s k d after all step is
    ∙ ap (λ (m : ℕ). Ok (changes_of all m after)) (sym count)

pub edit_fails : (ks : List Kept) (s : ℕ) (d : Draft) (edit : Edit) (old : Changes) (fault : EditFault) → changes_of ks s d ≡ old → edited d edit ≡ Err fault → after_edit old edit ≡ Err fault
unfolding after_edit
edit_fails ks s d edit old fault seen is =
    ap (λ (x : Changes). after_edit x edit) (sym seen)
    ∙ ap (λ (r : Result Draft EditFault). r >>= λ (after : Draft). Ok (record { draft = after; past = (changes_of ks s d).past ++ (record { draft = d; edit = edit }) ∷ []; undone = [] })) is

pub undo_sound : (ks : List Kept) (s n : ℕ) (k : Kept) (d : Draft) → s ≡ suc n → IsHistory ks s d → slice_get ks n ≡ Some k → draft_check (taken_back k.inverse d) ≡ Ok tt
undo_sound ks s n k d is h there = (newest_step ks n k d (subst (λ (m : ℕ). IsHistory ks m d) is h) there).sound

pub undo_keeps : (ks : List Kept) (s n : ℕ) (k : Kept) (d after : Draft) → s ≡ suc n → IsHistory ks s d → slice_get ks n ≡ Some k → after ≡ taken_back k.inverse d → IsHistory ks n after
undo_keeps ks s n k d after is h there made =
    subst (IsHistory ks n) (sym made) (undone ks n k d (subst (λ (m : ℕ). IsHistory ks m d) is h) there)

pub undo_moves : (ks : List Kept) (s n : ℕ) (k : Kept) (d after : Draft) (old : Changes) → changes_of ks s d ≡ old → s ≡ suc n → IsHistory ks s d → slice_get ks n ≡ Some k → after ≡ taken_back k.inverse d → after_undo old ≡ Some (changes_of ks n after)
undo_moves ks s n k d after old seen is h there made =
    ap after_undo (sym seen)
    ∙ ap (λ (m : ℕ). after_undo (changes_of ks m d)) is
    ∙ undone_changes ks n k d (subst (λ (m : ℕ). IsHistory ks m d) is h) there
    ∙ ap (λ (x : Draft). Some (changes_of ks n x)) (sym made)

pub undo_leads : (ks : List Kept) (s n : ℕ) (k : Kept) (d after : Draft) (old : Changes) → changes_of ks s d ≡ old → s ≡ suc n → IsHistory ks s d → slice_get ks n ≡ Some k → after ≡ taken_back k.inverse d → TakesBack old (changes_of ks n after)
undo_leads ks s n k d after old seen is h there made =
    let seen_at : changes_of ks (suc n) d ≡ old = ap (λ (m : ℕ). changes_of ks m d) (sym is) ∙ seen in
    subst (λ (x : Draft). TakesBack old (changes_of ks n x)) (sym made)
    (subst (λ (x : Changes). TakesBack x (changes_of ks n (taken_back k.inverse d))) seen_at (undone_edit ks n k d (subst (λ (m : ℕ). IsHistory ks m d) is h) there))

pub undo_none : (ks : List Kept) (s : ℕ) (d : Draft) (old : Changes) → changes_of ks s d ≡ old → s ≡ 0 → after_undo old ≡ None
unfolding after_undo
undo_none ks s d old seen is = ap after_undo (sym seen) ∙ ap (λ (m : ℕ). after_undo (changes_of ks m d)) is

after_is : (k : Kept) (d after : Draft) → edited d k.edit ≡ Ok after → draft_after k d ≡ after
after_is k d after made = ap (made_or d) made

pub redo_made : (ks : List Kept) (s : ℕ) (k : Kept) (d : Draft) → IsHistory ks s d → slice_get ks s ≡ Some k → IsOk (edited d k.edit)
redo_made ks s k d h there = subst IsOk (sym (ahead_step ks s k d h there).made) (search rules)

pub redo_keeps : (ks : List Kept) (s : ℕ) (k : Kept) (d after : Draft) → IsHistory ks s d → slice_get ks s ≡ Some k → edited d k.edit ≡ Ok after → IsHistory ks (s + 1) after
redo_keeps ks s k d after h there made =
    subst (λ (m : ℕ). IsHistory ks m after) (omega arith)
    (subst (IsHistory ks (suc s)) (after_is k d after made) (redone ks s k d h there))

pub redo_moves : (ks : List Kept) (s : ℕ) (k : Kept) (d after : Draft) (old : Changes) → changes_of ks s d ≡ old → IsHistory ks s d → slice_get ks s ≡ Some k → edited d k.edit ≡ Ok after → after_redo old ≡ Some (changes_of ks (s + 1) after)
redo_moves ks s k d after old seen h there made =
    let count : suc s ≡ s + 1 = omega arith in
    ap after_redo (sym seen)
    ∙ redone_changes ks s k d h there
    ∙ ap (λ (x : Draft). Some (changes_of ks (suc s) x)) (after_is k d after made)
    ∙ ap (λ (m : ℕ). Some (changes_of ks m after)) count

pub redo_leads : (ks : List Kept) (s : ℕ) (k : Kept) (d after : Draft) (old : Changes) → changes_of ks s d ≡ old → IsHistory ks s d → slice_get ks s ≡ Some k → edited d k.edit ≡ Ok after → MakesAgain old (changes_of ks (s + 1) after)
redo_leads ks s k d after old seen h there made =
    let count : suc s ≡ s + 1 = omega arith in
    subst (λ (m : ℕ). MakesAgain old (changes_of ks m after)) count
    (subst (λ (x : Draft). MakesAgain old (changes_of ks (suc s) x)) (after_is k d after made)
    (subst (λ (x : Changes). MakesAgain x (changes_of ks (suc s) (draft_after k d))) seen (redone_edit ks s k d h there)))

drop_none : {A : Type 0} (xs : List A) (n : ℕ) → slice_get xs n ≡ None → drop n xs ≡ []
drop_none [] zero is = refl
drop_none [] (suc n) is = refl
drop_none (y ∷ ys) zero is = absurd (none-some y (sym is))
drop_none (y ∷ ys) (suc n) is = drop_none ys n is

-- nothing is undone where no edit lies ahead
nothing_undone : (ks : List Kept) (s : ℕ) (d : Draft) (old : Changes) → changes_of ks s d ≡ old → slice_get ks s ≡ None → old.undone ≡ []
nothing_undone ks s d old seen none = ap (λ (x : Changes). x.undone) (sym seen) ∙ rw (drop_none ks s none) refl

pub redo_none : (ks : List Kept) (s : ℕ) (d : Draft) (old : Changes) → changes_of ks s d ≡ old → slice_get ks s ≡ None → after_redo old ≡ None
unfolding after_redo
redo_none ks s d old seen none =
    let next : Change → Changes = λ newest. record { draft = newest.draft; past = old.past ++ (record { draft = old.draft; edit = newest.edit }) ∷ []; undone = without_last old.undone } in
    ap (λ (xs : List Change). option_map next (last_of xs)) (nothing_undone ks s d old seen none)

-- the newest of the past changes, where an edit stands
newest_change : (ks : List Kept) (s n : ℕ) (k : Kept) (d : Draft) (old : Changes) → changes_of ks s d ≡ old → s ≡ suc n → slice_get ks n ≡ Some k → last_of old.past ≡ Some (changing (taken_back k.inverse d) k)
newest_change ks s n k d old seen is there =
    ap (λ (x : Changes). last_of x.past) (sym seen)
    ∙ ap (λ (m : ℕ). last_of (past_of (take m ks) d)) is
    ∙ ap (λ (xs : List Change). last_of xs) (past-newest ks n k d there)
    ∙ last_of-push (past_of (take n ks) (taken_back k.inverse d)) (changing (taken_back k.inverse d) k)

no_past : (ks : List Kept) (s : ℕ) (d : Draft) (old : Changes) → changes_of ks s d ≡ old → s ≡ 0 → last_of old.past ≡ None
no_past ks s d old seen is =
    ap (λ (x : Changes). last_of x.past) (sym seen) ∙ ap (λ (m : ℕ). last_of (past_of (take m ks) d)) is

pub newest_is : (ks : List Kept) (s n : ℕ) (k : Kept) (d : Draft) (old : Changes) → changes_of ks s d ≡ old → s ≡ suc n → slice_get ks n ≡ Some k → Some k.edit ≡ option_map (λ (change : Change). change.edit) (last_of old.past)
newest_is ks s n k d old seen is there =
    sym (ap (option_map (λ (change : Change). change.edit)) (newest_change ks s n k d old seen is there))

pub newest_none : (ks : List Kept) (s : ℕ) (d : Draft) (old : Changes) → changes_of ks s d ≡ old → s ≡ 0 → None ≡ option_map (λ (change : Change). change.edit) (last_of old.past)
newest_none ks s d old seen is =
    sym (ap (option_map (λ (change : Change). change.edit)) (no_past ks s d old seen is))

pub undone_is : (ks : List Kept) (s : ℕ) (k : Kept) (d : Draft) (old : Changes) → changes_of ks s d ≡ old → slice_get ks s ≡ Some k → Some k.edit ≡ option_map (λ (change : Change). change.edit) (last_of old.undone)
undone_is ks s k d old seen there =
    sym (ap (λ (x : Changes). option_map (λ (change : Change). change.edit) (last_of x.undone)) (sym seen) ∙ undone_newest ks s k d there)

pub undone_none : (ks : List Kept) (s : ℕ) (d : Draft) (old : Changes) → changes_of ks s d ≡ old → slice_get ks s ≡ None → None ≡ option_map (λ (change : Change). change.edit) (last_of old.undone)
undone_none ks s d old seen none =
    sym (ap (λ (xs : List Change). option_map (λ (change : Change). change.edit) (last_of xs)) (nothing_undone ks s d old seen none))

pub last_is : (ks : List Kept) (s n : ℕ) (k : Kept) (d : Draft) (old : Changes) → changes_of ks s d ≡ old → s ≡ suc n → IsHistory ks s d → slice_get ks n ≡ Some k → Some k.inverse ≡ newest_inverse old
unfolding newest_inverse
last_is ks s n k d old seen is h there =
    sym (ap (option_and_then (λ (newest : Change). inverse_of newest.draft newest.edit)) (newest_change ks s n k d old seen is there)
    ∙ (newest_step ks n k d (subst (λ (m : ℕ). IsHistory ks m d) is h) there).inverse)

pub last_none : (ks : List Kept) (s : ℕ) (d : Draft) (old : Changes) → changes_of ks s d ≡ old → s ≡ 0 → None ≡ newest_inverse old
unfolding newest_inverse
last_none ks s d old seen is =
    sym (ap (option_and_then (λ (newest : Change). inverse_of newest.draft newest.edit)) (no_past ks s d old seen is))

-- the edit that stands last is among those kept
pub stands_at : (ks xs : List Kept) (s n : ℕ) (x : Kept) → xs ≡ ks → s ≡ suc n → s ≤ length ks → slice_get ks n ≡ Some (get_or xs n x)
stands_at ks xs s n x same is within =
    subst (λ (ys : List Kept). slice_get ks n ≡ Some (get_or ys n x)) (sym same) (slice_get-get_or ks n x (omega arith))

-- the edit that was undone last is among those kept
pub ahead_at : (ks xs : List Kept) (s : ℕ) (x : Kept) → xs ≡ ks → s ≤ length ks → s ≢ length ks → x ≡ get_or xs s x → slice_get ks s ≡ Some x
ahead_at ks xs s x same within apart is =
    subst (λ (ys : List Kept). slice_get ks s ≡ Some (get_or ys s x)) (sym same) (slice_get-get_or ks s x (omega (arith, apart))) ∙ ap Some (sym is)

pub stands_is : (ks xs : List Kept) (s n : ℕ) (x : Kept) → xs ≡ ks → s ≡ suc n → s ≤ length ks → x ≡ get_or xs n x → slice_get ks n ≡ Some x
stands_is ks xs s n x same one within is = stands_at ks xs s n x same one within ∙ ap Some (sym is)
