-- How the drafts that a history doesn't keep follow from its edits, and what an edit, an undoing and a redoing make of it.
use Rattle.std.proofs.Common.{◌≡◌, ℕ, zero, suc, ◌-◌, List, [], ◌∷◌, ◌++◌, length, take, drop, reverse, slice_get, Some, Ok, refl, sym, ap, subst, ◌∙◌, arith}
use Rattle.std.specs.Prelude.{option_map}
use Rattle.std.proofs.lemmas.List.{take_all, drop_all, reverse-append, length_push}
use Rattle.std.proofs.lemmas.Option.{same_Some, none-some, slice_get_within}
use Rattle.loom_project.specs.declared.draft.Draft.{Draft}
use Rattle.loom_undo.specs.declared.history.Kept.{Kept}
use Rattle.loom_undo.specs.Inverse.{taken_back, without_last}
use Rattle.loom_undo.specs.Changes.{Change, Changes, last_of, after_edit, after_undo, after_redo, TakesBack, MakesAgain}
use Rattle.loom_undo.specs.HistoryInside.{IsStep, draft_before, past_of, ArePast, made_or, draft_after, ahead_of, AreAhead, changes_of, IsHistory}
use Rattle.loom_undo.proofs.Moves.{without_last-push}

draft_before-push : (ks : List Kept) (k : Kept) (d : Draft) → draft_before (ks ++ k ∷ []) d ≡ draft_before ks (taken_back k.inverse d)
draft_before-push [] k d = refl
draft_before-push (j ∷ ks) k d = ap (taken_back j.inverse) (draft_before-push ks k d)

past_of-push : (ks : List Kept) (k : Kept) (d : Draft) → past_of (ks ++ k ∷ []) d ≡ past_of ks (taken_back k.inverse d) ++ (record { draft = taken_back k.inverse d; edit = k.edit }) ∷ []
past_of-push [] k d = refl
past_of-push (j ∷ ks) k d =
    ap (λ (x : Draft). (record { draft = taken_back j.inverse x; edit = j.edit }) ∷ past_of (ks ++ k ∷ []) d) (draft_before-push ks k d)
    ∙ ap (λ xs. (record { draft = draft_before (j ∷ ks) (taken_back k.inverse d); edit = j.edit }) ∷ xs) (past_of-push ks k d)

-- one more edit led to the draft
ArePast-push : (ks : List Kept) (k : Kept) (d : Draft) → ArePast ks (taken_back k.inverse d) → IsStep (taken_back k.inverse d) k d → ArePast (ks ++ k ∷ []) d
ArePast-push [] k d past step = (step, tt)
ArePast-push (j ∷ ks) k d past step =
    (subst (λ (x : Draft). IsStep (taken_back j.inverse x) j x) (sym (draft_before-push ks k d)) past.0, ArePast-push ks k d past.1 step)

-- the last edit led to the draft, and those before it to the draft before
ArePast-last : (ks : List Kept) (k : Kept) (d : Draft) → ArePast (ks ++ k ∷ []) d → ArePast ks (taken_back k.inverse d) × IsStep (taken_back k.inverse d) k d
ArePast-last [] k d past = (tt, past.0)
ArePast-last (j ∷ ks) k d past =
    let rest = ArePast-last ks k d past.1 in
    ((subst (λ (x : Draft). IsStep (taken_back j.inverse x) j x) (draft_before-push ks k d) past.0, rest.0), rest.1)

-- an edit that leads to a draft has that draft after it
after_step : (d : Draft) (k : Kept) (after : Draft) → IsStep d k after → draft_after k d ≡ after
after_step d k after step = ap (made_or d) step.made

take_next : {A : Type 0} (xs : List A) (n : ℕ) (x : A) → slice_get xs n ≡ Some x → take (suc n) xs ≡ take n xs ++ x ∷ []
take_next [] n x is = absurd (none-some x is)
take_next (y ∷ ys) zero x is = ap (λ z. z ∷ []) (same_Some y x is)
take_next (y ∷ ys) (suc n) x is = ap (λ zs. y ∷ zs) (take_next ys n x is)

drop_next : {A : Type 0} (xs : List A) (n : ℕ) (x : A) → slice_get xs n ≡ Some x → drop n xs ≡ x ∷ drop (suc n) xs
drop_next [] n x is = absurd (none-some x is)
drop_next (y ∷ ys) zero x is = ap (λ z. z ∷ ys) (same_Some y x is)
drop_next (y ∷ ys) (suc n) x is = drop_next ys n x is

slice_get-end : {A : Type 0} (xs : List A) (x : A) (i : ℕ) → i ≡ length xs → slice_get (xs ++ x ∷ []) i ≡ Some x
slice_get-end [] x zero is = refl
slice_get-end [] x (suc i) is = absurd (omega arith)
slice_get-end (y ∷ ys) x zero is = absurd (omega arith)
slice_get-end (y ∷ ys) x (suc i) is = slice_get-end ys x i (omega arith)

pub last_of-push : {A : Type 0} (xs : List A) (x : A) → last_of (xs ++ x ∷ []) ≡ Some x
last_of-push xs x = slice_get-end xs x (length (xs ++ x ∷ []) - 1) (omega (arith, length_push xs x))

-- a change
abbrev pub changing : Draft → Kept → Change
changing d k = record { draft = d; edit = k.edit }

undo_parts : (old : Changes) (past : List Change) (x : Change) → old.past ≡ past ++ x ∷ [] → after_undo old ≡ Some (record { draft = x.draft; past = past; undone = old.undone ++ (record { draft = old.draft; edit = x.edit }) ∷ [] })
unfolding after_undo
undo_parts old past x is =
    let step : List Change → Change → Changes = λ xs newest. record { draft = newest.draft; past = without_last xs; undone = old.undone ++ (record { draft = old.draft; edit = newest.edit }) ∷ [] } in
    ap (λ (xs : List Change). option_map (step xs) (last_of xs)) is
    ∙ ap (option_map (step (past ++ x ∷ []))) (last_of-push past x)
    ∙ ap (λ (xs : List Change). Some (record { draft = x.draft; past = xs; undone = old.undone ++ (record { draft = old.draft; edit = x.edit }) ∷ [] })) (without_last-push past x)

redo_parts : (old : Changes) (undone : List Change) (x : Change) → old.undone ≡ undone ++ x ∷ [] → after_redo old ≡ Some (record { draft = x.draft; past = old.past ++ (record { draft = old.draft; edit = x.edit }) ∷ []; undone = undone })
unfolding after_redo
redo_parts old undone x is =
    let step : List Change → Change → Changes = λ xs newest. record { draft = newest.draft; past = old.past ++ (record { draft = old.draft; edit = newest.edit }) ∷ []; undone = without_last xs } in
    ap (λ (xs : List Change). option_map (step xs) (last_of xs)) is
    ∙ ap (option_map (step (undone ++ x ∷ []))) (last_of-push undone x)
    ∙ ap (λ (xs : List Change). Some (record { draft = x.draft; past = old.past ++ (record { draft = old.draft; edit = x.edit }) ∷ []; undone = xs })) (without_last-push undone x)

-- the changes that led to the draft, where the newest of the edits that stand is given
pub past-newest : (ks : List Kept) (n : ℕ) (k : Kept) (d : Draft) → slice_get ks n ≡ Some k → past_of (take (suc n) ks) d ≡ past_of (take n ks) (taken_back k.inverse d) ++ changing (taken_back k.inverse d) k ∷ []
past-newest ks n k d is = ap (λ (xs : List Kept). past_of xs d) (take_next ks n k is) ∙ past_of-push (take n ks) k d

-- the undone changes, where the edit that was undone last is given
ahead-newest : (ks : List Kept) (n : ℕ) (k : Kept) (d after : Draft) → slice_get ks n ≡ Some k → draft_after k d ≡ after → reverse (ahead_of (drop n ks) d) ≡ reverse (ahead_of (drop (suc n) ks) after) ++ changing after k ∷ []
ahead-newest ks n k d after is made =
    ap (λ (xs : List Kept). reverse (ahead_of xs d)) (drop_next ks n k is)
    ∙ ap (λ (x : Draft). reverse (changing x k ∷ ahead_of (drop (suc n) ks) x)) made
    ∙ reverse-append (changing after k ∷ []) (ahead_of (drop (suc n) ks) after)

-- the newest edit that stands led from a sound draft to the present one
pub newest_step : (ks : List Kept) (n : ℕ) (k : Kept) (d : Draft) → IsHistory ks (suc n) d → slice_get ks n ≡ Some k → IsStep (taken_back k.inverse d) k d
newest_step ks n k d h is =
    (ArePast-last (take n ks) k d (subst (λ (xs : List Kept). ArePast xs d) (take_next ks n k is) h.past)).1

-- what an undoing makes of a history, whose edits stay as they are
pub undone : (ks : List Kept) (n : ℕ) (k : Kept) (d : Draft) → IsHistory ks (suc n) d → slice_get ks n ≡ Some k → IsHistory ks n (taken_back k.inverse d)
undone ks n k d h is =
    let parts = ArePast-last (take n ks) k d (subst (λ (xs : List Kept). ArePast xs d) (take_next ks n k is) h.past) in
    let before = taken_back k.inverse d in
    record {
      stand = omega (arith, slice_get_within ks n k is);
      past = parts.0;
      ahead = subst (λ (xs : List Kept). AreAhead xs before) (sym (drop_next ks n k is))
          (subst (λ (x : Draft). IsStep before k x × AreAhead (drop (suc n) ks) x) (sym (after_step before k d parts.1)) (parts.1, h.ahead));
    }

pub undone_changes : (ks : List Kept) (n : ℕ) (k : Kept) (d : Draft) → IsHistory ks (suc n) d → slice_get ks n ≡ Some k → after_undo (changes_of ks (suc n) d) ≡ Some (changes_of ks n (taken_back k.inverse d))
undone_changes ks n k d h is =
    let before = taken_back k.inverse d in
    undo_parts (changes_of ks (suc n) d) (past_of (take n ks) before) (changing before k) (past-newest ks n k d is)
    ∙ ap (λ (xs : List Change). Some (record { draft = before; past = past_of (take n ks) before; undone = xs })) (sym (ahead-newest ks n k before d is (after_step before k d (newest_step ks n k d h is))))

pub undone_edit : (ks : List Kept) (n : ℕ) (k : Kept) (d : Draft) → IsHistory ks (suc n) d → slice_get ks n ≡ Some k → TakesBack (changes_of ks (suc n) d) (changes_of ks n (taken_back k.inverse d))
undone_edit ks n k d h is =
    let before = taken_back k.inverse d in
    record {
      edit = k.edit;
      newest = ap (λ (xs : List Change). option_map (λ (x : Change). x.edit) (last_of xs)) (past-newest ks n k d is) ∙ ap (option_map (λ (x : Change). x.edit)) (last_of-push (past_of (take n ks) before) (changing before k));
      leads = (newest_step ks n k d h is).made;
    }

-- the edit that was undone last leads from the present draft on
pub ahead_step : (ks : List Kept) (n : ℕ) (k : Kept) (d : Draft) → IsHistory ks n d → slice_get ks n ≡ Some k → IsStep d k (draft_after k d)
ahead_step ks n k d h is = (subst (λ (xs : List Kept). AreAhead xs d) (drop_next ks n k is) h.ahead).0

-- what a redoing makes of a history, whose edits stay as they are
pub redone : (ks : List Kept) (n : ℕ) (k : Kept) (d : Draft) → IsHistory ks n d → slice_get ks n ≡ Some k → IsHistory ks (suc n) (draft_after k d)
redone ks n k d h is =
    let ahead = subst (λ (xs : List Kept). AreAhead xs d) (drop_next ks n k is) h.ahead in
    let back = ahead.0.back in
    record {
      stand = omega (arith, slice_get_within ks n k is);
      past = subst (λ (xs : List Kept). ArePast xs (draft_after k d)) (sym (take_next ks n k is))
          (ArePast-push (take n ks) k (draft_after k d) (subst (ArePast (take n ks)) (sym back) h.past)
          (subst (λ (x : Draft). IsStep x k (draft_after k d)) (sym back) ahead.0));
      ahead = ahead.1;
    }

pub redone_changes : (ks : List Kept) (n : ℕ) (k : Kept) (d : Draft) → IsHistory ks n d → slice_get ks n ≡ Some k → after_redo (changes_of ks n d) ≡ Some (changes_of ks (suc n) (draft_after k d))
redone_changes ks n k d h is =
    let after = draft_after k d in
    redo_parts (changes_of ks n d) (reverse (ahead_of (drop (suc n) ks) after)) (changing after k) (ahead-newest ks n k d after is refl)
    ∙ ap (λ (xs : List Change). Some (record { draft = after; past = xs; undone = reverse (ahead_of (drop (suc n) ks) after) }))
    (sym (past-newest ks n k after is ∙ ap (λ (x : Draft). past_of (take n ks) x ++ changing x k ∷ []) (ahead_step ks n k d h is).back))

-- the edit that was undone last is the newest of the undone ones
pub undone_newest : (ks : List Kept) (n : ℕ) (k : Kept) (d : Draft) → slice_get ks n ≡ Some k → option_map (λ (x : Change). x.edit) (last_of (changes_of ks n d).undone) ≡ Some k.edit
undone_newest ks n k d is =
    let after = draft_after k d in
    ap (λ (xs : List Change). option_map (λ (x : Change). x.edit) (last_of xs)) (ahead-newest ks n k d after is refl)
    ∙ ap (option_map (λ (x : Change). x.edit)) (last_of-push (reverse (ahead_of (drop (suc n) ks) after)) (changing after k))

pub redone_edit : (ks : List Kept) (n : ℕ) (k : Kept) (d : Draft) → IsHistory ks n d → slice_get ks n ≡ Some k → MakesAgain (changes_of ks n d) (changes_of ks (suc n) (draft_after k d))
redone_edit ks n k d h is =
    record {
      edit = k.edit;
      newest = undone_newest ks n k d is;
      leads = (ahead_step ks n k d h is).made;
    }

-- what a new edit makes of a history: those that stand are kept, and the new one behind them
pub made_on : (ks : List Kept) (n : ℕ) (k : Kept) (d after : Draft) (all : List Kept) → IsHistory ks n d → IsStep d k after → all ≡ take n ks ++ k ∷ [] → IsHistory all (length all) after
made_on ks n k d after all h step is = record {
  stand = omega arith;
  past = subst (λ (xs : List Kept). ArePast xs after) (sym (take_all (length all) all (omega arith) ∙ is))
      (ArePast-push (take n ks) k after (subst (ArePast (take n ks)) (sym step.back) h.past)
      (subst (λ (x : Draft). IsStep x k after) (sym step.back) step));
  ahead = subst (λ (xs : List Kept). AreAhead xs after) (sym (drop_all (length all) all (omega arith))) tt;
}

pub made_changes : (ks : List Kept) (n : ℕ) (k : Kept) (d after : Draft) (all : List Kept) → IsStep d k after → all ≡ take n ks ++ k ∷ [] → after_edit (changes_of ks n d) k.edit ≡ Ok (changes_of all (length all) after)
unfolding after_edit
made_changes ks n k d after all step is =
    let past = ap (λ (xs : List Kept). past_of xs after) (take_all (length all) all (omega arith) ∙ is) ∙ past_of-push (take n ks) k after ∙ ap (λ (x : Draft). past_of (take n ks) x ++ changing x k ∷ []) step.back in
    let undone = ap (λ (xs : List Kept). reverse (ahead_of xs after)) (drop_all (length all) all (omega arith)) in
    rw step.made (sym (ap (λ (xs : List Change). Ok (record { draft = after; past = xs; undone = reverse (ahead_of (drop (length all) all) after) })) past
    ∙ ap (λ (xs : List Change). Ok (record { draft = after; past = past_of (take n ks) d ++ changing d k ∷ []; undone = xs })) undone))
