-- What a history holds, and how the past and undone drafts, which it doesn't keep, are seen.
use Rattle.std.specs.Prelude.{◌≡◌, ℕ, ◌≤◌, List, [], ◌∷◌, length, take, drop, reverse, Result, Ok, Err, Some}
use Rattle.loom_project.specs.declared.draft.Draft.{Draft}
use Rattle.loom_project.specs.Sound.{draft_check}
use Rattle.loom_edits.specs.declared.fault.EditFault.{EditFault}
use Rattle.loom_edits.specs.Edits.{edited}
use Rattle.loom_undo.specs.declared.history.Kept.{Kept}
use Rattle.loom_undo.specs.Inverse.{inverse_of, taken_back}
use Rattle.loom_undo.specs.Changes.{Change, Changes}

-- a kept edit leads from a sound draft to another, and its inverse, kept beside it, leads back
pub record IsStep (before : Draft) (k : Kept) (after : Draft) : Type 0 where
  pub sound : draft_check before ≡ Ok tt
  pub made : edited before k.edit ≡ Ok after
  pub inverse : inverse_of before k.edit ≡ Some k.inverse
  pub back : taken_back k.inverse after ≡ before

-- the draft before the first of some edits, where the draft after the last is given
abbrev pub draft_before : List Kept → Draft → Draft
draft_before [] draft = draft
draft_before (k ∷ ks) draft = taken_back k.inverse (draft_before ks draft)

-- the changes that some edits made, where the draft after the last is given
abbrev pub past_of : List Kept → Draft → List Change
past_of [] draft = []
past_of (k ∷ ks) draft = (record { draft = draft_before (k ∷ ks) draft; edit = k.edit }) ∷ past_of ks draft

-- some edits led to the draft, one after another
abbrev pub ArePast : List Kept → Draft → Type 0
ArePast [] draft = Unit {0}
ArePast (k ∷ ks) draft = IsStep (draft_before (k ∷ ks) draft) k (draft_before ks draft) × ArePast ks draft

-- the draft of a result, or another one where it is refused
abbrev pub made_or : Draft → Result Draft EditFault → Draft
made_or other (Ok made) = made
made_or other (Err fault) = other

-- the draft after a kept edit
abbrev pub draft_after : Kept → Draft → Draft
draft_after k draft = made_or draft (edited draft k.edit)

-- the changes that some edits make, one after another, each with the draft after it
abbrev pub ahead_of : List Kept → Draft → List Change
ahead_of [] draft = []
ahead_of (k ∷ ks) draft = (record { draft = draft_after k draft; edit = k.edit }) ∷ ahead_of ks (draft_after k draft)

-- some edits lead on from the draft, one after another
abbrev pub AreAhead : List Kept → Draft → Type 0
AreAhead [] draft = Unit {0}
AreAhead (k ∷ ks) draft = IsStep draft k (draft_after k draft) × AreAhead ks (draft_after k draft)

-- what is seen of a history: so many of its edits stand and led to the draft, the others are undone
abbrev pub changes_of : List Kept → ℕ → Draft → Changes
changes_of kept standing draft = record {
  draft = draft;
  past = past_of (take standing kept) draft;
  undone = reverse (ahead_of (drop standing kept) draft);
}

-- the edits that stand led to the draft, and those that are undone lead on from it
pub record IsHistory (kept : List Kept) (standing : ℕ) (draft : Draft) : Type 0 where
  pub stand : standing ≤ length kept
  pub past : ArePast (take standing kept) draft
  pub ahead : AreAhead (drop standing kept) draft
