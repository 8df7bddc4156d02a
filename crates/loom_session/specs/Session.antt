-- A session, and what an edit, an undoing and a redoing make of it.
use Rattle.std.specs.Prelude.{◌≡◌, ℕ, List, Some, Ok, option_map}
use Rattle.loom_edits.specs.declared.edit.Edit.{Edit}
use Rattle.loom_undo.specs.Changes.{Changes, after_edit, after_undo, after_redo, last_of}
use Rattle.loom_laid.specs.Kept.{KeptTable}
use Rattle.loom_session.specs.Forgets.{kept_after}

-- what contracts see of a session: the present draft with its past and its undone changes, the tables and layouts that are kept,
-- and how many tables were worked out so far
pub record SessionView : Type 0 where
  pub changes : Changes
  pub kept : List KeptTable
  pub built : ℕ

-- an edit was made; what is kept stays, unless the edit changes what it rests on
pub record IsEdited (old : SessionView) (edit : Edit) (new : SessionView) : Type 0 where
  pub changes : after_edit old.changes edit ≡ Ok new.changes
  pub kept : new.kept ≡ kept_after edit old.kept
  pub built : new.built ≡ old.built

-- the newest edit was taken back
pub record IsUndone (old new : SessionView) : Type 0 where
  pub changes : after_undo old.changes ≡ Some new.changes
  pub edit : Edit
  pub newest : option_map (λ change. change.edit) (last_of old.changes.past) ≡ Some edit
  pub kept : new.kept ≡ kept_after edit old.kept
  pub built : new.built ≡ old.built

-- the edit that was undone last was made again
pub record IsRedone (old new : SessionView) : Type 0 where
  pub changes : after_redo old.changes ≡ Some new.changes
  pub edit : Edit
  pub newest : option_map (λ change. change.edit) (last_of old.changes.undone) ≡ Some edit
  pub kept : new.kept ≡ kept_after edit old.kept
  pub built : new.built ≡ old.built
