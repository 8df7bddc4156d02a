-- A draft with its past and its undone changes, and what an edit, an undoing and a redoing make of it.
use Rattle.std.specs.Prelude.{◌≡◌, ◌-◌, List, [], ◌∷◌, ◌++◌, length, Option, Some, option_map, option_and_then, slice_get, Result, Ok}
use Rattle.loom_base.specs.First.{◌>>=◌}
use Rattle.loom_project.specs.declared.draft.Draft.{Draft}
use Rattle.loom_edits.specs.declared.edit.Edit.{Edit}
use Rattle.loom_edits.specs.declared.fault.EditFault.{EditFault}
use Rattle.loom_edits.specs.Edits.{edited}
use Rattle.loom_undo.specs.declared.inverse.Inverse.{Inverse}
use Rattle.loom_undo.specs.Inverse.{without_last, inverse_of}

-- an edit, with the draft before it where it is past, with the draft after it where it is undone
pub record Change : Type 0 where
  pub draft : Draft
  pub edit : Edit

-- the present draft, the changes that led to it and those that were undone, each with the newest last
pub record Changes : Type 0 where
  pub draft : Draft
  pub past : List Change
  pub undone : List Change

-- the last element
abbrev pub last_of : {A : Type 0} → List A → Option A
last_of xs = slice_get xs (length xs - 1)

-- an edit: the present draft goes last onto the past, and what was undone is forgotten; or the first cause why it is refused
unfoldable pub after_edit : Changes → Edit → Result Changes EditFault
after_edit changes edit = edited changes.draft edit >>= λ after. Ok (record {
  draft = after;
  past = changes.past ++ (record { draft = changes.draft; edit = edit }) ∷ [];
  undone = [];
})

-- an undoing: the present draft goes last onto the undone ones, and the last past one is the present; none where there is none
unfoldable pub after_undo : Changes → Option Changes
after_undo changes = option_map (λ newest. record {
  draft = newest.draft;
  past = without_last changes.past;
  undone = changes.undone ++ (record { draft = changes.draft; edit = newest.edit }) ∷ [];
}) (last_of changes.past)

-- a redoing: the present draft goes last onto the past, and the last undone one is the present; none where there is none
unfoldable pub after_redo : Changes → Option Changes
after_redo changes = option_map (λ newest. record {
  draft = newest.draft;
  past = changes.past ++ (record { draft = changes.draft; edit = newest.edit }) ∷ [];
  undone = without_last changes.undone;
}) (last_of changes.undone)

-- the inverse of the newest edit that isn't undone
unfoldable pub newest_inverse : Changes → Option Inverse
newest_inverse changes = option_and_then (λ newest. inverse_of newest.draft newest.edit) (last_of changes.past)

-- the edit that an undoing takes back is the newest of the past, and leads from the present draft to the one before the undoing
pub record TakesBack (old new : Changes) : Type 0 where
  pub edit : Edit
  pub newest : option_map (λ change. change.edit) (last_of old.past) ≡ Some edit
  pub leads : edited new.draft edit ≡ Ok old.draft

-- the edit that a redoing makes again is the newest of the undone ones, and leads from the draft before the redoing to the present one
pub record MakesAgain (old new : Changes) : Type 0 where
  pub edit : Edit
  pub newest : option_map (λ change. change.edit) (last_of old.undone) ≡ Some edit
  pub leads : edited old.draft edit ≡ Ok new.draft
