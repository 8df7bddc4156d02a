-- The entries of a document's edits, as they are written down in the versions of the document.
use Rattle.std.specs.Prelude.{ℕ, List, [], ◌∷◌, Result, Ok, codes}
use Rattle.serde_json.specs.Data.{Data}
use Rattle.serde_json.specs.Find.{as_object}
use Rattle.loom_base.specs.First.{◌>>=◌}
use Rattle.loom_json.specs.Forms.{keyed, at_key, required}
use Rattle.loom_edits.specs.declared.edit.Edit.{Edit}
use Rattle.loom_reader.specs.declared.op.Op.{Op}
use Rattle.loom_reader.specs.declared.op.Op.TheVariants as ops
use Rattle.loom_reader.specs.declared.entry.Entry.{Entry}
use Rattle.loom_reader.specs.declared.entry.Entry.TheVariants.{Change, Price, Undo, Redo}
use Rattle.loom_reader.specs.Ops.{op_form}
use Rattle.loom_reader.specs.Changes.{named_form, rule_form, addition_form, terminal_op_form, setting_form}

-- an entry that tells nothing but its op
abbrev pub bare_form : Entry → Data → Result Entry (List ℕ)
bare_form entry d = keyed (codes "op" ∷ []) d >>= λ checked. Ok entry

-- an entry that is an edit
abbrev pub change_of : Result Edit (List ℕ) → Result Entry (List ℕ)
change_of reading = reading >>= λ edit. Ok (Change edit)

-- the entry of an op
abbrev pub op_entry : ℕ → Op → Data → Result Entry (List ℕ)
op_entry version ops.Price d = bare_form Price d
op_entry version ops.Undo d = bare_form Undo d
op_entry version ops.Redo d = bare_form Redo d
op_entry version (ops.Named op) d = change_of (named_form op d)
op_entry version (ops.OfRule op) d = change_of (rule_form op d)
op_entry version (ops.Add op) d = change_of (addition_form version op d)
op_entry version (ops.OfTerminal op) d = change_of (terminal_op_form op d)
op_entry version (ops.Set op) d = change_of (setting_form op d)

-- an entry: an object whose op is looked at first, since the other keys depend on it
unfoldable pub entry_form : ℕ → Data → Result Entry (List ℕ)
entry_form version d = do
  members ← required (as_object d)
  op ← at_key (op_form version) (codes "op") d
  op_entry version op d
