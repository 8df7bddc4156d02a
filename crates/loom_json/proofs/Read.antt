use Rattle.std.proofs.Common.{◌≡◌, ℕ, List, Bool, true, false, Some, None, cond, refl}
use Rattle.std.specs.Str.{is_utf8, IsUtf8}
use Rattle.std.proofs.lemmas.Str.{is_utf8-from_IsUtf8, IsUtf8-from_is_utf8}
use Rattle.serde_json.specs.Data.{Data}
use Rattle.serde_json.specs.Read.{read}
use Rattle.loom_json.specs.Text.{read_json}

pub read_json-Some : (bytes : List ℕ) (d : Data) → IsUtf8 bytes → read bytes ≡ Some d → read_json bytes ≡ Some d
read_json-Some bytes d text is = let valid : is_utf8 bytes ≡ true = is_utf8-from_IsUtf8 bytes text in rw valid is

none_at : (bytes : List ℕ) (valid : Bool) → is_utf8 bytes ≡ valid → (IsUtf8 bytes → read bytes ≡ None) → cond valid (read bytes) None ≡ None
none_at bytes true is none = none (IsUtf8-from_is_utf8 bytes is)
none_at bytes false is none = refl

pub read_json-None : (bytes : List ℕ) → (IsUtf8 bytes → read bytes ≡ None) → read_json bytes ≡ None
read_json-None bytes none = none_at bytes _ refl none

pub ruleset readings = (read_json-Some, read_json-None)
