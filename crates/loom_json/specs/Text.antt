use Rattle.std.specs.Prelude.{ℕ, List, [], ◌∷◌, ◌++◌, Option, None, if◌then◌else◌}
use Rattle.std.specs.Str.{is_utf8}
use Rattle.serde_json.specs.Data.{Data}
use Rattle.serde_json.specs.Read.{read}
use Rattle.serde_json.specs.Written.{compact_text}

-- the value of a text in UTF-8, nested at most 127 deep
abbrev pub read_json : List ℕ → Option Data
read_json bytes = if is_utf8 bytes then read bytes else None

-- a value's compact text and a newline
abbrev pub line_of : Data → List ℕ
line_of d = compact_text d ++ 10 ∷ []
