use Rattle.std.specs.Prelude.{ℕ, List, ◌∷◌, map}
use Rattle.serde_json.specs.Data.{Data, number, string, unsigned}
use Rattle.loom_json.specs.Fields.{array_of}

-- a whole number
abbrev pub whole : ℕ → Data
whole n = number (unsigned n)

-- an array of whole numbers
abbrev pub numbers : List ℕ → Data
numbers ns = array_of (map whole ns)

-- an array of a word and whole numbers
abbrev pub tagged : List ℕ → List ℕ → Data
tagged tag ns = array_of (string tag ∷ map whole ns)
