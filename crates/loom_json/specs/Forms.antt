use Rattle.std.specs.Prelude.{ℕ, suc, List, [], ◌∷◌, ◌++◌, ◌≡◌, length, slice_get, Bool, false, ◌&&◌, ◌==◌, nat_le, if◌then◌else◌, Option, Some, None, option_and_then, Result, Ok, Err, decimal, ⊤}
use Rattle.std.specs.Option.{option_map_or}
use Rattle.std.specs.Str.{bytes_eq}
use Rattle.serde_json.specs.Data.{Data}
use Rattle.serde_json.specs.Find.{get, as_str}
use Rattle.loom_base.specs.First.{◌>>=◌}
use Rattle.loom_base.specs.declared.limits.TheConstants.{MAX_ELEMENTS}
use Rattle.loom_json.specs.Fields.{number_in, name_in, elements_of, has_only}
use Rattle.loom_json.specs.declared.path.ShapeStop.{ShapeStop}
use Rattle.loom_json.specs.declared.path.ShapeStop.TheVariants.{WrongShape, NoMemory}

-- a call gave what the form gives: the value, or the path of the first place that isn't of the form
abbrev pub Gives : {X : Type 0} → Result X ShapeStop → Result X (List ℕ) → Type 0
Gives (Ok x) reading = reading ≡ Ok x
Gives (Err (WrongShape path)) reading = reading ≡ Err path
Gives (Err NoMemory) reading = ⊤

-- the reading of a part, whose places lie below the part
abbrev pub under : {X : Type 0} → List ℕ → Result X (List ℕ) → Result X (List ℕ)
under part (Ok x) = Ok x
under part (Err path) = Err (47 ∷ (part ++ path))

-- what was found, or the place where it was to be
abbrev pub required : {X : Type 0} → Option X → Result X (List ℕ)
required (Some x) = Ok x
required None = Err []

-- a reading of what was found, or the place where it was to be
abbrev pub present : {X : Type 0} → (Data → Result X (List ℕ)) → Option Data → Result X (List ℕ)
present form (Some d) = form d
present form None = Err []

-- a reading of what may be missing
abbrev pub optional : {X : Type 0} → (Data → Result X (List ℕ)) → Option Data → Result (Option X) (List ℕ)
optional form (Some d) = form d >>= λ x. Ok (Some x)
optional form None = Ok None

-- an object that has no key but the listed ones
abbrev pub keyed : List (List ℕ) → Data → Result ⊤ (List ℕ)
keyed keys d = if has_only keys d then Ok tt else Err []

-- the member at a key, read by a form
abbrev pub at_key : {X : Type 0} → (Data → Result X (List ℕ)) → List ℕ → Data → Result X (List ℕ)
at_key form key d = under key (present form (get key d))

-- the member at a key that may be missing, read by a form
abbrev pub at_optional : {X : Type 0} → (Data → Result X (List ℕ)) → List ℕ → Data → Result (Option X) (List ℕ)
at_optional form key d = under key (optional form (get key d))

-- the element at a position, read by a form
abbrev pub at_index : {X : Type 0} → (Data → Result X (List ℕ)) → ℕ → List Data → Result X (List ℕ)
at_index form position ds = under (decimal position) (present form (slice_get ds position))

-- the elements from a position on, each read by a form
abbrev pub each : {X : Type 0} → (Data → Result X (List ℕ)) → ℕ → List Data → Result (List X) (List ℕ)
each form position [] = Ok []
each form position (d ∷ ds) = do
  x ← under (decimal position) (form d)
  xs ← each form (suc position) ds
  Ok (x ∷ xs)

-- the elements of an array that a list may hold
abbrev pub items_in : Data → Option (List Data)
items_in d = option_and_then (λ ds. if nat_le (length ds) MAX_ELEMENTS then Some ds else None) (elements_of d)

-- an array, each element read by a form
abbrev pub list : {X : Type 0} → (Data → Result X (List ℕ)) → Data → Result (List X) (List ℕ)
list form d = required (items_in d) >>= each form 0

-- a name
abbrev pub name_form : Data → Result (List ℕ) (List ℕ)
name_form d = required (name_in d)

-- a whole number from low to high
abbrev pub number_form : ℕ → ℕ → Data → Result ℕ (List ℕ)
number_form low high d = required (number_in low high d)

-- whether a value is the string
abbrev pub is_text : List ℕ → Data → Bool
is_text text d = option_map_or (λ found. bytes_eq found text) (as_str d) false

-- whether there are so many elements, the first of them the tag
abbrev pub is_tagged : List ℕ → ℕ → List Data → Bool
is_tagged tag count ds = (length ds == count) && option_map_or (is_text tag) (slice_get ds 0) false
