use Rattle.std.specs.Prelude.{ℕ, List, [], ◌∷◌, Bool, true, false, ◌&&◌, nat_le, if◌then◌else◌, Option, Some, None, option_map, option_and_then}
use Rattle.loom_base.specs.Names.{name_of}
use Rattle.serde_json.specs.Data.{Data, array, Items, no_items, item, Members, no_members, member}
use Rattle.serde_json.specs.Find.{as_number, as_u64, as_str, as_array, as_object}
use Rattle.serde_json.specs.View.{items_of}
use Rattle.std.specs.List.{list_any}
use Rattle.std.specs.Option.{option_map_or}
use Rattle.std.specs.Str.{bytes_eq}

-- the number, where it is from low to high
abbrev pub within_range : ℕ → ℕ → ℕ → Option ℕ
within_range low high n = if nat_le low n && nat_le n high then Some n else None

-- the whole number that a value is, from low to high
abbrev pub number_in : ℕ → ℕ → Data → Option ℕ
number_in low high d = option_and_then (within_range low high) (option_and_then as_u64 (as_number d))

-- the name that a value's string is
abbrev pub name_in : Data → Option (List ℕ)
name_in d = option_and_then name_of (as_str d)

-- the elements of an array, as a list
abbrev pub list_of : Items → List Data
list_of no_items = []
list_of (item d ds) = d ∷ list_of ds

-- the array of these elements
abbrev pub array_of : List Data → Data
array_of ds = array (items_of ds)

-- the elements that a value's array has
abbrev pub elements_of : Data → Option (List Data)
elements_of d = option_map list_of (as_array d)

-- whether a key is one of the keys
abbrev pub is_among : List (List ℕ) → List ℕ → Bool
is_among keys key = list_any (λ listed. bytes_eq listed key) keys

-- whether each member's key is one of the keys
abbrev pub has_keys_within : List (List ℕ) → Members → Bool
has_keys_within keys no_members = true
has_keys_within keys (member key d ms) = is_among keys key && has_keys_within keys ms

-- whether a value is an object with no key outside the keys
abbrev pub has_only : List (List ℕ) → Data → Bool
has_only keys d = option_map_or (has_keys_within keys) (as_object d) false
