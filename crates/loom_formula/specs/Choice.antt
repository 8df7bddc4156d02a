use Rattle.std.specs.Prelude.{◌≡◌, ℕ, ◌<◌, Bool, true, false, not, IsTrue, List, [], ◌∷◌, ◌++◌, map, Option, Some, None, Result, Ok, Err, if◌then◌else◌, slice_index_or}
use Rattle.std.specs.List.{list_all}
use Rattle.std.specs.Option.{option_map_or}
use Rattle.loom_formula.specs.declared.formula.Formula.{Formula}
use Rattle.loom_formula.specs.declared.choice.Choice.{Choice}
use Rattle.loom_formula.specs.declared.choice.ChoiceFault.{ChoiceFault}
use Rattle.loom_formula.specs.declared.choice.ChoiceFault.TheVariants.{Unknown, Repeated, NoMemory}
use Rattle.loom_formula.specs.Formula.{holds_of}
use Rattle.loom_formula.specs.NameIndex.{has_name}

-- the truth of an option, by its position; past the end of the list an option is false
abbrev pub choice_at : List Bool → ℕ → Bool
choice_at values option = slice_index_or values option false

-- a choice is valid where every rule holds under it
abbrev pub is_valid : List Formula → List (List ℕ) → (ℕ → Bool) → Bool
is_valid rules options choice = list_all (λ rule. holds_of rule options choice) rules

-- one choice is before another where, at the first option in which they differ, it is false and the other true
pub record IsBefore (one other : ℕ → Bool) : Type 0 where
  pub option : ℕ
  pub same : (k : ℕ) → k < option → one k ≡ other k
  pub lower : one option ≡ false
  pub higher : other option ≡ true

-- the least of the choices under which a condition holds
pub record IsLeastChoice (condition : (ℕ → Bool) → Bool) (choice : ℕ → Bool) : Type 0 where
  pub holds : IsTrue (condition choice)
  pub least : (other : ℕ → Bool) → IsTrue (condition other) → ¬ IsBefore other choice

-- the choice in which exactly the named options are true
abbrev pub truth_values : List (List ℕ) → List (List ℕ) → List Bool
truth_values options names = map (has_name names) options

-- the first of the names that isn't an option or came before, where `before` are the names that came before these
abbrev pub first_fault : List (List ℕ) → List (List ℕ) → List (List ℕ) → Option ChoiceFault
first_fault options before [] = None
first_fault options before (name ∷ names) =
    if not (has_name options name) then Some (Unknown name)
    else if has_name before name then Some (Repeated name)
    else first_fault options (before ++ name ∷ []) names

-- the choice that names of options make, each once, or the first fault among the names
abbrev pub choice_of : List (List ℕ) → List (List ℕ) → Result (List Bool) ChoiceFault
choice_of options names = option_map_or Err (first_fault options [] names) (Ok (truth_values options names))

-- a call gave the choice or the fault that the names make, unless memory ran out
abbrev pub GivesChoice : Result Choice ChoiceFault → Result (List Bool) ChoiceFault → Type 0
GivesChoice (Ok choice) made = made ≡ Ok choice.values
GivesChoice (Err (Unknown name)) made = made ≡ Err (Unknown name)
GivesChoice (Err (Repeated name)) made = made ≡ Err (Repeated name)
GivesChoice (Err NoMemory) made = Unit {0}
