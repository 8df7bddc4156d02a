-- What is shown is read again.
use Rattle.std.proofs.Common.{◌≡◌, ℕ, suc, ◌≤◌, List, [], ◌∷◌, length, true, Result, Ok, map, refl, ap}
use Rattle.std.specs.List.{All}
use Rattle.std.proofs.lemmas.Bool.{le-leb}
use Rattle.std.proofs.lemmas.List.{length-map}
use Rattle.std.proofs.lemmas.List.Elements.{All-head, All-tail}
use Rattle.serde_json.specs.Data.{Data, number, string, array, unsigned}
use Rattle.serde_json.specs.View.{items_of}
use Rattle.loom_base.specs.Names.{is_name}
use Rattle.loom_base.specs.declared.limits.TheConstants.{MAX_ELEMENTS}
use Rattle.loom_json.specs.Fields.{list_of}
use Rattle.loom_json.specs.Forms.{each, list, name_form, number_form}

-- a thing is read again from what it is shown as
abbrev pub IsReadAgain : {X : Type 0} → (Data → Result X (List ℕ)) → (X → Data) → X → Type 0
IsReadAgain form shows x = form (shows x) ≡ Ok x

pub name_form-string : (bytes : List ℕ) → is_name bytes ≡ true → name_form (string bytes) ≡ Ok bytes
name_form-string bytes named = rw named

pub number_form-number : (low high n : ℕ) → low ≤ n → n ≤ high → number_form low high (number (unsigned n)) ≡ Ok n
number_form-number low high n above below = rw (le-leb low n above, le-leb n high below)

pub each-map : {X : Type 0} (form : Data → Result X (List ℕ)) (shows : X → Data) (position : ℕ) (xs : List X) → All (IsReadAgain form shows) xs → each form position (map shows xs) ≡ Ok xs
each-map form shows position [] again = refl
each-map form shows position (x ∷ xs) again = rw (All-head (IsReadAgain form shows) x xs again, each-map form shows (suc position) xs (All-tail (IsReadAgain form shows) x xs again))

-- the list of an array's elements, made of a list, is that list
pub list_of-items_of : (ds : List Data) → list_of (items_of ds) ≡ ds
list_of-items_of [] = refl
list_of-items_of (d ∷ ds) = ap (λ rest. d ∷ rest) (list_of-items_of ds)

-- a list of things that are each read again is read again
pub list-array : {X : Type 0} (form : Data → Result X (List ℕ)) (shows : X → Data) (xs : List X) → length xs ≤ MAX_ELEMENTS → All (IsReadAgain form shows) xs → list form (array (items_of (map shows xs))) ≡ Ok xs
list-array form shows xs few again = rw (list_of-items_of (map shows xs), length-map xs shows, le-leb (length xs) MAX_ELEMENTS few, each-map form shows 0 xs again)
