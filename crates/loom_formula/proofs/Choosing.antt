-- A choice grows by one named option at a time.
use Rattle.std.proofs.Common.{◌≡◌, ℕ, zero, suc, Bool, true, false, ◌||◌, List, [], ◌∷◌, ◌++◌, length, replicate, Some, bytes_eq, refl, ap, ◌∙◌, subst}
use Rattle.std.specs.List.{slice_get, slice_set, IsDistinct, AllByRecursion}
use Rattle.std.specs.Option.{option_map}
use Rattle.std.proofs.lemmas.List.Folds.{list_any-append}
use Rattle.std.proofs.lemmas.Map.Keys.{IsDistinct-head, IsDistinct-tail}
use Rattle.std.proofs.lemmas.Option.{slice_get-map, same_Some}
use Rattle.std.proofs.lemmas.Slice.Eq.{bytes_eq-Decides}
use Rattle.loom_formula.specs.declared.choice.ChoiceFault.TheVariants.{Unknown, Repeated}
use Rattle.loom_formula.specs.NameIndex.{has_name}
use Rattle.loom_formula.specs.Choice.{truth_values, first_fault}
use Rattle.loom_formula.proofs.NameLemmas.{bytes_eq-flip, differs-at}

or-false : (b : Bool) → (b || false) ≡ b
or-false b = elim b as (λ v. (v || false) ≡ v) [ true ↦ refl | false ↦ refl ]

or-true : (b : Bool) → (b || true) ≡ true
or-true b = elim b as (λ v. (v || true) ≡ true) [ true ↦ refl | false ↦ refl ]

-- a name stands among names and one more where it stood among them or is that one
has_name-push : (names : List (List ℕ)) (name option : List ℕ) → has_name (names ++ name ∷ []) option ≡ (has_name names option || bytes_eq option name)
has_name-push names name option =
    list_any-append (bytes_eq option) names (name ∷ []) ∙ ap (λ b. has_name names option || b) (or-false (bytes_eq option name))

-- without names every option is false
pub truth_values-none : (options : List (List ℕ)) → truth_values options [] ≡ replicate (length options) false
truth_values-none [] = refl
truth_values-none (option ∷ options) = rw (truth_values-none options) refl

-- one more name that is none of these options changes nothing
truth_values-elsewhere : (options names : List (List ℕ)) (name : List ℕ) → AllByRecursion (λ option. bytes_eq name option ≡ false) options → truth_values options (names ++ name ∷ []) ≡ truth_values options names
truth_values-elsewhere [] names name differ = refl
truth_values-elsewhere (option ∷ options) names name differ =
    let here : has_name (names ++ name ∷ []) option ≡ has_name names option =
    has_name-push names name option ∙ ap (λ b. has_name names option || b) (bytes_eq-flip name option differ.0) ∙ or-false (has_name names option) in
    rw (here, truth_values-elsewhere options names name differ.1) refl

-- one more name makes its option true
pub truth_values-push : (options names : List (List ℕ)) (name : List ℕ) (at : ℕ) → IsDistinct bytes_eq options → slice_get options at ≡ Some name → truth_values options (names ++ name ∷ []) ≡ slice_set (truth_values options names) at true
truth_values-push [] names name at distinct found = absurd (cc (found))
truth_values-push (option ∷ options) names name zero distinct found =
    let same : option ≡ name = same_Some option name found in
    let here : has_name (names ++ name ∷ []) option ≡ true =
    has_name-push names name option ∙ ap (λ b. has_name names option || b) ((bytes_eq-Decides option name).1 same) ∙ or-true (has_name names option) in
    let Differ : List ℕ → Type 0 = λ n. AllByRecursion (λ other. bytes_eq n other ≡ false) options in
    let elsewhere = truth_values-elsewhere options names name (subst Differ same (IsDistinct-head bytes_eq option options distinct)) in
    rw (here, elsewhere) refl
truth_values-push (option ∷ options) names name (suc at) distinct found =
    let differ = differs-at options option name at (IsDistinct-head bytes_eq option options distinct) found in
    let here : has_name (names ++ name ∷ []) option ≡ has_name names option =
    has_name-push names name option ∙ ap (λ b. has_name names option || b) differ ∙ or-false (has_name names option) in
    rw (here, truth_values-push options names name at (IsDistinct-tail bytes_eq option options distinct) found) refl

-- the value of a truth_values option
pub truth_values-at : (options names : List (List ℕ)) (name : List ℕ) (at : ℕ) → slice_get options at ≡ Some name → slice_get (truth_values options names) at ≡ Some (has_name names name)
truth_values-at options names name at found = slice_get-map (has_name names) options at ∙ ap (option_map (has_name names)) found

pub first_fault-unknown : (options before : List (List ℕ)) (name : List ℕ) (names : List (List ℕ)) → has_name options name ≡ false → first_fault options before (name ∷ names) ≡ Some (Unknown name)
first_fault-unknown options before name names unknown = rw unknown refl

pub first_fault-repeated : (options before : List (List ℕ)) (name : List ℕ) (names : List (List ℕ)) → has_name options name ≡ true → has_name before name ≡ true → first_fault options before (name ∷ names) ≡ Some (Repeated name)
first_fault-repeated options before name names known repeated = rw (known, repeated) refl

pub first_fault-next : (options before : List (List ℕ)) (name : List ℕ) (names : List (List ℕ)) → has_name options name ≡ true → has_name before name ≡ false → first_fault options before (name ∷ names) ≡ first_fault options (before ++ name ∷ []) names
first_fault-next options before name names known fresh = rw (known, fresh) refl
