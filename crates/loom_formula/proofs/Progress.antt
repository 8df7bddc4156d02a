-- The names that were taken so far.
use Rattle.std.proofs.Common.{◌≡◌, ℕ, ◌+◌, ◌<◌, Bool, true, false, List, [], ◌∷◌, ◌++◌, length, take, drop, get_or, Option, Some, Ok, Err, bytes_eq, sym, ap, ◌∙◌}
use Rattle.std.specs.List.{IsDistinct, slice_get, slice_set}
use Rattle.std.specs.Option.{option_map_or}
use Rattle.std.proofs.lemmas.List.{take_more, drop_more}
use Rattle.std.proofs.lemmas.Option.{get_or_from_slice_get}
use Rattle.loom_formula.specs.declared.choice.ChoiceFault.{ChoiceFault}
use Rattle.loom_formula.specs.declared.choice.ChoiceFault.TheVariants.{Repeated}
use Rattle.loom_formula.specs.NameIndex.{has_name}
use Rattle.loom_formula.specs.Choice.{truth_values, first_fault, choice_of}
use Rattle.loom_formula.proofs.Choosing.{truth_values-at, truth_values-push, first_fault-repeated, first_fault-next}

-- the first names, so many as `count`, have no fault, and the values are the choice that they make
pub record HasTaken (options names : List (List ℕ)) (count : ℕ) (values : List Bool) : Type 0 where
  pub each_once : IsDistinct bytes_eq options
  pub made : values ≡ truth_values options (take count names)
  pub same_fault : first_fault options (take count names) (drop count names) ≡ first_fault options [] names

module _ (options names : List (List ℕ)) (count : ℕ) (values : List Bool) (name : List ℕ) (at : ℕ) (taken : HasTaken options names count values) (within : count < length names) (here : name ≡ get_or names count name) (known : has_name options name ≡ true) (stored : slice_get options at ≡ Some name) where
  -- the names that are left
  left : drop count names ≡ name ∷ drop (count + 1) names
  left = drop_more names count name within ∙ ap (λ n. n ∷ drop (count + 1) names) (sym here)

  -- the names that came before and this one
  more : take (count + 1) names ≡ take count names ++ name ∷ []
  more = take_more names count name within ∙ ap (λ n. take count names ++ n ∷ []) (sym here)

  -- whether the name came before is the value of its option
  came_before : (value : Bool) → get_or values at false ≡ value → has_name (take count names) name ≡ value
  came_before value read =
      sym (get_or_from_slice_get values at (has_name (take count names) name) false
      (ap (λ vs. slice_get vs at) taken.made ∙ truth_values-at options (take count names) name at stored)) ∙ read

  pub refused_as_repeated : get_or values at false ≡ true → choice_of options names ≡ Err (Repeated name)
  refused_as_repeated read =
      let fault : first_fault options [] names ≡ Some (Repeated name) =
      sym taken.same_fault ∙ ap (first_fault options (take count names)) left
      ∙ first_fault-repeated options (take count names) name (drop (count + 1) names) known (came_before true read) in
      ap (λ (f : Option ChoiceFault). option_map_or Err f (Ok (truth_values options names))) fault

  pub taken_more : get_or values at false ≡ false → HasTaken options names (count + 1) (slice_set values at true)
  taken_more read = record {
    each_once = taken.each_once;
    made = ap (λ vs. slice_set vs at true) taken.made
        ∙ sym (truth_values-push options (take count names) name at taken.each_once stored)
        ∙ ap (truth_values options) (sym more);
    same_fault = ap (λ before. first_fault options before (drop (count + 1) names)) more
        ∙ sym (first_fault-next options (take count names) name (drop (count + 1) names) known (came_before false read))
        ∙ sym (ap (first_fault options (take count names)) left)
        ∙ taken.same_fault;
  }
