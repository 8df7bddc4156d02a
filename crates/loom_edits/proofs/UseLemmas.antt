-- A formula names an option where one of its members does.
use Rattle.std.proofs.Common.{◌≡◌, ℕ, List, [], ◌∷◌, Bool, ◌||◌, refl, ap, ◌∙◌, bytes_eq}
use Rattle.std.specs.List.{list_any, flat_map}
use Rattle.std.proofs.lemmas.List.Folds.{list_any-append}
use Rattle.loom_formula.specs.declared.formula.Formula.TheVariants.{And, Or, One}
use Rattle.loom_formula.specs.declared.formula.Members.{Members}
use Rattle.loom_formula.specs.Formula.{members_of}
use Rattle.loom_formula.specs.NameIndex.{has_name}
use Rattle.loom_project.specs.Draft.{option_names}
use Rattle.loom_project.proofs.FormulaLemmas.{option_names-And, option_names-Or, option_names-One}
use Rattle.loom_edits.specs.Uses.{names_option}

any_of_lists : {X Y : Type 0} (p : Y → Bool) (f : X → List Y) (xs : List X) → list_any p (flat_map f xs) ≡ list_any (λ x. list_any p (f x)) xs
any_of_lists p f [] = refl
any_of_lists p f (x ∷ xs) = list_any-append p (f x) (flat_map f xs) ∙ ap (λ b. list_any p (f x) || b) (any_of_lists p f xs)

module _ (name : List ℕ) (members : Members) where
  pub names-And : names_option name (And members) ≡ list_any (names_option name) (members_of members)
  names-And =
      ap (λ names. has_name names name) (option_names-And members) ∙ any_of_lists (bytes_eq name) option_names (members_of members)

  pub names-Or : names_option name (Or members) ≡ list_any (names_option name) (members_of members)
  names-Or =
      ap (λ names. has_name names name) (option_names-Or members) ∙ any_of_lists (bytes_eq name) option_names (members_of members)

  pub names-One : names_option name (One members) ≡ list_any (names_option name) (members_of members)
  names-One =
      ap (λ names. has_name names name) (option_names-One members) ∙ any_of_lists (bytes_eq name) option_names (members_of members)

pub ruleset member_names = (names-And, names-Or, names-One)
