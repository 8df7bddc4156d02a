-- Formulas as they are written down.
use Rattle.std.specs.Prelude.{ℕ, suc, List, [], ◌∷◌, length, drop, slice_get, Bool, ◌==◌, nat_le, if◌then◌else◌, Option, Some, None, option_and_then, Result, Ok, Err, decimal, codes}
use Rattle.std.specs.Str.{bytes_eq}
use Rattle.serde_json.specs.Data.{Data, null, boolean, number, string, array, object, Items, no_items, item}
use Rattle.serde_json.specs.Find.{as_str}
use Rattle.loom_json.specs.Fields.{list_of}
use Rattle.loom_base.specs.First.{◌>>=◌}
use Rattle.loom_base.specs.Names.{name_of}
use Rattle.loom_base.specs.declared.limits.TheConstants.{MAX_ELEMENTS}
use Rattle.loom_json.specs.Forms.{required, under, each}
use Rattle.loom_formula.specs.declared.formula.Formula.{Formula}
use Rattle.loom_formula.specs.declared.formula.Formula.TheVariants.{Always, Never, Is, Not, And, Or, One}
use Rattle.loom_formula.specs.declared.formula.Members.{Members, roll-Members}
use Rattle.loom_reader.specs.declared.formula.Connective.{Connective}
use Rattle.loom_reader.specs.declared.formula.Connective.TheVariants.{Negation, Conjunction, Disjunction, ExactlyOne}

-- the connective that a word stands for
abbrev pub connective_of : List ℕ → Option Connective
connective_of word =
    if bytes_eq word (codes "not") then Some Negation
    else (if bytes_eq word (codes "and") then Some Conjunction
    else (if bytes_eq word (codes "or") then Some Disjunction
    else (if bytes_eq word (codes "one") then Some ExactlyOne else None)))

-- the connective that a value's string stands for
abbrev pub connective_in : Data → Option Connective
connective_in d = option_and_then connective_of (as_str d)

-- whether so many elements may be the word and its members: `not` has one member, the others any number
abbrev pub may_have : Connective → ℕ → Bool
may_have Negation count = count == 2
may_have Conjunction count = nat_le count MAX_ELEMENTS
may_have Disjunction count = nat_le count MAX_ELEMENTS
may_have ExactlyOne count = nat_le count MAX_ELEMENTS

-- the connective with which an array of a formula begins
abbrev pub heading_of : List Data → Option Connective
heading_of ds = option_and_then (λ connective. if may_have connective (length ds) then Some connective else None)
    (option_and_then connective_in (slice_get ds 0))

-- the members of a formula, in order
abbrev pub members : List Formula → Members
members formulas = roll-Members (record { list = formulas })

-- the formula that a connective makes of its members
abbrev pub joined : Connective → List Formula → Result Formula (List ℕ)
joined Negation [] = Err []
joined Negation (member ∷ []) = Ok (Not member)
joined Negation (member ∷ next ∷ more) = Err []
joined Conjunction formulas = Ok (And (members formulas))
joined Disjunction formulas = Ok (Or (members formulas))
joined ExactlyOne formulas = Ok (One (members formulas))

-- a formula: a truth value, an option's name, or an array of a word and formulas
abbrev mutual
  pub formula_form : Data → Result Formula (List ℕ)
  formula_form null = Err []
  formula_form (boolean b) = Ok (if b then Always else Never)
  formula_form (number n) = Err []
  formula_form (string s) = required (name_of s) >>= λ name. Ok (Is name)
  formula_form (array no_items) = Err []
  formula_form (array (item first rest)) =
      required (heading_of (first ∷ list_of rest)) >>= λ connective. members_form 1 rest >>= joined connective
  formula_form (object ms) = Err []

  pub members_form : ℕ → Items → Result (List Formula) (List ℕ)
  members_form position no_items = Ok []
  members_form position (item d ds) = do
    formula ← under (decimal position) (formula_form d)
    formulas ← members_form (suc position) ds
    Ok (formula ∷ formulas)

-- the formula of an array's elements
unfoldable pub compound_form : List Data → Result Formula (List ℕ)
compound_form ds = required (heading_of ds) >>= λ connective. each formula_form 1 (drop 1 ds) >>= joined connective
