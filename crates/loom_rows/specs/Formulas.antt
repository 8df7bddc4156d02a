use Rattle.std.specs.Prelude.{ℕ, true, false, List, [], ◌∷◌, ◌++◌, ◌==◌, count_by}
use Rattle.std.specs.List.{list_all, list_any}
use Rattle.loom_formula.specs.declared.formula.Formula.{Formula}
use Rattle.loom_formula.specs.declared.formula.Formula.TheOpen.{Formula-F}
use Rattle.loom_formula.specs.declared.formula.Formula.TheFolds.{fold-Formula}
use Rattle.loom_formula.specs.Formula.{is_chosen, holds_of}
use Rattle.loom_rows.specs.Condition.{Meaning, both, either, negation}

abbrev pub never : Meaning
never c = false

abbrev pub always : Meaning
always c = true

-- the conditions that are worked out for a formula, in order, and the condition that it is
pub record Work : Type 0 where
  pub worked : List Meaning
  pub meaning : Meaning

-- for each member, those of the member, then the conjunction of the members so far
abbrev pub all_work : Meaning → List Work → Work
all_work so_far [] = record { worked = []; meaning = so_far }
all_work so_far (member ∷ members) =
    let next = both so_far member.meaning in
    let rest = all_work next members in
    record { worked = (member.worked ++ next ∷ []) ++ rest.worked; meaning = rest.meaning }

-- for each member, those of the member, then the disjunction of the members so far
abbrev pub any_work : Meaning → List Work → Work
any_work so_far [] = record { worked = []; meaning = so_far }
any_work so_far (member ∷ members) =
    let next = either so_far member.meaning in
    let rest = any_work next members in
    record { worked = (member.worked ++ next ∷ []) ++ rest.worked; meaning = rest.meaning }

-- exactly one of these and of a further member: exactly one of these and not that, or none of these and that
abbrev pub one_next : Meaning → Meaning → Meaning → Meaning
one_next one none member = either (both one (negation member)) (both none member)

abbrev pub none_next : Meaning → Meaning → Meaning
none_next none member = both none (negation member)

-- what is worked out of a member, where `one` says that exactly one of the earlier members holds and `none` that none does
abbrev pub one_worked : Meaning → Meaning → Meaning → List Meaning
one_worked one none member =
    negation member ∷ both one (negation member) ∷ both none member ∷ one_next one none member ∷ none_next none member ∷ []

abbrev pub one_work : Meaning → Meaning → List Work → Work
one_work one none [] = record { worked = []; meaning = one }
one_work one none (member ∷ members) =
    let rest = one_work (one_next one none member.meaning) (none_next none member.meaning) members in
    record { worked = (member.worked ++ one_worked one none member.meaning) ++ rest.worked; meaning = rest.meaning }

-- always and never need no work, an option is its own, and a formula round others is worked out after them
abbrev pub work_step : List (List ℕ) → Formula-F Work (List Work) → Work
work_step options Formula-F.Always = record { worked = []; meaning = always }
work_step options Formula-F.Never = record { worked = []; meaning = never }
work_step options (Formula-F.Is name) =
    let named : Meaning = λ c. is_chosen options c name in
    record { worked = named ∷ []; meaning = named }
work_step options (Formula-F.Not inner) = record { worked = inner.worked ++ negation inner.meaning ∷ []; meaning = negation inner.meaning }
work_step options (Formula-F.And members) = all_work always members
work_step options (Formula-F.Or members) = any_work never members
work_step options (Formula-F.One members) = one_work never always members

abbrev pub work_of : List (List ℕ) → Formula → Work
work_of options = fold-Formula Work (List Work) (work_step options) (λ m. m.list)

-- the conditions that a call works out for a formula, in order
abbrev pub worked_of : List (List ℕ) → Formula → List Meaning
worked_of options formula = (work_of options formula).worked

-- when a formula holds
abbrev pub meaning_of : List (List ℕ) → Formula → Meaning
meaning_of options formula c = holds_of formula options c

abbrev pub all_hold : List (List ℕ) → List Formula → Meaning
all_hold options members c = list_all (λ member. holds_of member options c) members

abbrev pub any_holds : List (List ℕ) → List Formula → Meaning
any_holds options members c = list_any (λ member. holds_of member options c) members

abbrev pub one_holds : List (List ℕ) → List Formula → Meaning
one_holds options members c = count_by (λ member. holds_of member options c) members == 1
