use Rattle.std.specs.Prelude.{ℕ, List, [], ◌∷◌}
use Rattle.std.specs.List.{list_any}
use Rattle.loom_rows.specs.Condition.{Meaning, either}
use Rattle.loom_rows.specs.Formulas.{never}

-- the condition that holds where one of these does
abbrev pub some_hold : List Meaning → Meaning
some_hold fs c = list_any (λ f. f c) fs

-- for each condition, the disjunction of what came before and of the conditions up to it
abbrev pub disjunctions_from : Meaning → List Meaning → List Meaning
disjunctions_from so_far [] = []
disjunctions_from so_far (f ∷ fs) = either so_far f ∷ disjunctions_from (either so_far f) fs

-- the conditions that are worked out for a disjunction: for each condition, that of the conditions up to it
abbrev pub any_worked : List Meaning → List Meaning
any_worked fs = disjunctions_from never fs
