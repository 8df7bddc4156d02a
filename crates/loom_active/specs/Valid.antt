use Rattle.std.specs.Prelude.{ℕ, Bool, ◌≡◌, List, map, IsTrue}
use Rattle.loom_base.specs.declared.limits.Which.TheVariants as limits
use Rattle.loom_formula.specs.declared.formula.Formula.{Formula}
use Rattle.loom_project.specs.declared.draft.Draft.{Draft}
use Rattle.loom_rows.specs.declared.stop.RowsStop.{RowsStop}
use Rattle.loom_rows.specs.declared.stop.RowsStop.TheVariants as rows
use Rattle.loom_rows.specs.Condition.{Meaning}
use Rattle.loom_rows.specs.Leftovers.{IsRowOf, AreMoreThan}
use Rattle.loom_rows.specs.Formulas.{always, all_work, work_of}
use Rattle.loom_active.specs.declared.stop.ActiveStop.{ActiveStop}
use Rattle.loom_active.specs.declared.stop.ActiveStop.TheVariants.{NoChoice, Clash, Limit, NoMemory}
use Rattle.loom_active.specs.Needs.{is_valid_for}

-- the conditions that are worked out for the conjunction of formulas, in order: for each formula its own, then the
-- conjunction of the formulas so far
abbrev pub conjunction_worked : List (List ℕ) → List Formula → List Meaning
conjunction_worked options formulas = (all_work always (map (work_of options) formulas)).worked

-- those of the conjunction of all rules
abbrev pub rules_worked : Draft → List Meaning
rules_worked draft = conjunction_worked draft.options draft.rules

-- some choice is valid
abbrev pub SomeIsValid : Draft → Type 0
SomeIsValid draft = (choice : ℕ → Bool) × IsTrue (is_valid_for draft choice)

-- no choice is valid
abbrev pub NoneIsValid : Draft → Type 0
NoneIsValid draft = (choice : ℕ → Bool) → IsTrue (is_valid_for draft choice) → ⊥

-- these worked conditions need more rows than a job may have
abbrev pub NeedTooManyRows : List Meaning → Type 0
NeedTooManyRows worked = AreMoreThan 262144 (IsRowOf worked)

-- the stop that a refusal of the rows makes; its count is the limit plus one
abbrev pub stop_of : RowsStop → ActiveStop
stop_of rows.TooManyRows = Limit limits.Rows 262145
stop_of rows.NoMemory = NoMemory

-- the rules stop a job so: their worked conditions need too many rows; or they don't, and no choice is valid. Memory may
-- run out at any time
abbrev pub IsStopOf : Draft → ActiveStop → Type 0
IsStopOf draft NoChoice = NoneIsValid draft × (NeedTooManyRows (rules_worked draft) → ⊥)
IsStopOf draft (Clash cavity first second choice) = ⊥
IsStopOf draft (Limit which count) = (which ≡ limits.Rows) × (count ≡ 262145) × NeedTooManyRows (rules_worked draft)
IsStopOf draft NoMemory = Unit {0}
