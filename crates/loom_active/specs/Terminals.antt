use Rattle.std.specs.Prelude.{ℕ, List, ◌≡◌, ◌≢◌, ◌<◌, ◌≤◌, AllPairs, length, map, slice_get, Some}
use Rattle.loom_project.specs.declared.draft.Draft.{Draft}
use Rattle.loom_project.specs.Project.{net_at, cavities_of}
use Rattle.loom_rows.specs.Condition.{Meaning, value, both}
use Rattle.loom_rows.specs.Table.{Table, Has}
use Rattle.loom_rows.specs.Leftovers.{AreSame}
use Rattle.loom_active.specs.declared.terminals.Terminal.{Terminal}
use Rattle.loom_active.specs.LiveWork.{formulas_of}

-- the terminal has its formula's condition, and one that says that the choice is valid as well
pub record IsWorkedOut (t : Table) (valid : Meaning) (formula : Meaning) (terminal : Terminal) : Type 0 where
  pub has_when : Has t terminal.when
  pub when : AreSame (value terminal.when) formula
  pub has_active : Has t terminal.active
  pub active : AreSame (value terminal.active) (both valid formula)

-- the terminals of a net: the net's cavities, at most twelve different ones of the project's, and when their formulas hold
pub record AreTerminalsOf (draft : Draft) (t : Table) (valid : Meaning) (net : ℕ) (terminals : List Terminal) : Type 0 where
  pub cavities : map (λ terminal. terminal.cavity.0) terminals ≡ cavities_of draft net
  pub few : length terminals ≤ 12
  pub different : AllPairs (λ one other. one ≢ other) (cavities_of draft net)
  pub in_range : (k : ℕ) (terminal : Terminal) → slice_get terminals k ≡ Some terminal → terminal.cavity.0 < length draft.cavities
  pub each : (k : ℕ) (terminal : Terminal) (formula : Meaning) → slice_get terminals k ≡ Some terminal
      → slice_get (formulas_of draft.options (net_at draft net)) k ≡ Some formula → IsWorkedOut t valid formula terminal

-- the terminals of the first nets
abbrev pub AreTerminals : Draft → Table → Meaning → List (List Terminal) → Type 0
AreTerminals draft t valid nets = (net : ℕ) (terminals : List Terminal) → slice_get nets net ≡ Some terminals → AreTerminalsOf draft t valid net terminals

-- when the formulas of these terminals hold
abbrev pub whens_of : List Terminal → List Meaning
whens_of terminals = map (λ terminal. value terminal.when) terminals

-- the table has each terminal's condition
abbrev pub HasWhens : Table → List Terminal → Type 0
HasWhens t terminals = (k : ℕ) (terminal : Terminal) → slice_get terminals k ≡ Some terminal → Has t terminal.when

-- the table has the options and the limit that it had
pub record IsSameJob (old new : Table) : Type 0 where
  pub options : new.options ≡ old.options
  pub limit : new.limit ≡ old.limit
