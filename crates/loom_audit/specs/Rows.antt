-- The printed rows are decision rows, each once, and every number of a condition refers to one.
use Rattle.std.specs.Prelude.{ℕ, List, ◌<◌, ◌+◌, length}
use Rattle.loom_formula.specs.declared.row_list.Row.{Row}
use Rattle.loom_rows.specs.Reduced.{AreReducedBefore, IsFirstUnreduced}
use Rattle.loom_project.specs.declared.draft.Draft.{Draft}
use Rattle.loom_types.specs.declared.plan.Plan.{Plan}
use Rattle.loom_audit.specs.declared.spot.PlanPart.TheVariants.{Rows, Sets, Wires, Modules}
use Rattle.loom_audit.specs.declared.spot.Spot.{Spot}
use Rattle.loom_audit.specs.FirstFailure.{Each, IsFirstWithout}
use Rattle.loom_audit.specs.Spots.{line_at}

-- each row's option is one of the project's, its parts differ, each is never, always or a row of a later option, and no earlier row is equal
abbrev pub AreDecisionRows : Draft → Plan → Type 0
AreDecisionRows draft plan = AreReducedBefore (length draft.options) plan.rows (length plan.rows)

-- a number refers to a condition: never, always, or a row of the list
abbrev pub IsReference : List Row → ℕ → Type 0
IsReference rows number = number < length rows + 2

-- sets, wires and modules refer to conditions
abbrev pub SetsRefer : Plan → Type 0
SetsRefer plan = Each (λ i set. IsReference plan.rows set.row) plan.sets

abbrev pub WiresRefer : Plan → Type 0
WiresRefer plan = Each (λ i w. IsReference plan.rows w.row) plan.wires

abbrev pub ModulesRefer : Plan → Type 0
ModulesRefer plan = Each (λ i module'. IsReference plan.rows module'.row) plan.modules

pub record AreRowsSound (draft : Draft) (plan : Plan) : Type 0 where
  pub rows : AreDecisionRows draft plan
  pub sets : SetsRefer plan
  pub wires : WiresRefer plan
  pub modules : ModulesRefer plan

-- the first failure: of the rows, then of the sets', the wires' and the modules' numbers
pub data RowsFailAt (draft : Draft) (plan : Plan) : Spot → Type 0 where
  row : (number : ℕ) → IsFirstUnreduced (length draft.options) plan.rows number → RowsFailAt draft plan (line_at Rows number)
  set : (at : ℕ) → AreDecisionRows draft plan
      → IsFirstWithout (λ i set. IsReference plan.rows set.row) plan.sets at → RowsFailAt draft plan (line_at Sets at)
  wire : (at : ℕ) → AreDecisionRows draft plan → SetsRefer plan
      → IsFirstWithout (λ i w. IsReference plan.rows w.row) plan.wires at → RowsFailAt draft plan (line_at Wires at)
  module_ : (at : ℕ) → AreDecisionRows draft plan → SetsRefer plan → WiresRefer plan
      → IsFirstWithout (λ i module'. IsReference plan.rows module'.row) plan.modules at → RowsFailAt draft plan (line_at Modules at)
