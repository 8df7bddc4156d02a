use Rattle.std.specs.Prelude.{ℕ, ◌≡◌, List, [], ◌++◌, Result, Ok, Err, OnOk}
use Rattle.loom_formula.specs.declared.formula.Formula.{Formula}
use Rattle.loom_rows.specs.declared.cond.Cond.{Cond}
use Rattle.loom_rows.specs.declared.stop.RowsStop.{RowsStop}
use Rattle.loom_rows.specs.declared.stop.RowsStop.TheVariants.{TooManyRows}
use Rattle.loom_rows.specs.Condition.{Meaning}
use Rattle.loom_rows.specs.Table.{Table}
use Rattle.loom_rows.specs.Leftovers.{AreSame, IsRowOf, AreMoreThan, StandsFor, Works}
use Rattle.loom_rows.specs.Formulas.{work_of, meaning_of}

-- a table without rows stands for no worked conditions
abbrev pub NoRowsStandForNone : Type 0
NoRowsStandForNone = (t : Table) → t.rows ≡ [] → StandsFor t []

-- where a table stood for worked conditions before a call, after an Ok it stands for them with the call's own behind them
abbrev pub WorkIsAppended : Type 0
WorkIsAppended =
    (fs ws : List Meaning) (old new : Table) (x : Cond) → StandsFor old fs → Works ws old new (Ok x) → StandsFor new (fs ++ ws)

-- then a call has too many rows exactly where all worked conditions together need more than the limit
pub record IsRefusedWhereTooMany (fs ws : List Meaning) (limit : ℕ) (result : Result Cond RowsStop) : Type 0 where
  pub many : result ≡ Err TooManyRows → AreMoreThan limit (IsRowOf (fs ++ ws))
  pub few : OnOk result (AreMoreThan limit (IsRowOf (fs ++ ws)) → ⊥)

abbrev pub CallsAreRefusedWhereTooMany : Type 0
CallsAreRefusedWhereTooMany =
    (fs ws : List Meaning) (old new : Table) (result : Result Cond RowsStop) → StandsFor old fs → Works ws old new result
    → IsRefusedWhereTooMany fs ws old.limit result

-- what is worked out for a formula makes in the end the condition that the formula holds
abbrev pub FormulasAreWorkedOut : Type 0
FormulasAreWorkedOut = (options : List (List ℕ)) (formula : Formula) → AreSame (work_of options formula).meaning (meaning_of options formula)
