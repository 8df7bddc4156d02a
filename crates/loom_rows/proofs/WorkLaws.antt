-- The laws on worked conditions.
use Rattle.std.proofs.Common.{◌≡◌, List, [], ◌∷◌, ◌++◌, Result, Ok, Err, OnOk}
use Rattle.loom_rows.specs.declared.cond.Cond.{Cond}
use Rattle.loom_rows.specs.declared.stop.RowsStop.{RowsStop}
use Rattle.loom_rows.specs.Condition.{Meaning}
use Rattle.loom_rows.specs.Table.{Table}
use Rattle.loom_rows.specs.Leftovers.{IsRowOf, AreMoreThan, StandsFor, Works}
use Rattle.loom_rows.specs.Laws.{NoRowsStandForNone, WorkIsAppended, CallsAreRefusedWhereTooMany, FormulasAreWorkedOut}
use Rattle.loom_rows.proofs.Worked.{stands-none, stands-after, rows-few, rows-many}
use Rattle.loom_rows.proofs.FormulaWork.{work_meaning}

pub no_rows_stand_for_none : NoRowsStandForNone
no_rows_stand_for_none = stands-none

pub work_is_appended : WorkIsAppended
work_is_appended fs ws old new x stands works = stands-after fs ws old new stands x works

fits : (fs ws : List Meaning) (old new : Table) (result : Result Cond RowsStop) → StandsFor old fs → Works ws old new result → OnOk result (AreMoreThan old.limit (IsRowOf (fs ++ ws)) → ⊥)
fits fs ws old new (Ok x) stands works = rows-few fs ws old new stands x works
fits fs ws old new (Err e) stands works = tt

pub calls_are_refused_where_too_many : CallsAreRefusedWhereTooMany
calls_are_refused_where_too_many fs ws old new result stands works = record {
  many = λ e. rows-many fs ws old new stands result e works;
  few = fits fs ws old new result stands works;
}

pub formulas_are_worked_out : FormulasAreWorkedOut
formulas_are_worked_out options formula = work_meaning options formula
