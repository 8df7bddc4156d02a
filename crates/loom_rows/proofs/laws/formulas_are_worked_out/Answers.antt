use Rattle.loom_rows.proofs.WorkLaws.{formulas_are_worked_out}
use Rattle.loom_rows.proofs.laws.formulas_are_worked_out.Goals as goal

pub returns : goal.returns
returns c = formulas_are_worked_out
