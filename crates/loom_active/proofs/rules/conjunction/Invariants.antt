use Rattle.loom_active.proofs.FormulaSteps.{FormulasSoFar}
use Rattle.loom_active.proofs.rules.conjunction.Given as goal

abbrev pub invariant-loop-formula : goal.invariant-loop-formula
invariant-loop-formula l = FormulasSoFar l.options l.formulas l.formula-index l.fn.rows l.rows l.all
