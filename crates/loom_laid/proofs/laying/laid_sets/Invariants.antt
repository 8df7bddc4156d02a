use Rattle.loom_laid.proofs.LaidSteps.{LaidSoFar}
use Rattle.loom_laid.proofs.laying.laid_sets.Given as goal

abbrev pub invariant-loop-set : goal.invariant-loop-set
invariant-loop-set l = LaidSoFar l.project l.tables l.sets l.set-index l.made l.initial.kept l.kept l.laid
