use Rattle.std.proofs.Common.{◌≡◌, map, take}
use Rattle.loom_laid.specs.declared.laid_set.LaidSet.{LaidSet}
use Rattle.loom_plan.proofs.printing.conditions_of_sets.Given as goal

abbrev pub invariant-loop-set : goal.invariant-loop-set
invariant-loop-set l = l.conds ≡ map (λ (set : LaidSet). set.cond) (take l.set-index l.sets)
