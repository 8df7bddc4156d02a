use Rattle.std.proofs.Common.{◌≡◌, length, take, sum_by}
use Rattle.loom_top.proofs.summary.steps_of_sets.Given as goal

abbrev pub invariant-loop-set : goal.invariant-loop-set
invariant-loop-set l = l.steps ≡ sum_by (λ set. length set.layout.steps) (take l.set-index l.sets)
