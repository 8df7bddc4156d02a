use Rattle.std.proofs.Common.{◌≡◌, take, sum_by}
use Rattle.loom_top.proofs.price.cost_of_sets.Given as goal

abbrev pub invariant-loop-set : goal.invariant-loop-set
invariant-loop-set l = l.cost ≡ sum_by (λ set. set.cost) (take l.set-index l.sets)
