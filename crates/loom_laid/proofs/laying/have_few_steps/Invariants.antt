use Rattle.std.proofs.Common.{◌≡◌, ◌-◌, ◌^◌, min, length, take}
use Rattle.std.specs.List.{sum_by}
use Rattle.loom_laid.proofs.laying.have_few_steps.Given as goal

abbrev pub invariant-loop-set : goal.invariant-loop-set
invariant-loop-set l = l.steps ≡ min (sum_by (λ set. length set.layout.steps) (take l.set-index l.laid)) (2 ^ 64 - 1)
