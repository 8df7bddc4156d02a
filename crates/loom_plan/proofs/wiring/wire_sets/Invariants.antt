use Rattle.std.proofs.Common.{◌≡◌, map, take}
use Rattle.loom_plan.specs.Stages.{wired_of}
use Rattle.loom_plan.proofs.wiring.wire_sets.Given as goal

abbrev pub invariant-loop-set : goal.invariant-loop-set
invariant-loop-set l = l.wired ≡ map (wired_of l.project) (take l.set-index l.sets)
