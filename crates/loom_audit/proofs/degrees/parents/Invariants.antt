use Rattle.std.proofs.Common.{◌≡◌, map, take}
use Rattle.loom_types.specs.LayoutTree.{step_of}
use Rattle.loom_audit.proofs.degrees.parents.Given as goal

abbrev pub invariant-loop-step : goal.invariant-loop-step
invariant-loop-step l = l.parents.items ≡ take l.step-index (map (λ step. step.parent) (map step_of l.step-items))
