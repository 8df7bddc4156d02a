use Rattle.std.proofs.Common.{◌+◌, ◌<◌}
use Rattle.loom_types.specs.declared.plan.SetLine.{SetLine}
use Rattle.loom_audit.specs.FirstFailure.{EachBefore}
use Rattle.loom_audit.proofs.rows.stray_set.Given as goal

abbrev pub invariant-loop-at : goal.invariant-loop-at
invariant-loop-at l = EachBefore (λ i (x : SetLine). x.row < l.rows + 2) l.sets l.at
