use Rattle.std.proofs.Common.{◌+◌, ◌<◌}
use Rattle.loom_types.specs.declared.plan.Module.{Module}
use Rattle.loom_audit.specs.FirstFailure.{EachBefore}
use Rattle.loom_audit.proofs.rows.stray_module.Given as goal

abbrev pub invariant-loop-at : goal.invariant-loop-at
invariant-loop-at l = EachBefore (λ i (x : Module). x.row < l.rows + 2) l.modules l.at
