use Rattle.std.proofs.Common.{◌+◌, ◌<◌}
use Rattle.loom_types.specs.declared.wire.Wire.{Wire}
use Rattle.loom_audit.specs.FirstFailure.{EachBefore}
use Rattle.loom_audit.proofs.rows.stray_wire.Given as goal

abbrev pub invariant-loop-at : goal.invariant-loop-at
invariant-loop-at l = EachBefore (λ i (x : Wire). x.row < l.rows + 2) l.wires l.at
