use Rattle.loom_audit.specs.FirstFailure.{EachBefore}
use Rattle.loom_check.specs.PinTables.{IsNoted}
use Rattle.loom_check.proofs.pin_tables.shared_pins.Given as goal

abbrev pub invariant-loop-wire : goal.invariant-loop-wire
invariant-loop-wire l = EachBefore (λ i w. IsNoted l.nets l.shared w) l.wires l.wire-index
