use Rattle.std.proofs.Common.{◌≡◌}
use Rattle.loom_check.proofs.PinClashes.{HasNoneBefore}
use Rattle.loom_check.proofs.pins.first_rival.Given as goal

abbrev pub invariant-loop-other : goal.invariant-loop-other
invariant-loop-other l = record { unchanged : l.meetings ≡ l.fn.meetings; none : HasNoneBefore l.plan l.at l.wire l.others l.other-index }
