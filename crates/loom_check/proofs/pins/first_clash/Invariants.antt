use Rattle.std.proofs.Common.{◌≡◌}
use Rattle.loom_check.proofs.PinClashes.{HasNoClashBefore}
use Rattle.loom_check.proofs.pins.first_clash.Given as goal

abbrev pub invariant-loop-at : goal.invariant-loop-at
invariant-loop-at l = record { unchanged : l.meetings ≡ l.fn.meetings; none : HasNoClashBefore l.plan l.at }
