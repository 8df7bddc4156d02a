use Rattle.std.proofs.Common.{◌≡◌}
use Rattle.loom_check.proofs.MetPlaces.{AreMetAmong}
use Rattle.loom_check.proofs.met_sets.met_among.Given as goal

abbrev pub invariant-loop-at : goal.invariant-loop-at
invariant-loop-at l = record { unchanged : l.meetings ≡ l.fn.meetings; met : AreMetAmong l.plan l.wire l.among l.met l.at-index }
