use Rattle.std.proofs.Common.{◌≡◌}
use Rattle.loom_check.specs.MetSets.{KnowsMetBefore}
use Rattle.loom_check.specs.MetParts.{KnowsOnlyMet}
use Rattle.loom_check.proofs.met_sets.sets_met.Given as goal

abbrev pub invariant-loop-wire : goal.invariant-loop-wire
invariant-loop-wire l = record {
  unchanged : l.meetings ≡ l.fn.meetings;
  only : KnowsOnlyMet l.plan l.met;
  all : KnowsMetBefore l.plan l.met l.wire-index;
}
