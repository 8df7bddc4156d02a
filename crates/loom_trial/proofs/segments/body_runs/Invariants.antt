use Rattle.std.proofs.Common.{◌≡◌, map}
use Rattle.loom_trial.specs.Trial.{body_run}
use Rattle.loom_trial.proofs.DoorLemmas.{doors_before}
use Rattle.loom_trial.proofs.segments.body_runs.Given as goal

abbrev pub invariant-loop-i : goal.invariant-loop-i
invariant-loop-i l = l.runs ≡ map body_run (doors_before l.i)
