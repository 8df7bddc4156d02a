use Rattle.std.proofs.Common.{◌≡◌, ◌++◌, map}
use Rattle.std.specs.List.{flat_map}
use Rattle.loom_trial.specs.Trial.{body_run, door_segments, doors}
use Rattle.loom_trial.proofs.DoorLemmas.{doors_before}
use Rattle.loom_trial.proofs.segments.all_segments.Given as goal

abbrev pub invariant-loop-i : goal.invariant-loop-i
invariant-loop-i l =
    l.segments ≡ map body_run (doors l.fn.n) ++ flat_map door_segments (doors_before l.i)
