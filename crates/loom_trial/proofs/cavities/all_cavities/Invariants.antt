use Rattle.std.proofs.Common.{◌≡◌}
use Rattle.std.specs.List.{flat_map}
use Rattle.loom_trial.specs.Trial.{door_cavities}
use Rattle.loom_trial.proofs.DoorLemmas.{doors_before}
use Rattle.loom_trial.proofs.cavities.all_cavities.Given as goal

abbrev pub invariant-loop-i : goal.invariant-loop-i
invariant-loop-i l = l.cavities ≡ flat_map door_cavities (doors_before l.i)
