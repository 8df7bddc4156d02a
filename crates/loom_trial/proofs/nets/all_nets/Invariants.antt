use Rattle.std.proofs.Common.{◌≡◌}
use Rattle.std.specs.List.{flat_map}
use Rattle.loom_trial.specs.Trial.{door_nets}
use Rattle.loom_trial.proofs.DoorLemmas.{doors_before}
use Rattle.loom_trial.proofs.nets.all_nets.Given as goal

abbrev pub invariant-loop-i : goal.invariant-loop-i
invariant-loop-i l = l.nets ≡ flat_map door_nets (doors_before l.i)
