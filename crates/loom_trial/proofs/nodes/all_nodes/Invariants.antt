use Rattle.std.proofs.Common.{◌≡◌, ◌+◌, ◌++◌, map}
use Rattle.std.specs.List.{flat_map, range_with_len}
use Rattle.loom_trial.specs.Trial.{body_node, door_nodes}
use Rattle.loom_trial.proofs.DoorLemmas.{doors_before}
use Rattle.loom_trial.proofs.nodes.all_nodes.Given as goal

abbrev pub invariant-loop-i : goal.invariant-loop-i
invariant-loop-i l =
    l.nodes ≡ map body_node (range_with_len 0 (l.fn.n + 1)) ++ flat_map door_nodes (doors_before l.i)
