use Rattle.std.proofs.Common.{◌≡◌, map}
use Rattle.std.specs.List.{range_with_len}
use Rattle.loom_trial.specs.Trial.{body_node}
use Rattle.loom_trial.proofs.nodes.body_nodes.Given as goal

abbrev pub invariant-loop-i : goal.invariant-loop-i
invariant-loop-i l = l.nodes ≡ map body_node (range_with_len 0 l.i)
