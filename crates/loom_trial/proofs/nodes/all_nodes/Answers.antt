use Rattle.std.proofs.Common.{◌+◌, ◌++◌, map, ap, ◌∙◌}
use Rattle.std.specs.List.{range_with_len}
use Rattle.loom_trial.specs.Trial.{body_node, door_nodes}
use Rattle.loom_trial.proofs.DoorLemmas.{flat_next}
use Rattle.loom_trial.proofs.nodes.all_nodes.Goals as goal

pub loop-i-preserved : goal.loop-i-preserved
loop-i-preserved c =
    c.in_ok-push_door.ensures ∙ ap (λ xs. xs ++ door_nodes c.loop-i.i) c.loop-i.invariant
    ∙ flat_next door_nodes (map body_node (range_with_len 0 (c.args.n + 1))) c.loop-i.i c.loop-i.auto.i
