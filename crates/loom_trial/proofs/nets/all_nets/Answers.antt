use Rattle.std.proofs.Common.{◌++◌, [], ap, ◌∙◌}
use Rattle.loom_trial.specs.Trial.{door_nets}
use Rattle.loom_trial.proofs.DoorLemmas.{flat_next}
use Rattle.loom_trial.proofs.nets.all_nets.Goals as goal

pub loop-i-preserved : goal.loop-i-preserved
loop-i-preserved c =
    c.in_ok-push_door.ensures ∙ ap (λ xs. xs ++ door_nets c.loop-i.i) c.loop-i.invariant
    ∙ flat_next door_nets [] c.loop-i.i c.loop-i.auto.i
