use Rattle.std.proofs.Common.{◌++◌, map, ap, ◌∙◌}
use Rattle.loom_trial.specs.Trial.{body_run, door_segments, doors}
use Rattle.loom_trial.proofs.DoorLemmas.{flat_next}
use Rattle.loom_trial.proofs.segments.all_segments.Goals as goal

pub loop-i-preserved : goal.loop-i-preserved
loop-i-preserved c =
    c.in_ok-push_door.ensures ∙ ap (λ xs. xs ++ door_segments c.loop-i.i) c.loop-i.invariant
    ∙ flat_next door_segments (map body_run (doors c.args.n)) c.loop-i.i c.loop-i.auto.i
