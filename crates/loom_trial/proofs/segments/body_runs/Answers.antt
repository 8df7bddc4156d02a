use Rattle.loom_trial.specs.Trial.{body_run}
use Rattle.loom_trial.proofs.DoorLemmas.{map_next}
use Rattle.loom_trial.proofs.segments.body_runs.Goals as goal

pub loop-i-preserved : goal.loop-i-preserved
loop-i-preserved c =
    let map_more = map_next body_run c.loop-i.i c.loop-i.auto.i in
    rw (c.in_ok-push.ensures.ok, c.loop-i.invariant, c.in_ok-body_run.ensures) map_more
