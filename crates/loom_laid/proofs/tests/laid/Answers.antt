use Rattle.loom_laid.proofs.LiveSetLists.{are-the-live-sets}
use Rattle.loom_laid.proofs.tests.laid.Goals as goal

pub lay_sets-requires-clause-sets : goal.lay_sets-requires-clause-sets
lay_sets-requires-clause-sets g c =
    are-the-live-sets c.args.project.now c.live_sets.new.rows c.in-Ok.sets.list c.as_slice.result.now c.in-Ok.ensures.sets c.as_slice.ensures
