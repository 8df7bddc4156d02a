use Rattle.loom_accord.proofs.Refusals.{passing_never_fails}
use Rattle.loom_accord.proofs.NoStops.{passing_never_stops}
use Rattle.loom_accord.proofs.passing_is_yes.Goals as goal

pub returns-clause-fails : goal.returns-clause-fails
returns-clause-fails c = passing_never_fails

pub returns-clause-stops : goal.returns-clause-stops
returns-clause-stops c = passing_never_stops
