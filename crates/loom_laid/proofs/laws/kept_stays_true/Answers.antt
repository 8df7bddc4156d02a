use Rattle.loom_laid.proofs.KeptTrue.{kept-stays}
use Rattle.loom_laid.proofs.laws.kept_stays_true.Goals as goal

pub returns : goal.returns
returns c = kept-stays
