use Rattle.loom_layout.proofs.Exists.{layout_exists}
use Rattle.loom_layout.proofs.laws.layout_exists.Goals as goal

pub returns : goal.returns
returns c = λ topology terminals least mask v m sound in_range costs. layout_exists topology terminals least sound in_range costs mask v m
