use Rattle.loom_layout.proofs.Unique.{layout_is_unique}
use Rattle.loom_layout.proofs.laws.layout_is_unique.Goals as goal

pub returns : goal.returns
returns c = layout_is_unique
