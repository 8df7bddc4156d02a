use Rattle.loom_layout.proofs.Grown.{layouts_are_least_trees}
use Rattle.loom_layout.proofs.laws.layouts_are_least_trees.Goals as goal

pub returns : goal.returns
returns c = layouts_are_least_trees
