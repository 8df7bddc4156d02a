use Rattle.loom_formula.proofs.Progress.{HasTaken}
use Rattle.loom_formula.proofs.choice.Choice.of.Given as goal

abbrev pub invariant-loop-name : goal.invariant-loop-name
invariant-loop-name l = HasTaken l.options l.names l.name-index l.values
