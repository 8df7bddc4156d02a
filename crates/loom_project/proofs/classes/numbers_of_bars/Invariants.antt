use Rattle.std.proofs.Common.{◌≡◌, take}
use Rattle.loom_project.specs.Classes.{barred_numbers}
use Rattle.loom_project.proofs.classes.numbers_of_bars.Given as goal

abbrev pub invariant-loop-bar : goal.invariant-loop-bar
invariant-loop-bar l = l.numbers ≡ barred_numbers l.classes (take l.bar-index l.bars)
