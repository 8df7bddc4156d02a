use Rattle.std.proofs.Common.{◌≡◌, map}
use Rattle.std.specs.Prelude.{filter}
use Rattle.std.specs.List.{range_with_len}
use Rattle.loom_formula.specs.Choice.{choice_at}
use Rattle.loom_answer.specs.Stops.{name_at}
use Rattle.loom_answer.proofs.named_stop.true_options.Given as goal

abbrev pub invariant-loop-i : goal.invariant-loop-i
invariant-loop-i l = l.names ≡ map (name_at l.options) (filter (choice_at l.choice.values) (range_with_len 0 l.i))
