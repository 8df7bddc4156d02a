use Rattle.std.specs.Prelude.{◌≡◌, filter}
use Rattle.std.specs.List.{range_with_len}
use Rattle.loom_formula.specs.Choice.{choice_at}
use Rattle.loom_extract.specs.Variant.{is_live_at}
use Rattle.loom_extract.proofs.variant.live_numbers.Given as goal

abbrev pub invariant-loop-at : goal.invariant-loop-at
invariant-loop-at l = l.numbers ≡ filter (is_live_at l.fn.plan (choice_at l.fn.choice.values)) (range_with_len 0 l.at)
