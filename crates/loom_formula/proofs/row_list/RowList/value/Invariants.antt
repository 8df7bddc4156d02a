use Rattle.std.proofs.Common.{◌≡◌}
use Rattle.loom_formula.specs.Choice.{choice_at}
use Rattle.loom_formula.specs.RowList.{value_of}
use Rattle.loom_formula.proofs.row_list.RowList.value.Given as goal

abbrev pub invariant-loop-next : goal.invariant-loop-next
invariant-loop-next l = value_of l.self (choice_at l.choice.values) l.reached ≡ value_of l.self (choice_at l.choice.values) l.number

abbrev pub decreases-loop-next : goal.decreases-loop-next
decreases-loop-next l = l.reached
