use Rattle.std.proofs.Common.{sym}
use Rattle.loom_formula.specs.Choice.{choice_at}
use Rattle.loom_formula.proofs.Walks.{value_of-high, value_of-low, value_of-end}
use Rattle.loom_formula.proofs.row_list.RowList.next.Goals as goal

pub returns-in_err-row-clause-end : goal.returns-in_err-row-clause-end
returns-in_err-row-clause-end c =
    rw c.from_residual.ensures (value_of-end c.args.self.now (choice_at c.args.choice.now.values) c.args.number (sym c.in_err-row.ensures.row))

pub returns-then-get-clause-same : goal.returns-then-get-clause-same
returns-then-get-clause-same c =
    sym (value_of-high c.args.self.now (choice_at c.args.choice.now.values) c.args.number c.in_ok-row.row c.in_ok-row.ensures.below (sym c.in_ok-row.ensures.row) (sym c.if-get.ensures))

pub returns-else-get-clause-same : goal.returns-else-get-clause-same
returns-else-get-clause-same c =
    sym (value_of-low c.args.self.now (choice_at c.args.choice.now.values) c.args.number c.in_ok-row.row c.in_ok-row.ensures.below (sym c.in_ok-row.ensures.row) (sym c.if-get.ensures))
