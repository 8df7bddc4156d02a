use Rattle.std.proofs.Common.{◌≡◌}
use Rattle.loom_rows.specs.RowLists.{AreConditionsOf}
use Rattle.loom_check.proofs.WireWork.{WorkedBefore}
use Rattle.loom_check.proofs.conditions.conditions_failure.Given as goal

abbrev pub invariant-loop-at : goal.invariant-loop-at
invariant-loop-at l =
    WorkedBefore l.project l.plan l.rows l.at × AreConditionsOf l.plan.rows l.rows l.conds × (l.rows.limit ≡ 262144)
