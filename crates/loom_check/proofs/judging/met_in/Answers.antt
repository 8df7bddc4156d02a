use Rattle.std.proofs.Common.{sym, subst}
use Rattle.loom_rows.specs.RowLists.{AreConditionsOf}
use Rattle.loom_rows.specs.Table.{Table}
use Rattle.loom_check.proofs.judging.met_in.Goals as goal

pub sets_met-requires-clause-conds : goal.sets_met-requires-clause-conds
sets_met-requires-clause-conds c =
    subst (λ (t : Table). AreConditionsOf c.args.plan.now.rows t c.args.conds.now) (sym c.new-meetings.ensures) c.requires.conds
