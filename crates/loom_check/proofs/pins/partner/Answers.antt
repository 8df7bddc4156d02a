use Rattle.std.proofs.Common.{sym, subst}
use Rattle.loom_rows.specs.RowLists.{AreConditionsOf}
use Rattle.loom_rows.specs.Table.{Table}
use Rattle.loom_check.proofs.PinClashes.{least-clash}
use Rattle.loom_audit.specs.PinRule.{IsPinClash}
use Rattle.loom_check.specs.PinTables.{IsLeast}
use Rattle.loom_check.proofs.pins.partner.Goals as goal

pub rival_at-requires-2-clause-conds : goal.rival_at-requires-2-clause-conds
rival_at-requires-2-clause-conds c =
    subst (λ (t : Table). AreConditionsOf c.args.plan.now.rows t c.args.conds.now) (sym c.in_ok-from.ensures.unchanged) c.requires.conds

pub returns-clause-least : goal.returns-clause-least
returns-clause-least c =
    subst (IsLeast (IsPinClash c.args.plan.now c.args.at)) (sym c.lesser.ensures)
    (least-clash c.args.plan.now c.args.by_pin.now c.requires.by_pin c.args.at c.args.wire.now c.requires.stands c.in_ok-from.from c.in_ok-to.to
    c.in_ok-from.ensures.least c.in_ok-to.ensures.least)
