use Rattle.std.proofs.Common.{length, sym, ap, subst, ◌∙◌, arith}
use Rattle.loom_rows.specs.RowLists.{AreConditionsOf}
use Rattle.loom_rows.specs.Table.{Table}
use Rattle.loom_audit.specs.PinRule.{IsPinClash}
use Rattle.loom_check.specs.PinTables.{IsLeast}
use Rattle.loom_check.proofs.PinClashes.{clashes-more, clashes-all}
use Rattle.loom_check.proofs.pins.first_clash.Goals as goal

pub partner-requires-clause-conds : goal.partner-requires-clause-conds
partner-requires-clause-conds c =
    subst (λ (t : Table). AreConditionsOf c.args.plan.now.rows t c.args.conds.now) (sym c.loop-at.invariant.unchanged) c.requires.conds

pub loop-at-preserved : goal.loop-at-preserved
loop-at-preserved c = record {
  unchanged = c.in_ok-other.ensures.unchanged ∙ c.loop-at.invariant.unchanged;
  none =
      clashes-more c.args.plan.now c.loop-at.at c.loop-at.invariant.none
      (subst (IsLeast (IsPinClash c.args.plan.now c.loop-at.at)) c.in_default.is c.in_ok-other.ensures.least);
}

pub returns-clause-holds : goal.returns-clause-holds
returns-clause-holds c =
    clashes-all c.args.plan.now c.loop-at.at (omega (arith, c.loop-at-test.false, ap length c.as_slice-wire-items.ensures)) c.loop-at.invariant.none
