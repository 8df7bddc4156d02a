use Rattle.std.proofs.Common.{◌<◌, length, get_or, refl, sym, subst, arith}
use Rattle.std.proofs.lemmas.Bool.{false≢true}
use Rattle.loom_audit.specs.FirstFailure.{AgreeBefore}
use Rattle.loom_audit.specs.TableRule.{IsTableFor}
use Rattle.loom_audit.proofs.Differences.{agree_more, differ_apart, differ_end, agree_all}
use Rattle.loom_check.proofs.tables.first_other_table.Goals as goal

pub returns-then-not-is_table_for-clause-fails : goal.returns-then-not-is_table_for-clause-fails
returns-then-not-is_table_for-clause-fails c =
    let at = c.loop-at.at in
    let nets = c.args.nets.now in
    let in_nets : at < length nets = omega (arith, c.loop-at-test.true, c.min-both.ensures) in
    let in_tables : at < length c.args.tables.now = omega (arith, c.loop-at-test.true, c.min-both.ensures) in
    differ_apart (IsTableFor c.args.project.now) nets c.args.tables.now at 0 c.index-tables-at.result in_nets in_tables c.loop-at.invariant
    (λ p. absurd (false≢true (c.if-not-is_table_for.ensures.1 (subst (IsTableFor c.args.project.now (get_or nets at 0)) (sym c.index-tables-at.is) p))))

pub loop-at-preserved : goal.loop-at-preserved
loop-at-preserved c =
    let at = c.loop-at.at in
    let nets = c.args.nets.now in
    let in_nets : at < length nets = omega (arith, c.loop-at-test.true, c.min-both.ensures) in
    let in_tables : at < length c.args.tables.now = omega (arith, c.loop-at-test.true, c.min-both.ensures) in
    agree_more (IsTableFor c.args.project.now) nets c.args.tables.now at 0 c.index-tables-at.result in_nets in_tables c.loop-at.invariant
    (subst (IsTableFor c.args.project.now (get_or nets at 0)) c.index-tables-at.is (c.if-not-is_table_for.ensures.0 refl))

pub returns-then-nets-tables-clause-holds : goal.returns-then-nets-tables-clause-holds
returns-then-nets-tables-clause-holds c =
    agree_all (IsTableFor c.args.project.now) c.args.nets.now c.args.tables.now c.loop-at.at
    (omega (arith, c.loop-at-test.false, c.loop-at.auto.at-end, c.min-both.ensures)) c.if-nets-tables.true c.loop-at.invariant

pub returns-else-nets-tables-clause-fails : goal.returns-else-nets-tables-clause-fails
returns-else-nets-tables-clause-fails c =
    differ_end (IsTableFor c.args.project.now) c.args.nets.now c.args.tables.now _ c.min-both.ensures c.if-nets-tables.false
    (subst (λ n. AgreeBefore (IsTableFor c.args.project.now) c.args.nets.now c.args.tables.now n) (omega (arith, c.loop-at-test.false, c.loop-at.auto.at-end)) c.loop-at.invariant)
