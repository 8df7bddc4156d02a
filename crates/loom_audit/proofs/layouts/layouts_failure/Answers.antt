use Rattle.std.proofs.Common.{sym, subst}
use Rattle.std.proofs.lemmas.Option.{MatchOption-at_some, MatchOption-at_none}
use Rattle.loom_audit.specs.LayoutRule.{LayoutsFailAt, laid, pin, order, wires, module_}
use Rattle.loom_audit.proofs.layouts.layouts_failure.Goals as goal

pub returns-in-Some-clause-fails : goal.returns-in-Some-clause-fails
returns-in-Some-clause-fails c =
    subst (LayoutsFailAt c.args.project.now c.args.plan.now) (sym c.in_ok-line.ensures)
    (laid c.in-Some.at (MatchOption-at_some _ _ c.in-Some.at c.in-Some.is c.in_ok-at.ensures.fails))

pub returns-in-Some-2-clause-fails : goal.returns-in-Some-2-clause-fails
returns-in-Some-2-clause-fails c =
    let found = MatchOption-at_some _ _ c.in-Some-2.at c.in-Some-2.is c.in_ok-at-2.ensures.fails in
    subst (LayoutsFailAt c.args.project.now c.args.plan.now) (sym c.in_ok-line-2.ensures)
    (pin c.in-Some-2.at found.0 (MatchOption-at_none _ _ c.in_default.is c.in_ok-at.ensures.holds) found.1 found.2)

pub returns-in-Some-first_out_of_order-clause-fails : goal.returns-in-Some-first_out_of_order-clause-fails
returns-in-Some-first_out_of_order-clause-fails c =
    subst (LayoutsFailAt c.args.project.now c.args.plan.now) (sym c.in_ok-line-3.ensures)
    (order c.in-Some-first_out_of_order.at (MatchOption-at_none _ _ c.in_default.is c.in_ok-at.ensures.holds)
    (MatchOption-at_none _ _ c.in_default-2.is c.in_ok-at-2.ensures.holds) c.in-Some-first_out_of_order.ensures.fails)

pub returns-in-Some-3-clause-fails : goal.returns-in-Some-3-clause-fails
returns-in-Some-3-clause-fails c =
    subst (LayoutsFailAt c.args.project.now c.args.plan.now) (sym c.in_ok-line-4.ensures)
    (wires c.in-Some-3.at (MatchOption-at_none _ _ c.in_default.is c.in_ok-at.ensures.holds)
    (MatchOption-at_none _ _ c.in_default-2.is c.in_ok-at-2.ensures.holds) c.in_default-first_out_of_order.ensures.holds
    (MatchOption-at_some _ _ c.in-Some-3.at c.in-Some-3.is c.in_ok-at-3.ensures.fails))

pub returns-in-Some-4-clause-fails : goal.returns-in-Some-4-clause-fails
returns-in-Some-4-clause-fails c =
    subst (LayoutsFailAt c.args.project.now c.args.plan.now) (sym c.in_ok-line-5.ensures)
    (module_ c.in-Some-4.at (MatchOption-at_none _ _ c.in_default.is c.in_ok-at.ensures.holds)
    (MatchOption-at_none _ _ c.in_default-2.is c.in_ok-at-2.ensures.holds) c.in_default-first_out_of_order.ensures.holds
    (MatchOption-at_none _ _ c.in_default-3.is c.in_ok-at-3.ensures.holds)
    (MatchOption-at_some _ _ c.in-Some-4.at c.in-Some-4.is c.in_ok-at-4.ensures.fails))
