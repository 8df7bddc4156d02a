use Rattle.loom_audit.specs.TableRule.{AreTablesLegal, TablesFailAt}
use Rattle.loom_audit.specs.CostRule.{AreCostsEqual, CostsFailAt}
use Rattle.loom_audit.specs.LayoutRule.{LayoutsFailAt}
use Rattle.loom_check.specs.Verdict.{tables, costs, layouts}
use Rattle.loom_check.proofs.FoundPlaces.{found-some, found-none}
use Rattle.loom_check.proofs.judging.judged_costs.Goals as goal

pub returns-in-Some : goal.returns-in-Some
returns-in-Some c =
    tables c.in-Some.place c.requires.conditions c.requires.trees c.requires.routed c.requires.pins
    (found-some (TablesFailAt c.args.project.now c.args.plan.now) c.in_ok-place.field-0 c.in-Some.place c.in-Some.is c.in_ok-place.ensures.fails)

pub returns-in-Some-2 : goal.returns-in-Some-2
returns-in-Some-2 c =
    costs c.in-Some-2.place c.requires.conditions c.requires.trees c.requires.routed c.requires.pins
    (found-none (AreTablesLegal c.args.project.now c.args.plan.now) c.in_ok-place.field-0 c.in_default.not-Some c.in_ok-place.ensures.holds)
    (found-some (CostsFailAt c.args.project.now c.args.plan.now) c.in_ok-place-2.field-0 c.in-Some-2.place c.in-Some-2.is c.in_ok-place-2.ensures.fails)

pub returns-in-Some-3 : goal.returns-in-Some-3
returns-in-Some-3 c =
    layouts c.in-Some-3.place c.requires.conditions c.requires.trees c.requires.routed c.requires.pins
    (found-none (AreTablesLegal c.args.project.now c.args.plan.now) c.in_ok-place.field-0 c.in_default.not-Some c.in_ok-place.ensures.holds)
    (found-none (AreCostsEqual c.args.project.now c.args.plan.now) c.in_ok-place-2.field-0 c.in_default-2.not-Some c.in_ok-place-2.ensures.holds)
    (found-some (LayoutsFailAt c.args.project.now c.args.plan.now) c.in_ok-place-3.field-0 c.in-Some-3.place c.in-Some-3.is c.in_ok-place-3.ensures.fails)
