use Rattle.loom_audit.specs.Trees.{AreTrees, TreesFailAt}
use Rattle.loom_audit.specs.RouteRule.{AreRouted, RoutesFailAt}
use Rattle.loom_audit.specs.PinRule.{PinsFailAt}
use Rattle.loom_check.specs.Verdict.{trees, routes, pins}
use Rattle.loom_check.proofs.FoundPlaces.{found-some, found-none}
use Rattle.loom_check.proofs.JudgedStages.{has-nets}
use Rattle.loom_check.proofs.judging.judged_wires.Goals as goal

pub returns-in-Some : goal.returns-in-Some
returns-in-Some c =
    trees c.in-Some.place c.requires.conditions
    (found-some (TreesFailAt c.args.project.now c.args.plan.now) c.in_ok-place.field-0 c.in-Some.place c.in-Some.is c.in_ok-place.ensures.fails)

pub routes_failure-requires : goal.routes_failure-requires
routes_failure-requires c = record { nets = has-nets c.args.project.now c.args.plan.now c.requires.conditions }

pub returns-in-Some-2 : goal.returns-in-Some-2
returns-in-Some-2 c =
    routes c.in-Some-2.place c.requires.conditions
    (found-none (AreTrees c.args.project.now c.args.plan.now) c.in_ok-place.field-0 c.in_default.not-Some c.in_ok-place.ensures.holds)
    (found-some (RoutesFailAt c.args.project.now c.args.plan.now) c.in_ok-place-2.field-0 c.in-Some-2.place c.in-Some-2.is c.in_ok-place-2.ensures.fails)

pub returns-in-Some-3 : goal.returns-in-Some-3
returns-in-Some-3 c =
    pins c.in-Some-3.place c.requires.conditions
    (found-none (AreTrees c.args.project.now c.args.plan.now) c.in_ok-place.field-0 c.in_default.not-Some c.in_ok-place.ensures.holds)
    (found-none (AreRouted c.args.project.now c.args.plan.now) c.in_ok-place-2.field-0 c.in_default-2.not-Some c.in_ok-place-2.ensures.holds)
    (found-some (PinsFailAt c.args.project.now c.args.plan.now) c.in_ok-place-3.field-0 c.in-Some-3.place c.in-Some-3.is c.in_ok-place-3.ensures.fails)
