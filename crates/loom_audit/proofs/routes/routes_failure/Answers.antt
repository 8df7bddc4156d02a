use Rattle.std.proofs.Common.{sym, subst}
use Rattle.loom_audit.specs.RouteRule.{RoutesFailAt, wire}
use Rattle.loom_audit.proofs.routes.routes_failure.Goals as goal

pub returns-in_ok-line-in-Some-clause-fails : goal.returns-in_ok-line-in-Some-clause-fails
returns-in_ok-line-in-Some-clause-fails c =
    subst (RoutesFailAt c.args.project.now c.args.plan.now) (sym c.in_ok-line-in-Some.ensures) (wire c.in-Some.at c.in-Some.ensures.first)
