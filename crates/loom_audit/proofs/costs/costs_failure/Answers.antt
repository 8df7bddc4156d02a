use Rattle.std.proofs.Common.{sym, subst}
use Rattle.std.proofs.lemmas.Option.{MatchOption-at_some}
use Rattle.loom_audit.specs.CostRule.{CostsFailAt, set}
use Rattle.loom_audit.proofs.costs.costs_failure.Goals as goal

pub returns-clause-fails : goal.returns-clause-fails
returns-clause-fails c =
    subst (CostsFailAt c.args.project.now c.args.plan.now) (sym c.in_ok-line.ensures)
    (set c.in-Some.at (MatchOption-at_some _ _ c.in-Some.at c.in-Some.is c.in_ok-at.ensures.fails))
