use Rattle.std.proofs.Common.{subst}
use Rattle.loom_rows.specs.Condition.{Meaning}
use Rattle.loom_rows.specs.Outcome.{Outcome}
use Rattle.loom_rows.proofs.Worked.{works-one, branch-option_holds}
use Rattle.loom_rows.proofs.rows.Rows.is.Goals as goal

pub returns-clause-works : goal.returns-clause-works
returns-clause-works c =
    works-one _ c.args.option.0 c.args.self.now c.make.new.self c.make.result
    (subst (λ (f : Meaning). Outcome f c.args.option.0 c.args.self.now c.make.new.self c.make.result) (branch-option_holds c.args.option.0) c.make.ensures)
