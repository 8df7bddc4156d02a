use Rattle.loom_rows.proofs.Worked.{works-one, value-one}
use Rattle.std.proofs.Common.{refl}
use Rattle.loom_rows.proofs.rows.Rows.and.Goals as goal

pub returns-clause-value : goal.returns-clause-value
returns-clause-value c = value-one _ _ _ c.args.self.now c.join.new.self c.join.result (λ d. refl) c.join.ensures

pub returns-clause-works : goal.returns-clause-works
returns-clause-works c = works-one _ _ c.args.self.now c.join.new.self c.join.result c.join.ensures
