use Rattle.std.proofs.lemmas.Result.{IfOk-weaker}
use Rattle.serde_json.specs.View.{view}
use Rattle.loom_answer.proofs.WithoutFloats.{plain_answer}
use Rattle.loom_answer.proofs.plan_answer.answer.Goals as goal

pub returns-clause-plain : goal.returns-clause-plain
returns-clause-plain c =
    IfOk-weaker c.answer_value.result _ _ (λ value is. plain_answer (view value) c.args.version c.args.outcomes.now c.args.plan.now c.args.project.now c.args.reports.now is) c.answer_value.ensures
