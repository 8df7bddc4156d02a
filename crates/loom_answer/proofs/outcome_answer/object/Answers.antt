use Rattle.std.proofs.lemmas.Result.{IfOk-weaker}
use Rattle.serde_json.specs.View.{view}
use Rattle.loom_answer.proofs.OutcomesWithoutFloats.{plain_outcome}
use Rattle.loom_answer.proofs.outcome_answer.object.Goals as goal

pub returns-clause-plain : goal.returns-clause-plain
returns-clause-plain c =
    IfOk-weaker c.value.result _ _ (λ value is. plain_outcome (view value) c.args.outcome.now is) c.value.ensures
