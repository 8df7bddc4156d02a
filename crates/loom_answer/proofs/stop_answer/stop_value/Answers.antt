use Rattle.std.proofs.lemmas.Result.{IfOk-weaker}
use Rattle.serde_json.specs.View.{view}
use Rattle.loom_answer.proofs.StopsWithoutFloats.{plain_stop}
use Rattle.loom_answer.proofs.stop_answer.stop_value.Goals as goal

pub returns-clause-plain : goal.returns-clause-plain
returns-clause-plain c =
    IfOk-weaker c.stop_object.result _ _ (λ value is. plain_stop (view value) c.args.stop.now is) c.stop_object.ensures
