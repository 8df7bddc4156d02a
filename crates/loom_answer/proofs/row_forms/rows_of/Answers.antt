use Rattle.std.proofs.Common.{map}
use Rattle.std.proofs.lemmas.Result.{err_from_is_err_and}
use Rattle.serde_json.specs.View.{view}
use Rattle.loom_answer.specs.RowForms.{rows_from}
use Rattle.loom_answer.proofs.Readings.{elements_next, passed_on}
use Rattle.loom_answer.proofs.RowSteps.{rows_next, rows_fail}
use Rattle.loom_answer.proofs.row_forms.rows_of.Goals as goal

pub returns-in_err-below_position : goal.returns-in_err-below_position
returns-in_err-below_position c =
    let next = elements_next c.args.elements.now c.loop-position.position c.index-elements-position.result c.loop-position-test.true c.index-elements-position.is in
    let failed = rows_fail c.loop-position.rows c.push_row-pushed.new.rows c.loop-position.position (map view c.args.elements.now) (view c.index-elements-position.result) c.loop-position.invariant next
    c.push_row-pushed.result c.push_row-pushed.ensures c.in_err-below_position.field-0.0 c.in_err-below_position.ensures in
    passed_on c.from_residual.result c.in_err-below_position.field-0.0 (rows_from 0 (map view c.args.elements.now)) (err_from_is_err_and c.from_residual.result c.from_residual.ensures.1) failed

pub loop-position-preserved : goal.loop-position-preserved
loop-position-preserved c =
    let next = elements_next c.args.elements.now c.loop-position.position c.index-elements-position.result c.loop-position-test.true c.index-elements-position.is in
    rows_next c.loop-position.rows c.push_row-pushed.new.rows c.loop-position.position (map view c.args.elements.now) (view c.index-elements-position.result) c.loop-position.invariant next
    c.push_row-pushed.result c.push_row-pushed.ensures c.in_ok-below_position.ensures
