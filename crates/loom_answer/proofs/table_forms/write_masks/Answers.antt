use Rattle.std.proofs.Common.{map, arith}
use Rattle.std.proofs.lemmas.Result.{err_from_is_err_and}
use Rattle.serde_json.specs.View.{view}
use Rattle.loom_answer.specs.TableForms.{cells_from}
use Rattle.loom_answer.proofs.Readings.{elements_next, reaches_failure}
use Rattle.loom_answer.proofs.CellSteps.{masks_fail, masks_next, masks_end}
use Rattle.loom_answer.proofs.table_forms.write_masks.Goals as goal

pub returns-clause-reaches : goal.returns-clause-reaches
returns-clause-reaches c =
    masks_end c.args.table.now c.loop-place.table c.loop-place.place (map view c.args.masks.now) c.masks-place-end.ensures.whole c.loop-place.invariant (omega (arith, c.loop-place-test.false, c.loop-place.invariant.reached, c.masks-place-end.ensures.value))

pub returns-in_err-below_position-clause-reaches : goal.returns-in_err-below_position-clause-reaches
returns-in_err-below_position-clause-reaches c =
    let next = elements_next c.args.masks.now c.loop-place.place c.index-masks-place.result (omega (arith, c.loop-place-test.true, c.masks-place-end.ensures.value, c.requires)) c.index-masks-place.is in
    let failed = masks_fail c.args.table.now c.loop-place.table c.write_mask-written.new.table c.loop-place.place (map view c.args.masks.now) (view c.index-masks-place.result) c.loop-place.invariant next
    c.write_mask-written.ensures.size c.write_mask-written.result c.write_mask-written.ensures.gives c.in_err-below_position.field-0.0 c.in_err-below_position.ensures in
    reaches_failure c.from_residual.result c.in_err-below_position.field-0.0 _ (cells_from c.args.table.now.nodes 0 (map view c.args.masks.now)) (err_from_is_err_and c.from_residual.result c.from_residual.ensures.1) failed

pub loop-place-preserved : goal.loop-place-preserved
loop-place-preserved c =
    let next = elements_next c.args.masks.now c.loop-place.place c.index-masks-place.result (omega (arith, c.loop-place-test.true, c.masks-place-end.ensures.value, c.requires)) c.index-masks-place.is in
    masks_next c.args.table.now c.loop-place.table c.write_mask-written.new.table c.loop-place.place (map view c.args.masks.now) (view c.index-masks-place.result) c.loop-place.invariant next
    c.write_mask-written.ensures.size c.write_mask-written.result c.write_mask-written.ensures.gives (omega (arith, c.loop-place-test.true, c.masks-place-end.ensures.value)) c.in_ok-below_position.ensures
