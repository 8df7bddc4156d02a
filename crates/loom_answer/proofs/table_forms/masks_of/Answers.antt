use Rattle.std.proofs.Common.{map, arith}
use Rattle.std.proofs.lemmas.List.{length-map}
use Rattle.std.proofs.lemmas.Result.{err_from_is_err_and}
use Rattle.serde_json.specs.View.{view}
use Rattle.loom_answer.specs.TableForms.{masks_of}
use Rattle.loom_answer.proofs.Readings.{passed_on}
use Rattle.loom_answer.proofs.TableEnds.{masks_stop, uneven_stops, even_end}
use Rattle.loom_answer.proofs.table_forms.masks_of.Goals as goal

pub returns-in_err-write_masks : goal.returns-in_err-write_masks
returns-in_err-write_masks c =
    passed_on c.from_residual-in_err-write_masks.result c.in_err-write_masks.field-0.0 (masks_of (map view c.args.masks.now)) (err_from_is_err_and c.from_residual-in_err-write_masks.result c.from_residual-in_err-write_masks.ensures.1)
    (masks_stop (map view c.args.masks.now) c.in_ok-table.table c.even_masks-even.result c.width_of-width.result c.in_err-write_masks.field-0.0 c.width_of-width.ensures.value c.in_ok-table.ensures c.in_err-write_masks.ensures.reaches)

pub returns-then-even-masks : goal.returns-then-even-masks
returns-then-even-masks c =
    uneven_stops (map view c.args.masks.now) c.in_ok-table.table c.even_masks-even.result c.width_of-width.result c.write_masks.new.table c.below_position.result c.here.result c.here.ensures c.width_of-width.ensures.value c.in_ok-table.ensures
    c.in_ok-write_masks.ensures.reaches c.even_masks-even.ensures.end
    (let count = length-map c.args.masks.now view in omega (arith, c.if-even-masks.true, count)) c.below_position.ensures

pub returns : goal.returns
returns c =
    even_end (map view c.args.masks.now) c.in_ok-table.table c.even_masks-even.result c.width_of-width.result c.write_masks.new.table c.width_of-width.ensures.value c.in_ok-table.ensures
    c.in_ok-write_masks.ensures.size c.in_ok-write_masks.ensures.reaches
    (let count = length-map c.args.masks.now view in omega (arith, c.if-even-masks.false, c.even_masks-even.ensures.within, count))
