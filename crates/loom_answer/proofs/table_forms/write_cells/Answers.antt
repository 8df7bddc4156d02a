use Rattle.std.proofs.Common.{map, ◌-◌, ◌*◌, take, arith}
use Rattle.std.proofs.lemmas.Result.{err_from_is_err_and}
use Rattle.serde_json.specs.View.{view}
use Rattle.loom_json.specs.Forms.{each}
use Rattle.loom_answer.specs.ReadingSteps.{behind}
use Rattle.loom_answer.specs.TableForms.{cell_form}
use Rattle.loom_answer.proofs.Readings.{elements_next, passed_on_changed}
use Rattle.loom_answer.proofs.CellSteps.{cells_fail, cells_next}
use Rattle.loom_answer.proofs.table_forms.write_cells.Goals as goal

pub returns-in_err-found-clause-gives : goal.returns-in_err-found-clause-gives
returns-in_err-found-clause-gives c =
    let cells = map view c.args.cells.now in
    let d = view c.index-cells-node.result in
    let next = elements_next c.args.cells.now c.loop-node.node c.index-cells-node.result (omega (arith, c.loop-node-test.true, c.nodes-node-end.ensures.value, c.requires.width)) c.index-cells-node.is in
    passed_on_changed _ c.from_residual.result c.in_err-found.field-0.0
    (behind (take ((c.args.mask - 1) * c.args.table.now.nodes) c.args.table.now.cells) (each cell_form 0 cells))
    (err_from_is_err_and c.from_residual.result c.from_residual.ensures.1)
    (cells_fail c.args.table.now c.loop-node.table c.args.mask c.loop-node.node cells d c.loop-node.invariant next c.in_err-found.field-0.0 (c.in_err-found.ensures (cell_form d) c.cell-found.ensures.gives))

pub loop-node-preserved : goal.loop-node-preserved
loop-node-preserved c =
    let cells = map view c.args.cells.now in
    let d = view c.index-cells-node.result in
    let next = elements_next c.args.cells.now c.loop-node.node c.index-cells-node.result (omega (arith, c.loop-node-test.true, c.nodes-node-end.ensures.value, c.requires.width)) c.index-cells-node.is in
    cells_next c.args.table.now c.loop-node.table c.args.mask c.loop-node.node cells d c.loop-node.invariant next
    c.set.new.self c.in_ok-found.found c.nodes-node-end.ensures.whole c.requires.mask_from c.requires.mask_to (omega (arith, c.loop-node-test.true, c.nodes-node-end.ensures.value)) (c.in_ok-found.ensures (cell_form d) c.cell-found.ensures.gives) c.set.ensures
