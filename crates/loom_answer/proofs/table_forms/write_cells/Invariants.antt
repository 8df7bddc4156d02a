use Rattle.std.proofs.Common.{map, ◌-◌, ◌*◌}
use Rattle.serde_json.specs.View.{view}
use Rattle.loom_answer.proofs.CellSteps.{AreCellsRead}
use Rattle.loom_answer.proofs.table_forms.write_cells.Given as goal

abbrev pub invariant-loop-node : goal.invariant-loop-node
invariant-loop-node l = AreCellsRead l.fn.table l.table ((l.mask - 1) * l.fn.table.nodes) l.node (map view l.cells)
