use Rattle.std.proofs.Common.{map}
use Rattle.serde_json.specs.View.{view}
use Rattle.loom_answer.proofs.RowSteps.{AreRowsRead}
use Rattle.loom_answer.proofs.row_forms.rows_of.Given as goal

abbrev pub invariant-loop-position : goal.invariant-loop-position
invariant-loop-position l = AreRowsRead l.rows l.position (map view l.elements)
