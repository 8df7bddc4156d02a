use Rattle.std.proofs.Common.{map}
use Rattle.serde_json.specs.View.{view}
use Rattle.loom_answer.proofs.CellSteps.{AreMasksRead}
use Rattle.loom_answer.proofs.table_forms.write_masks.Given as goal

abbrev pub invariant-loop-place : goal.invariant-loop-place
invariant-loop-place l = AreMasksRead l.fn.table l.table l.place (map view l.masks)
