use Rattle.std.proofs.Common.{◌≡◌, map, drop}
use Rattle.serde_json.specs.View.{view}
use Rattle.loom_formula.specs.Formula.{members_of}
use Rattle.loom_json.specs.Forms.{each}
use Rattle.loom_json.proofs.Lists.{with_front}
use Rattle.loom_reader.specs.Formula.{formula_form}
use Rattle.loom_reader.proofs.formula.+reading.Given as goal

abbrev pub invariant-read_members-loop-position : goal.invariant-read_members-loop-position
invariant-read_members-loop-position l =
    with_front (members_of l.members) (each formula_form l.position (map view (drop l.position l.elements))) ≡ each formula_form 1 (drop 1 (map view l.elements))
