use Rattle.std.proofs.Common.{◌≡◌, map, take}
use Rattle.serde_json.specs.View.{view}
use Rattle.loom_answer.specs.Values.{whole}
use Rattle.loom_top.proofs.variant.positions_value.Given as goal

abbrev pub invariant-loop-position : goal.invariant-loop-position
invariant-loop-position l = map view l.values.items ≡ map whole (take l.position-index l.positions)
