use Rattle.std.proofs.Common.{◌≡◌, map, take}
use Rattle.serde_json.specs.View.{view}
use Rattle.loom_top.specs.Variants.{wire_at_shown}
use Rattle.loom_top.proofs.variant.wires_value.Given as goal

abbrev pub invariant-loop-position : goal.invariant-loop-position
invariant-loop-position l = map view l.values.items ≡ map (wire_at_shown l.wires) (take l.position-index l.positions)
