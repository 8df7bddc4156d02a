use Rattle.std.proofs.Common.{◌≡◌, map, take}
use Rattle.serde_json.specs.View.{view}
use Rattle.loom_answer.specs.Values.{whole}
use Rattle.loom_answer.proofs.values.numbers.Given as goal

abbrev pub invariant-loop-n : goal.invariant-loop-n
invariant-loop-n l = map view l.shown.items ≡ map whole (take l.n-index l.ns)
