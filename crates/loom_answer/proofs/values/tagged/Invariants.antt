use Rattle.std.proofs.Common.{◌≡◌, ◌∷◌, map, take}
use Rattle.serde_json.specs.Data.{string}
use Rattle.serde_json.specs.View.{view}
use Rattle.loom_answer.specs.Values.{whole}
use Rattle.loom_answer.proofs.values.tagged.Given as goal

abbrev pub invariant-loop-n : goal.invariant-loop-n
invariant-loop-n l = map view l.shown.items ≡ string l.tag ∷ map whole (take l.n-index l.ns)
