use Rattle.std.proofs.Common.{◌≡◌, map, take}
use Rattle.loom_wires.proofs.tests.wires_from.Given as goal

abbrev pub invariant-loop-end : goal.invariant-loop-end
invariant-loop-end l = map (λ wire. wire.from) l.wires ≡ map (λ end. end.0) (take l.end-index l.ends)
