use Rattle.std.proofs.Common.{◌≡◌, ◌∷◌, [], take}
use Rattle.std.specs.List.{flat_map}
use Rattle.loom_audit.proofs.trees.flat.Given as goal

abbrev pub invariant-loop-wire : goal.invariant-loop-wire
invariant-loop-wire l = l.ends.items ≡ flat_map (λ w. w.0 ∷ w.1 ∷ []) (take l.wire-index l.wires)
