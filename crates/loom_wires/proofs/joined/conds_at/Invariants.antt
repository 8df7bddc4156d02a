use Rattle.std.proofs.Common.{◌≡◌, take}
use Rattle.loom_wires.specs.FoundWires.{conds_at}
use Rattle.loom_wires.proofs.joined.conds_at.Given as goal

abbrev pub invariant-loop-at : goal.invariant-loop-at
invariant-loop-at l = l.conds ≡ conds_at l.sets (take l.at-index l.positions)
