use Rattle.std.proofs.Common.{◌≡◌, max, take}
use Rattle.std.specs.List.{fold}
use Rattle.loom_audit.proofs.layout_wires.greatest.Given as goal

abbrev pub invariant-loop-point : goal.invariant-loop-point
invariant-loop-point l = l.greatest ≡ fold max 0 (take l.point-index l.points)
