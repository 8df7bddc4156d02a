use Rattle.std.proofs.Common.{take}
use Rattle.std.specs.List.{AllZip}
use Rattle.loom_audit.specs.EndKeys.{IsLinkOf}
use Rattle.loom_audit.proofs.links.links_of.Given as goal

abbrev pub invariant-loop-wire : goal.invariant-loop-wire
invariant-loop-wire l = AllZip (IsLinkOf l.points.keys) (take l.wire-index l.wires) l.pairs.items
