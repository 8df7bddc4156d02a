use Rattle.std.proofs.Common.{◌≡◌, take, map}
use Rattle.std.specs.List.{filter_map, slice_get}
use Rattle.loom_types.specs.WireTree.{ends_of}
use Rattle.loom_audit.proofs.trees.ends_at.Given as goal

abbrev pub invariant-loop-at : goal.invariant-loop-at
invariant-loop-at l = l.ends.items ≡ map ends_of (filter_map (slice_get l.wires) (take l.at-index l.positions))
