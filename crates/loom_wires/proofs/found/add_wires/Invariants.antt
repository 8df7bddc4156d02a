use Rattle.std.proofs.Common.{◌≡◌, length}
use Rattle.std.specs.Vec.Iter.{into_iter_items, into_iter_len}
use Rattle.loom_wires.proofs.NoteLemmas.{NotedSoFar}
use Rattle.loom_wires.proofs.found.add_wires.Given as goal

abbrev pub invariant-loop-wire : goal.invariant-loop-wire
invariant-loop-wire l = record {
  counted : into_iter_len l.wire-iterator ≡ length (into_iter_items l.wire-iterator);
  noted : NotedSoFar l.at l.fn.wires (into_iter_items l.wire-iterator) l.fn.found l.found;
}
