use Rattle.std.proofs.Common.{◌≡◌, ◌+◌, ◌++◌, length, drop}
use Rattle.std.specs.Vec.Iter.{into_iter_items, into_iter_len}
use Rattle.loom_plan.specs.Stages.{numbered, wire_line}
use Rattle.loom_plan.proofs.printing.wire_lines.Given as goal

abbrev pub invariant-loop-wire : goal.invariant-loop-wire
invariant-loop-wire l = record {
  counted : into_iter_len l.wire-iterator ≡ length (into_iter_items l.wire-iterator);
  total : length l.lines + length (into_iter_items l.wire-iterator) ≡ length l.numbers;
  so_far :
      numbered wire_line l.fn.wires l.numbers
      ≡ l.lines ++ numbered wire_line (into_iter_items l.wire-iterator) (drop (length l.lines) l.numbers);
}
