use Rattle.std.proofs.Common.{◌≡◌, ◌+◌, ◌++◌, length, drop}
use Rattle.std.specs.Vec.Iter.{into_iter_items, into_iter_len}
use Rattle.loom_plan.specs.Stages.{numbered, set_line}
use Rattle.loom_plan.proofs.printing.set_lines.Given as goal

abbrev pub invariant-loop-set : goal.invariant-loop-set
invariant-loop-set l = record {
  counted : into_iter_len l.set-iterator ≡ length (into_iter_items l.set-iterator);
  total : length l.lines + length (into_iter_items l.set-iterator) ≡ length l.numbers;
  so_far :
      numbered set_line l.fn.sets l.numbers
      ≡ l.lines ++ numbered set_line (into_iter_items l.set-iterator) (drop (length l.lines) l.numbers);
}
