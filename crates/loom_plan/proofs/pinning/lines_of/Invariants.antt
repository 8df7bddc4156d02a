use Rattle.std.proofs.Common.{◌≡◌, ◌++◌, map, drop}
use Rattle.loom_plan.specs.Work.{pin_lines, slot_at}
use Rattle.loom_plan.proofs.pinning.lines_of.Given as goal

abbrev pub invariant-loop-at : goal.invariant-loop-at
invariant-loop-at l =
    pin_lines (map slot_at l.used) l.pins ≡ l.lines ++ pin_lines (drop l.at (map slot_at l.used)) (drop l.at l.pins)
