use Rattle.std.proofs.Common.{take}
use Rattle.std.specs.HashSet.{contains}
use Rattle.loom_audit.specs.Grouping.{is_same_pair}
use Rattle.loom_check.specs.PinTables.{KnowsEnds}
use Rattle.loom_check.proofs.pin_tables.wires_at_shared.Given as goal

abbrev pub invariant-loop-at : goal.invariant-loop-at
invariant-loop-at l = KnowsEnds (contains is_same_pair l.shared) (take l.at l.wires) l.by_pin
