use Rattle.std.proofs.Common.{◌≡◌, ◌++◌, drop}
use Rattle.std.specs.List.{enumerate_from}
use Rattle.loom_rules.proofs.Picked.{picked}
use Rattle.loom_rules.proofs.FoundBy.{is_longer, long_finding}
use Rattle.loom_rules.proofs.long_wire.long_wires.Given as goal

abbrev pub invariant-loop-i : goal.invariant-loop-i
invariant-loop-i l =
    l.found ++ picked (is_longer l.fn.limit) long_finding (enumerate_from l.i (drop l.i l.wires))
    ≡ picked (is_longer l.fn.limit) long_finding (enumerate_from 0 l.wires)
