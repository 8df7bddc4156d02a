use Rattle.std.proofs.Common.{◌≡◌, ◌++◌}
use Rattle.loom_rules.proofs.Picked.{picked}
use Rattle.loom_rules.proofs.FoundBy.{is_more, busy_finding}
use Rattle.loom_rules.proofs.busy_splice.busy_splices.Given as goal

abbrev pub invariant-loop-splice : goal.invariant-loop-splice
invariant-loop-splice l =
    l.found ++ picked (is_more l.fn.limit) busy_finding l.splice-iterator
    ≡ picked (is_more l.fn.limit) busy_finding l.initial.splice-iterator
