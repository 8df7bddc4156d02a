use Rattle.std.proofs.Common.{◌≡◌, ◌++◌}
use Rattle.loom_rules.proofs.Picked.{picked}
use Rattle.loom_rules.proofs.FoundBy.{is_more, crowded_finding}
use Rattle.loom_rules.proofs.crowded_segment.crowded_segments.Given as goal

abbrev pub invariant-loop-segment : goal.invariant-loop-segment
invariant-loop-segment l =
    l.found ++ picked (is_more l.fn.limit) crowded_finding l.segment-iterator
    ≡ picked (is_more l.fn.limit) crowded_finding l.initial.segment-iterator
