use Rattle.std.proofs.Common.{take, ◌==◌}
use Rattle.std.specs.List.{list_any}
use Rattle.std.specs.Ordering.{nat_cmp}
use Rattle.std.specs.BTreeMap.{get}
use Rattle.loom_rules.proofs.TallySteps.{IsNotedSoFar}
use Rattle.loom_rules.proofs.crowded_segment.note_route.Given as goal

abbrev pub invariant-loop-segment : goal.invariant-loop-segment
invariant-loop-segment l =
    IsNotedSoFar l.fn.number (λ q. list_any (λ s. s.0 == q) (take l.segment-index l.route))
    (get nat_cmp l.fn.tallies) (get nat_cmp l.tallies)
