use Rattle.std.proofs.Common.{take}
use Rattle.std.specs.Ordering.{nat_cmp}
use Rattle.std.specs.BTreeMap.{get}
use Rattle.loom_rules.specs.Findings.{has_segment}
use Rattle.loom_rules.proofs.TallySteps.{IsTallied}
use Rattle.loom_rules.proofs.crowded_segment.segment_tallies.Given as goal

abbrev pub invariant-loop-i : goal.invariant-loop-i
invariant-loop-i l = IsTallied has_segment (take l.i l.wires) l.i (get nat_cmp l.tallies)
