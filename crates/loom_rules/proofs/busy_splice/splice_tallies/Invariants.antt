use Rattle.std.proofs.Common.{take}
use Rattle.std.specs.BTreeMap.{get}
use Rattle.loom_rules.specs.Findings.{finding_cmp, ends_at_splice}
use Rattle.loom_rules.proofs.TallySteps.{IsTallied}
use Rattle.loom_rules.proofs.busy_splice.splice_tallies.Given as goal

abbrev pub invariant-loop-i : goal.invariant-loop-i
invariant-loop-i l =
    IsTallied (λ q. ends_at_splice q.first q.second q.third) (take l.i l.wires) l.i (get finding_cmp l.tallies)
