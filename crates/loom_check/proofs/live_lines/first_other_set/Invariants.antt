use Rattle.std.proofs.Common.{map}
use Rattle.loom_audit.specs.FirstFailure.{AgreeBefore}
use Rattle.loom_audit.specs.LiveLines.{IsPrintedSet}
use Rattle.loom_check.specs.LiveKeys.{key_of}
use Rattle.loom_check.proofs.live_lines.first_other_set.Given as goal

abbrev pub invariant-loop-at : goal.invariant-loop-at
invariant-loop-at l = AgreeBefore (IsPrintedSet l.project l.plan) (map key_of l.live) l.plan.sets l.at
