use Rattle.loom_audit.specs.FirstFailure.{AgreeBefore}
use Rattle.loom_audit.specs.LayoutRule.{IsSameModule}
use Rattle.loom_audit.proofs.module_lines.first_difference.Given as goal

abbrev pub invariant-loop-at : goal.invariant-loop-at
invariant-loop-at l = AgreeBefore IsSameModule l.stated l.printed l.at
