use Rattle.loom_audit.specs.FirstFailure.{AgreeBefore}
use Rattle.loom_audit.specs.TableRule.{IsTableFor}
use Rattle.loom_check.proofs.tables.first_other_table.Given as goal

abbrev pub invariant-loop-at : goal.invariant-loop-at
invariant-loop-at l = AgreeBefore (IsTableFor l.project) l.nets l.tables l.at
