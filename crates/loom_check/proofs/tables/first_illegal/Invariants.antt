use Rattle.std.specs.Prelude.{Ok, ◌≡◌}
use Rattle.loom_audit.specs.FirstFailure.{EachBefore}
use Rattle.loom_audit.specs.TableRule.{break_of}
use Rattle.loom_check.proofs.tables.first_illegal.Given as goal

abbrev pub invariant-loop-at : goal.invariant-loop-at
invariant-loop-at l = EachBefore (λ i line. break_of l.project line ≡ Ok tt) l.plan.tables l.at
