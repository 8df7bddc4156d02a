use Rattle.loom_check.proofs.MetMembers.{AreMembersBefore}
use Rattle.loom_check.proofs.met_sets.members.Given as goal

abbrev pub invariant-loop-at : goal.invariant-loop-at
invariant-loop-at l = AreMembersBefore l.plan l.met l.at l.members.items
