use Rattle.std.proofs.Common.{◌≡◌, length, take}
use Rattle.loom_check.specs.MetParts.{HaveGot}
use Rattle.loom_check.proofs.met_sets.add_member.Given as goal

abbrev pub invariant-loop-set : goal.invariant-loop-set
invariant-loop-set l = record {
  counted : length l.members.items ≡ length l.fn.members.items;
  got : HaveGot l.fn.members.items l.members.items (take l.set-index l.sets) l.position;
}
