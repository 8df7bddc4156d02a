use Rattle.std.proofs.Common.{get_or, refl}
use Rattle.std.proofs.Math.ListN.{length-set}
use Rattle.loom_check.proofs.MetMembers.{got-more}
use Rattle.loom_check.proofs.met_sets.add_member.Goals as goal

pub loop-set-preserved : goal.loop-set-preserved
loop-set-preserved c = record {
  counted = simp length-set c.loop-set.invariant.counted;
  got =
      got-more c.args.members.now.items c.loop-set.members.items c.args.sets.now c.args.position c.loop-set.set-index
      (get_or c.args.sets.now c.loop-set.set-index 0) c.loop-set-test.true refl c.requires.rising c.requires.within c.loop-set.invariant.counted
      c.loop-set.invariant.got c.index_mut.result.now c.push.new.self c.index_mut.ensures.value c.in_ok-push.ensures.ok;
}
