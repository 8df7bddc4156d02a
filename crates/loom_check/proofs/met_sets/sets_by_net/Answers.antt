use Rattle.std.proofs.Common.{arith}
use Rattle.loom_check.proofs.MetPlaces.{nets-more, nets-all}
use Rattle.loom_check.proofs.met_sets.sets_by_net.Goals as goal

pub loop-at-preserved : goal.loop-at-preserved
loop-at-preserved c =
    nets-more c.args.sets.now c.loop-at.at c.in-Ok.position c.index-sets-at.result c.loop-at.by_net c.add_set.new.by_net
    c.loop-at-test.true c.index-sets-at.is c.in-Ok.ensures.1 c.in_ok-add_set.ensures c.loop-at.invariant

pub returns : goal.returns
returns c = nets-all c.args.sets.now c.loop-at.at c.loop-at.by_net (omega (arith, c.loop-at-test.false)) c.loop-at.invariant
