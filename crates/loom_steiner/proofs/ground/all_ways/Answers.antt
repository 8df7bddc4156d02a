use Rattle.loom_steiner.proofs.Grounds.{lists_all_more}
use Rattle.loom_steiner.proofs.ground.all_ways.Goals as goal

pub loop-node-preserved : goal.loop-node-preserved
loop-node-preserved c =
    rw c.in_ok-push.ensures.items
    (lists_all_more c.args.topology.now c.loop-node.node c.loop-node.ways.items _ c.in_ok-ways_from.ensures.ways c.in_ok-ways_from.ensures.range
    c.loop-node.invariant)
