use Rattle.std.proofs.Common.{arith}
use Rattle.loom_topology.proofs.CheapestSegments.{below_none, below_more, below_all}
use Rattle.loom_topology.proofs.ways.mark_cheapest.Goals as goal

pub loop-node-init : goal.loop-node-init
loop-node-init c = record {
  clear = λ u below. c.no_prices-prices.ensures.clear u (omega (arith, below, c.node_count-node-end.ensures.sound.few_nodes));
  marks = below_none c.args.topology.now c.clear.new.marks c.clear.ensures;
}

pub loop-node-preserved : goal.loop-node-preserved
loop-node-preserved c = record {
  clear = c.mark_at.ensures.clear;
  marks = below_more c.args.topology.now c.loop-node.node c.loop-node.marks c.mark_at.new.marks c.loop-node.invariant.marks c.mark_at.ensures.marks;
}

pub returns : goal.returns
returns c =
    below_all c.args.topology.now c.loop-node.node c.loop-node.marks c.node_count-node-end.ensures.sound
    (omega (arith, c.loop-node-test.false, c.node_count-node-end.ensures.count)) c.loop-node.invariant.marks
