use Rattle.std.proofs.Common.{refl, arith}
use Rattle.std.specs.BinaryHeap.{heap_items}
use Rattle.loom_steiner.proofs.Starting.{Starts-push, Starts-keep, settled_at}
use Rattle.loom_steiner.proofs.worklist.start.Goals.{then-betters+in_ok-push, else-betters}
use Rattle.loom_steiner.proofs.worklist.start.Goals as goal

pub loop-node-preserved : goal.loop-node-preserved
loop-node-preserved c = elim c.if-betters.branch [
  | then-betters+in_ok-push w ↦ rw w.worklist-is (Starts-push c.args.ways.now c.args.row.now c.loop-node.node (heap_items c.loop-node.worklist) (heap_items w.push.new.self)
      (omega (arith, c.loop-node-test.true, c.requires.nodes)) w.in_ok-push.ensures.permutation c.loop-node.invariant)
  | else-betters w ↦ rw w.worklist-is (Starts-keep c.args.ways.now c.args.row.now c.loop-node.node (heap_items c.loop-node.worklist)
      (settled_at c.args.ways.now _ c.args.row.now c.loop-node.node c.loop-node-test.true (w.if-betters.ensures refl)) c.loop-node.invariant)
]

pub returns-clause-settling : goal.returns-clause-settling
returns-clause-settling c = λ u h. c.loop-node.invariant.known u (omega arith)
