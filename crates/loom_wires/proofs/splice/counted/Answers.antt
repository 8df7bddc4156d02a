use Rattle.std.proofs.Common.{get_or, refl}
use Rattle.std.proofs.Math.ListN.{set}
use Rattle.loom_wires.proofs.DegreeLemmas.{counted_more}
use Rattle.loom_wires.proofs.splice.counted.Goals as goal

pub loop-point-preserved : goal.loop-point-preserved
loop-point-preserved c =
    counted_more c.args.counts.items c.args.points.now c.loop-point.counts.items
    (set c.loop-point.counts.items (get_or c.args.points.now c.loop-point.point-index 0) c.saturating_add.result)
    c.loop-point.point-index c.index.result.now c.saturating_add.result c.loop-point-test.true
    (c.requires c.loop-point.point-index 0 c.loop-point-test.true) c.loop-point.invariant c.index.ensures c.saturating_add.ensures refl
