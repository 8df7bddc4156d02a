use Rattle.std.proofs.Common.{get_or, refl}
use Rattle.std.proofs.Math.ListN.{set}
use Rattle.loom_audit.proofs.DegreeLemmas.{counted_more}
use Rattle.loom_audit.proofs.degrees.counted.Goals as goal

pub loop-point-preserved : goal.loop-point-preserved
loop-point-preserved c =
    counted_more c.args.counts.items c.args.points.now c.loop-point.counts.items
    (set c.loop-point.counts.items (get_or c.args.points.now c.loop-point.point-index 0) c.in-Some.count)
    c.loop-point.point-index c.index.result.now c.in-Some.count c.loop-point-test.true
    (c.requires c.loop-point.point-index 0 c.loop-point-test.true) c.loop-point.invariant c.index.ensures c.in-Some.ensures.1 refl
