use Rattle.std.proofs.Common.{map, arith}
use Rattle.loom_base.specs.declared.positions.NodeNo.{NodeNo}
use Rattle.loom_audit.specs.LayoutTests.{splice_cost_at}
use Rattle.loom_audit.proofs.CostSums.{splice_read, through_more}
use Rattle.loom_audit.proofs.layout_cost.splice_costs.Goals as goal

pub loop-point-preserved : goal.loop-point-preserved
loop-point-preserved c =
    let topology = c.args.topology.now in
    let places = c.args.places.now in
    let degrees = c.args.degrees.now in
    through_more (splice_cost_at topology (map (λ (v : NodeNo). v.0) places) degrees) c.loop-point.point c.loop-point.cost c.splice_cost.result c.in_ok-cost.cost
    (omega (arith, c.loop-point.auto.point)) c.loop-point.invariant
    (splice_read topology places degrees c.loop-point.point c.splice_cost.result (record { 0 = 0 }) c.loop-point-test.true c.splice_cost.ensures)
    c.in_ok-cost.ensures
