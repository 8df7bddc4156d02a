use Rattle.std.proofs.Common.{◌≡◌, ℕ, ◌+◌, List, map, take, sym, subst}
use Rattle.std.specs.List.{sum_by}
use Rattle.loom_base.specs.declared.positions.SegmentNo.{SegmentNo}
use Rattle.loom_topology.specs.Topology.{price_at}
use Rattle.loom_types.specs.LayoutTree.{step_of}
use Rattle.loom_audit.proofs.CostSums.{price_more}
use Rattle.loom_audit.proofs.layout_cost.prices.Goals as goal

pub loop-step-preserved : goal.loop-step-preserved
loop-step-preserved c =
    let topology = c.args.topology.now in
    subst (λ (l : List (ℕ × SegmentNo)). c.in_ok-cost.cost ≡ sum_by (λ s. price_at topology s.segment) (take (c.loop-step.step-index + 1) (map step_of l))) c.as_slice-step-items.ensures
    (price_more topology c.as_slice-step-items.result.now c.loop-step.step-index (0, record { 0 = 0 }) c.loop-step.cost c.price.result c.in_ok-cost.cost c.loop-step-test.true
    (subst (λ (l : List (ℕ × SegmentNo)). c.loop-step.cost ≡ sum_by (λ s. price_at topology s.segment) (take c.loop-step.step-index (map step_of l))) (sym c.as_slice-step-items.ensures) c.loop-step.invariant)
    c.price.ensures.value c.in_ok-cost.ensures)
