use Rattle.std.proofs.Common.{◌≡◌, map, take}
use Rattle.std.specs.List.{sum_by}
use Rattle.loom_topology.specs.Topology.{price_at}
use Rattle.loom_types.specs.LayoutTree.{step_of}
use Rattle.loom_audit.proofs.layout_cost.prices.Given as goal

abbrev pub invariant-loop-step : goal.invariant-loop-step
invariant-loop-step l = l.cost ≡ sum_by (λ s. price_at l.topology s.segment) (take l.step-index (map step_of l.layout.steps))
