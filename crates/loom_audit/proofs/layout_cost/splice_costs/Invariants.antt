use Rattle.std.proofs.Common.{◌≡◌, ◌-◌, map}
use Rattle.std.specs.Int.{sum_through}
use Rattle.loom_base.specs.declared.positions.NodeNo.{NodeNo}
use Rattle.loom_audit.specs.LayoutTests.{splice_cost_at}
use Rattle.loom_audit.proofs.layout_cost.splice_costs.Given as goal

abbrev pub invariant-loop-point : goal.invariant-loop-point
invariant-loop-point l =
    l.cost ≡ sum_through (splice_cost_at l.topology (map (λ (v : NodeNo). v.0) l.places) l.degrees) (l.point - 1)
