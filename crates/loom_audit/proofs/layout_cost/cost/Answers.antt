use Rattle.std.proofs.Common.{◌≡◌, ℕ, ◌+◌, ◌-◌, map, sym, ap, ◌∙◌}
use Rattle.std.specs.Int.{sum_through}
use Rattle.std.proofs.lemmas.List.{length-map}
use Rattle.std.proofs.lemmas.Result.{IfOk-weaker}
use Rattle.loom_base.specs.declared.positions.NodeNo.{NodeNo}
use Rattle.loom_topology.specs.TreeCost.{cost_of}
use Rattle.loom_types.specs.LayoutTree.{tree_of}
use Rattle.loom_audit.specs.LayoutTests.{splice_cost_at}
use Rattle.loom_audit.proofs.CostSums.{cost_total}
use Rattle.loom_audit.proofs.layout_cost.cost.Goals as goal

pub returns : goal.returns
returns c v are =
    let places = map (λ (u : NodeNo). u.0) c.args.places.now in
    IfOk-weaker c.plus.result (λ (sum : ℕ). sum ≡ c.in_ok-prices.field-0 + c.in_ok-splice_costs.field-0) (λ (cost : ℕ). cost ≡ cost_of c.args.topology.now v (tree_of c.args.layout.now))
    (λ total e.
    cost_total c.args.topology.now v (tree_of c.args.layout.now) places c.args.degrees.now
    c.in_ok-prices.field-0 c.in_ok-splice_costs.field-0 total c.in_ok-prices.ensures
    (c.in_ok-splice_costs.ensures
    ∙ ap (λ (n : ℕ). sum_through (splice_cost_at c.args.topology.now places c.args.degrees.now) (n - 1)) (sym (length-map c.args.places.now (λ (u : NodeNo). u.0))))
    are c.requires.degrees e)
    c.plus.ensures
