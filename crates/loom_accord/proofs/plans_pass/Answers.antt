use Rattle.loom_accord.proofs.PlansThatPass.{plans_pass}
use Rattle.loom_accord.proofs.plans_pass.Goals as goal

pub returns : goal.returns
returns c = plans_pass (record {
  lower = record {
    legal = c.least_costs_are_legal.ensures;
    layouts = c.layouts_are_least_trees.ensures;
    forms = c.layout_wires_form_tree.ensures;
    costs = c.layout_wires_cost.ensures;
    routes = c.layout_wires_are_routed.ensures;
    ends = c.layout_wires_end_at_pins.ensures;
    joins = c.plans_join_needs.ensures;
    wires = c.plans_give_nets_their_wires.ensures.sets;
    idle = c.plans_give_nets_their_wires.ensures.idle;
  };
  stages = record {
    costs = c.least_costs_are_unique.ensures;
    layouts = c.layout_is_unique.ensures;
    pins = c.outcome_is_unique.ensures.pins;
    without = c.outcome_is_unique.ensures.without;
  };
  unbroken = c.unbroken_is_legal.ensures;
})
