use Rattle.loom_plan.proofs.RightPlans.{plans_are_right}
use Rattle.loom_plan.proofs.laws.plans_are_right.Goals as goal

pub returns : goal.returns
returns c = plans_are_right (record {
  legal = c.least_costs_are_legal.ensures;
  layouts = c.layouts_are_least_trees.ensures;
  forms = c.layout_wires_form_tree.ensures;
  costs = c.layout_wires_cost.ensures;
  routes = c.layout_wires_are_routed.ensures;
  ends = c.layout_wires_end_at_pins.ensures;
  joins = c.plans_join_needs.ensures;
  wires = c.plans_give_nets_their_wires.ensures.sets;
  idle = c.plans_give_nets_their_wires.ensures.idle;
})
