use Rattle.loom_check.proofs.PassingPlans.{passing_is_right}
use Rattle.loom_check.proofs.laws.passing_is_right.Goals as goal

pub returns : goal.returns
returns c = passing_is_right (record {
  legal = c.unbroken_is_legal.ensures;
  lowest = c.legal_is_below_every_tree.ensures;
  ends = c.layout_wires_end_at_pins.ensures;
  joins = c.plans_join_needs.ensures;
  wires = c.plans_give_nets_their_wires.ensures.sets;
  idle = c.plans_give_nets_their_wires.ensures.idle;
})
