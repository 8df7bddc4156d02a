use Rattle.loom_plan.proofs.FirstStops.{first_stop_is_unique}
use Rattle.loom_plan.proofs.stop_laws.first_stop_is_unique.Goals as goal

pub returns : goal.returns
returns c = first_stop_is_unique (record {
  costs = c.least_costs_are_unique.ensures;
  layouts = c.layout_is_unique.ensures;
  pins = c.outcome_is_unique.ensures.pins;
  without = c.outcome_is_unique.ensures.without;
})
