use Rattle.loom_plan.proofs.PlanExcludesStops.{plan_excludes_stops}
use Rattle.loom_plan.proofs.stop_laws.plan_excludes_stops.Goals as goal

pub returns : goal.returns
returns c = plan_excludes_stops (record {
  costs = c.least_costs_are_unique.ensures;
  layouts = c.layout_is_unique.ensures;
  pins = c.outcome_is_unique.ensures.pins;
  without = c.outcome_is_unique.ensures.without;
})
