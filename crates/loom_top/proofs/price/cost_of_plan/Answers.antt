use Rattle.loom_top.proofs.PlanCosts.{cost-fits}
use Rattle.loom_top.proofs.price.cost_of_plan.Goals as goal

pub cost_of_sets-requires : goal.cost_of_sets-requires
cost_of_sets-requires c =
    cost-fits c.args.project.now c.args.plan.now c.as_slice.result.now c.as_slice.ensures c.requires.planned c.requires.has_plan
