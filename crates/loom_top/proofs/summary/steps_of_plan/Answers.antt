use Rattle.loom_top.proofs.PlanSteps.{steps-fits}
use Rattle.loom_top.proofs.summary.steps_of_plan.Goals as goal

pub steps_of_sets-requires : goal.steps_of_sets-requires
steps_of_sets-requires c =
    steps-fits c.args.project.now c.draft-draft.ensures.sound c.has_sound_topologies.ensures c.args.plan.now c.as_slice.result.now c.as_slice.ensures
    c.requires.planned c.requires.has_plan
