use Rattle.std.specs.Prelude.{Ok, ◌≡◌}
use Rattle.loom_project.specs.declared.draft.Draft.{Draft}
use Rattle.loom_project.specs.Project.{HasSoundTopologies}
use Rattle.loom_project.specs.Sound.{draft_check}
use Rattle.loom_types.specs.declared.plan.Plan.{Plan}
use Rattle.loom_active.specs.RightPlan.{IsRight}
use Rattle.loom_plan.specs.PlanOf.{IsPlanOf}

-- the plan of a sound draft, whose prices and branch costs are within their bounds, is right
abbrev pub PlansAreRight : Type 0
PlansAreRight =
    (draft : Draft) (plan : Plan) → draft_check draft ≡ Ok tt → HasSoundTopologies draft → IsPlanOf draft plan → IsRight draft plan
