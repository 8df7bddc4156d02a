-- The planner's plans pass the checker, and a plan that passes is never refused.
use Rattle.std.specs.Prelude.{ℕ, Ok, ◌≡◌}
use Rattle.loom_project.specs.declared.draft.Draft.{Draft}
use Rattle.loom_project.specs.Project.{HasSoundTopologies}
use Rattle.loom_project.specs.Sound.{draft_check}
use Rattle.loom_types.specs.declared.plan.Plan.{Plan}
use Rattle.loom_active.specs.declared.stop.ActiveStop.{ActiveStop}
use Rattle.loom_active.specs.declared.stop.ActiveStop.TheVariants.{NoMemory}
use Rattle.loom_plan.specs.FirstStop.{HasPlan}
use Rattle.loom_plan.specs.PlanOf.{IsPlanOf}
use Rattle.loom_audit.specs.declared.spot.Spot.{Spot}
use Rattle.loom_check.specs.Verdict.{PassesAll, FailsFirst, StopsCheck}

-- the plan of a sound draft passes all nine rules
abbrev pub PlansPass : Type 0
PlansPass =
    (draft : Draft) (plan : Plan) → draft_check draft ≡ Ok tt → HasSoundTopologies draft → HasPlan draft → IsPlanOf draft plan
    → PassesAll draft plan

-- no rule fails first of a plan that passes all
abbrev pub PassingNeverFails : Type 0
PassingNeverFails =
    (draft : Draft) (plan : Plan) → PassesAll draft plan → (rule : ℕ) (place : Spot) → FailsFirst draft plan rule place → ⊥

-- and nothing but want of memory stops the judging of it
abbrev pub PassingNeverStops : Type 0
PassingNeverStops =
    (draft : Draft) (plan : Plan) → PassesAll draft plan → (stop : ActiveStop) → StopsCheck draft plan stop → stop ≡ NoMemory
