-- What a plan that passes is.
use Rattle.std.specs.Prelude.{Ok, ◌≡◌}
use Rattle.loom_project.specs.declared.draft.Draft.{Draft}
use Rattle.loom_project.specs.Project.{HasSoundTopologies}
use Rattle.loom_project.specs.Sound.{draft_check}
use Rattle.loom_types.specs.declared.plan.Plan.{Plan}
use Rattle.loom_active.specs.RightPlan.{IsRight}
use Rattle.loom_check.specs.Verdict.{PassesAll}

-- a plan of a sound draft that passes all nine rules is right, whoever made it
abbrev pub PassingIsRight : Type 0
PassingIsRight =
    (draft : Draft) (plan : Plan) → draft_check draft ≡ Ok tt → HasSoundTopologies draft → PassesAll draft plan → IsRight draft plan
