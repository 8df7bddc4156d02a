-- What is printed of a trial's plan, and why a trial has none.
use Rattle.std.specs.Prelude.{◌≡◌, ℕ, List, Ok, Err, length, codes, sum_by}
use Rattle.serde_json.specs.Data.{Data, object, put, no_members}
use Rattle.loom_json.specs.Text.{line_of}
use Rattle.loom_project.specs.declared.draft.Draft.{Draft}
use Rattle.loom_project.specs.declared.fault.ProjectFault.{ProjectFault}
use Rattle.loom_project.specs.Sound.{draft_check}
use Rattle.loom_types.specs.declared.plan.Plan.{Plan}
use Rattle.loom_types.specs.declared.stop.PlanStop.{PlanStop}
use Rattle.loom_active.specs.RightPlan.{IsRight}
use Rattle.loom_answer.specs.Stops.{IsNameable, named_of}
use Rattle.loom_answer.specs.Values.{whole}
use Rattle.loom_plan.specs.FirstStop.{FirstStop, HasPlan}
use Rattle.loom_plan.specs.PlanOf.{IsPlanOf}
use Rattle.loom_trial.specs.Trial.{trial_draft}
use Rattle.loom_top.specs.Entries.{cost_of}
use Rattle.loom_top.specs.Refusals.{refusal_shown}
use Rattle.loom_top.specs.declared.refusal.Refusal.{Refusal}
use Rattle.loom_top.specs.declared.refusal.Refusal.TheVariants as refusals
use Rattle.loom_top.specs.declared.reply.ReplyKind.{ReplyKind}
use Rattle.loom_top.specs.declared.reply.ReplyKind.TheVariants as kinds

-- the number of steps of all layouts of a plan
abbrev pub steps_of : Plan → ℕ
steps_of plan = sum_by (λ set. length set.layout.steps) plan.sets

-- what is printed of a trial's plan: what its sets cost, and how many parts of each kind it has
abbrev pub summary_shown : ℕ → Draft → Plan → Data
summary_shown trial draft plan = object
    (put (codes "wires") (whole (length plan.wires))
    (put (codes "version") (whole 1)
    (put (codes "trial") (whole trial)
    (put (codes "steps") (whole (steps_of plan))
    (put (codes "sets") (whole (length plan.sets))
    (put (codes "rows") (whole (length plan.rows))
    (put (codes "pins") (whole (length plan.pins))
    (put (codes "nets") (whole (length draft.nets))
    (put (codes "modules") (whole (length plan.modules))
    (put (codes "cost") (whole (cost_of plan))
    no_members))))))))))

-- the line sums up the plan of the trial's draft, which is sound; the plan is right
pub record IsSummary (trial : ℕ) (line : List ℕ) : Type 0 where
  pub sound : draft_check (trial_draft trial) ≡ Ok tt
  pub plan : Plan
  pub planned : IsPlanOf (trial_draft trial) plan
  pub right : IsRight (trial_draft trial) plan
  pub line_is : line ≡ line_of (summary_shown trial (trial_draft trial) plan)

-- why a trial has no summary: its draft isn't sound, or is sound and its planning stops
pub data StopsTrial (trial : ℕ) : Refusal → Type 0 where
  not_sound : (fault : ProjectFault) → draft_check (trial_draft trial) ≡ Err fault → StopsTrial trial (refusals.Project fault)
  not_planned : draft_check (trial_draft trial) ≡ Ok tt → (stop : PlanStop) → FirstStop (trial_draft trial) stop
      → IsNameable (trial_draft trial) stop → StopsTrial trial (refusals.Plan (named_of (trial_draft trial) stop))

-- the line says why a trial has no summary
abbrev pub IsTrialRefusal : ℕ → List ℕ → Type 0
IsTrialRefusal trial line = (refusal : Refusal) × StopsTrial trial refusal × (line ≡ line_of (refusal_shown refusal))

-- the trial's draft is sound and has a plan
abbrev pub HasSummary : ℕ → Type 0
HasSummary trial = (draft_check (trial_draft trial) ≡ Ok tt) × HasPlan (trial_draft trial)

-- the line replies to a trial: it is the summary, or says why there is none
abbrev pub IsTrialReply : ℕ → ReplyKind → List ℕ → Type 0
IsTrialReply trial kinds.Done line = IsSummary trial line
IsTrialReply trial kinds.CheckedNo line = ⊥
IsTrialReply trial kinds.Refused line = IsTrialRefusal trial line
