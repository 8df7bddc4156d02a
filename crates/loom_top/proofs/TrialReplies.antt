-- What a summary and a stop reply to a trial.
use Rattle.std.proofs.Common.{◌≡◌, ℕ, List, Result, Ok, Err, sym, subst, IfOk}
use Rattle.std.specs.Prelude.{⊤}
use Rattle.loom_json.specs.Text.{line_of}
use Rattle.loom_project.specs.declared.draft.Draft.{Draft}
use Rattle.loom_project.specs.declared.fault.ProjectFault.{ProjectFault}
use Rattle.loom_project.specs.Sound.{draft_check}
use Rattle.loom_types.specs.declared.plan.Plan.{Plan}
use Rattle.loom_active.specs.RightPlan.{IsRight}
use Rattle.loom_plan.specs.PlanOf.{IsPlanOf}
use Rattle.loom_plan.specs.StopsLaw.{PlanExcludesStops}
use Rattle.loom_trial.specs.Trial.{trial_draft}
use Rattle.loom_top.specs.Refusals.{refusal_shown}
use Rattle.loom_top.specs.RepliesInside.{IsStopReply}
use Rattle.loom_top.specs.Trials.{summary_shown, StopsTrial, IsTrialRefusal, HasSummary, IsTrialReply}
use Rattle.loom_top.specs.declared.reply.Reply.{Reply}
use Rattle.loom_top.specs.declared.reply.ReplyKind.{ReplyKind}
use Rattle.loom_top.specs.declared.reply.ReplyKind.TheVariants as kinds
use Rattle.loom_top.specs.declared.refusal.Refusal.{Refusal}
use Rattle.loom_top.specs.declared.refusal.Refusal.TheVariants as refusals
use Rattle.loom_top.proofs.Documents.{of_refusing, nameable_stop}

-- the line of a plan of the trial's draft replies to it
pub summary_replies : (trial : ℕ) (draft : Draft) (plan : Plan) (line : List ℕ) → draft ≡ trial_draft trial → draft_check (trial_draft trial) ≡ Ok tt
    → IsPlanOf draft plan → IsRight draft plan → line ≡ line_of (summary_shown trial draft plan) → IsTrialReply trial kinds.Done line
summary_replies trial draft plan line same sound planned right line_is = record {
  sound = sound;
  plan = plan;
  planned = subst (λ (d : Draft). IsPlanOf d plan) same planned;
  right = subst (λ (d : Draft). IsRight d plan) same right;
  line_is = subst (λ (d : Draft). line ≡ line_of (summary_shown trial d plan)) same line_is;
}

-- a line that refuses replies to it
declines : (trial : ℕ) (line : List ℕ) (kind : ReplyKind) → kind ≡ kinds.Refused → IsTrialRefusal trial line → IsTrialReply trial kind line
declines trial line kind refuses refusal = subst (λ (k : ReplyKind). IsTrialReply trial k line) (sym refuses) refusal

-- a stop of the trial's draft replies to it
stop_replies : (trial : ℕ) (draft : Draft) (reply : Reply) → draft ≡ trial_draft trial → draft_check (trial_draft trial) ≡ Ok tt → IsStopReply draft reply
    → IsTrialReply trial reply.kind reply.line
stop_replies trial draft reply same sound stops =
    let here : IsStopReply (trial_draft trial) reply = subst (λ (d : Draft). IsStopReply d reply) same stops in
    declines trial reply.line reply.kind here.refuses
    (_, StopsTrial.not_planned sound here.stop here.first here.nameable, here.line_is)

pub stops_reply : {E : Type 0} (trial : ℕ) (draft : Draft) (result : Result Reply E) → draft ≡ trial_draft trial → draft_check (trial_draft trial) ≡ Ok tt
    → IfOk result (IsStopReply draft) → IfOk result (λ reply. IsTrialReply trial reply.kind reply.line)
stops_reply trial draft (Ok reply) same sound stops = stop_replies trial draft reply same sound stops
stops_reply trial draft (Err e) same sound stops = _

-- a fault of the trial's draft replies to it
pub fault_replies : {E : Type 0} (trial : ℕ) (fault : ProjectFault) (result : Result Reply E) → draft_check (trial_draft trial) ≡ Err fault
    → IfOk result (λ reply. reply.kind ≡ kinds.Refused) → IfOk result (λ reply. reply.line ≡ line_of (refusal_shown (refusals.Project fault)))
    → IfOk result (λ reply. IsTrialReply trial reply.kind reply.line)
fault_replies trial fault result fails =
    of_refusing (λ reply. IsTrialReply trial reply.kind reply.line) (refusals.Project fault) result
    (λ reply refuses line_is. declines trial reply.line reply.kind refuses
    (refusals.Project fault, StopsTrial.not_sound fault fails, line_is))

sound_or_not : (trial : ℕ) (check : Result ⊤ ProjectFault) (fault : ProjectFault) → check ≡ Ok tt → check ≡ Err fault → ⊥
sound_or_not trial check fault passed fails = absurd (cc)

-- a trial that has a summary isn't refused
not_stopped : PlanExcludesStops → (trial : ℕ) (refusal : Refusal) → HasSummary trial → StopsTrial trial refusal → ⊥
not_stopped law trial refusal has (StopsTrial.not_sound fault fails) = sound_or_not trial (draft_check (trial_draft trial)) fault has.0 fails
not_stopped law trial refusal has (StopsTrial.not_planned sound stop first nameable) =
    nameable_stop (trial_draft trial) stop (law (trial_draft trial) stop has.1 first) nameable

pub summary_accepts : PlanExcludesStops → (trial : ℕ) (line : List ℕ) (kind : ReplyKind) → HasSummary trial → IsTrialReply trial kind line
    → kind ≡ kinds.Refused → ⊥
summary_accepts law trial line kind has reply refuses =
    let refused : IsTrialRefusal trial line = subst (λ (k : ReplyKind). IsTrialReply trial k line) refuses reply in
    not_stopped law trial refused.0 has refused.1

-- no reply to a trial says that a plan isn't right
pub trial_is_no_check : (trial : ℕ) (line : List ℕ) (kind : ReplyKind) → IsTrialReply trial kind line → kind ≡ kinds.CheckedNo → ⊥
trial_is_no_check trial line kind reply denies = subst (λ (k : ReplyKind). IsTrialReply trial k line) denies reply
