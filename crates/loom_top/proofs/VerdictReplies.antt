-- What is said of a document's plan, and of the reply that tells it.
use Rattle.std.proofs.Common.{◌≡◌, ◌≢◌, ℕ, List, false, Some, Result, Ok, Err, IfOk, refl, ap, ap₂, sym, subst, ◌∙◌, inl, codes}
use Rattle.serde_json.specs.Data.{Data, put, no_members}
use Rattle.serde_json.specs.Written.{has_float}
use Rattle.loom_json.specs.Text.{line_of}
use Rattle.loom_json.proofs.Floats.{members_have_float-put}
use Rattle.loom_project.specs.declared.draft.Draft.{Draft}
use Rattle.loom_project.specs.Project.{HasSoundTopologies}
use Rattle.loom_project.specs.Sound.{draft_check}
use Rattle.loom_types.specs.declared.plan.Plan.{Plan}
use Rattle.loom_types.specs.declared.stop.PlanStop.TheVariants as stops
use Rattle.loom_rules.specs.Judged.{Asked}
use Rattle.loom_active.specs.declared.stop.ActiveStop.{ActiveStop}
use Rattle.loom_active.specs.declared.stop.ActiveStop.TheVariants as active
use Rattle.loom_active.specs.LiveStops.{IsLiveStop}
use Rattle.loom_active.specs.RightPlan.{IsRight}
use Rattle.loom_audit.specs.declared.spot.Spot.{Spot}
use Rattle.loom_check.specs.declared.verdict.Verdict.{Verdict}
use Rattle.loom_check.specs.declared.verdict.Verdict.TheVariants.{Yes, No}
use Rattle.loom_check.specs.Verdict.{PassesAll, FailsFirst, IsVerdict, StopsCheck, seeking, rows, wires}
use Rattle.loom_accord.specs.Laws.{PlansPass, PassingNeverFails, PassingNeverStops}
use Rattle.loom_plan.specs.FirstStop.{FirstStop}
use Rattle.loom_answer.specs.Values.{whole}
use Rattle.loom_answer.specs.Stops.{IsNameable, named_of}
use Rattle.loom_answer.specs.declared.named_stop.NamedStop.{NamedStop}
use Rattle.loom_reader.specs.declared.document.Document.{Document}
use Rattle.loom_reader.specs.declared.entry.Entry.{Entry}
use Rattle.loom_undo.specs.Changes.{Changes}
use Rattle.loom_top.specs.Entries.{fresh, after_entries, project_after}
use Rattle.loom_top.specs.Refusals.{refusal_shown}
use Rattle.loom_top.specs.Replies.{IsReply}
use Rattle.loom_top.specs.RepliesInside.{HasJudged, RepliesToPlan, IsReplyTo}
use Rattle.loom_top.specs.Verdicts.{answer_shown, verdict_shown, kind_of_verdict, as_plan_stop, IsOwn, IsUnjudged}
use Rattle.loom_top.specs.declared.reply.Reply.{Reply}
use Rattle.loom_top.specs.declared.reply.ReplyKind.{ReplyKind}
use Rattle.loom_top.specs.declared.reply.ReplyKind.TheVariants as kinds
use Rattle.loom_top.specs.declared.job.DocumentJob.TheVariants as jobs
use Rattle.loom_top.specs.declared.refusal.Refusal.TheVariants as refusals
use Rattle.loom_top.proofs.NameableStops.{first_stop-nameable}
use Rattle.loom_top.proofs.Documents.{refuses_document}

-- ---- what is printed has no float

answer_plain : (verdict : Verdict) → has_float (answer_shown verdict) ≡ false
answer_plain Yes = refl
answer_plain (No rule place) = refl

verdict_plain : (verdict : Verdict) → has_float (verdict_shown verdict) ≡ false
verdict_plain verdict =
    members_have_float-put (codes "version") (whole 1) (put (codes "verdict") (answer_shown verdict) no_members) refl
    (members_have_float-put (codes "verdict") (answer_shown verdict) no_members (answer_plain verdict) refl)

pub plain_verdict : (d : Data) (verdict : Verdict) → d ≡ verdict_shown verdict → has_float d ≡ false
plain_verdict d verdict is = ap has_float is ∙ verdict_plain verdict

-- ---- stops of judging have names

-- a stop of the search for live sets is one of planning
search_stops : (draft : Draft) (stop : ActiveStop) → IsLiveStop draft stop → FirstStop draft (as_plan_stop stop)
search_stops draft active.NoChoice is = is
search_stops draft (active.Clash cavity first second choice) is = is
search_stops draft (active.Limit which count) is = inl is
search_stops draft active.NoMemory is = tt

memory_alone : (stop : ActiveStop) → as_plan_stop stop ≡ stops.NoMemory → stop ≡ active.NoMemory
memory_alone active.NoChoice e = absurd (cc)
memory_alone (active.Clash cavity first second choice) e = absurd (cc)
memory_alone (active.Limit which count) e = absurd (cc)
memory_alone active.NoMemory e = refl

pub check_stop-nameable : (draft : Draft) → draft_check draft ≡ Ok tt → HasSoundTopologies draft → (plan : Plan) (stop : ActiveStop)
    → as_plan_stop stop ≢ stops.NoMemory → StopsCheck draft plan stop → IsNameable draft (as_plan_stop stop)
check_stop-nameable draft passed sound plan stop other (seeking of live) =
    first_stop-nameable draft passed sound (as_plan_stop of) other (search_stops draft of live)
check_stop-nameable draft passed sound plan stop other (rows found are many) = tt
check_stop-nameable draft passed sound plan stop other (wires at before much) = tt

-- ---- replies

pub record JudgingLaws : Type 0 where
  pub plans : PlansPass
  pub fails : PassingNeverFails
  pub stops : PassingNeverStops

module _ (laws : JudgingLaws) (draft : Draft) (passed : draft_check draft ≡ Ok tt) (sound : HasSoundTopologies draft) (plan : Plan) where
  -- what planning answers fails no rule, and isn't stopped
  failing_is_foreign : (rule : ℕ) (place : Spot) → FailsFirst draft plan rule place → IsOwn draft plan → ⊥
  failing_is_foreign rule place fails own =
      laws.fails draft plan (laws.plans draft plan passed sound own.0 own.1) rule place fails

  stopped_is_foreign : (stop : ActiveStop) → stop ≢ active.NoMemory → StopsCheck draft plan stop → IsOwn draft plan → ⊥
  stopped_is_foreign stop other due own =
      other (laws.stops draft plan (laws.plans draft plan passed sound own.0 own.1) stop due)

  -- the line of a verdict replies to a document with this plan and project
  yes_replies : (reply : Reply) → PassesAll draft plan → IsRight draft plan → reply.kind ≡ kinds.Done → reply.line ≡ line_of (verdict_shown Yes)
      → RepliesToPlan draft plan reply
  yes_replies reply passes right told line_is document has asked input read =
      let here : PassesAll (project_after document) plan = subst (λ (d : Draft). PassesAll d plan) (sym has.draft_is) passes in
      let done : IsReply asked jobs.Check input kinds.Done reply.line = (
        record { document = document; read = read; has_answer = (plan, has.plan_is, here) },
        record {
          plan = plan;
          printed = has.plan_is;
          passes = here;
          right = subst (λ (d : Draft). IsRight d plan) (sym has.draft_is) right;
          line_is = line_is;
        },
      ) in
      subst (λ (k : ReplyKind). IsReply asked jobs.Check input k reply.line) (sym told) done

  no_replies : (reply : Reply) (rule : ℕ) (place : Spot) → FailsFirst draft plan rule place → reply.kind ≡ kinds.CheckedNo
      → reply.line ≡ line_of (verdict_shown (No rule place)) → RepliesToPlan draft plan reply
  no_replies reply rule place fails told line_is document has asked input read =
      let no : IsReply asked jobs.Check input kinds.CheckedNo reply.line = (
        document,
        read,
        record {
          plan = plan;
          printed = has.plan_is;
          rule = rule;
          place = place;
          fails = subst (λ (d : Draft). FailsFirst d plan rule place) (sym has.draft_is) fails;
          foreign = λ own. failing_is_foreign rule place fails (subst (λ (d : Draft). IsOwn d plan) has.draft_is own);
          line_is = line_is;
        },
      ) in
      subst (λ (k : ReplyKind). IsReply asked jobs.Check input k reply.line) (sym told) no

  verdict_told : (verdict : Verdict) (reply : Reply) → IsVerdict draft plan verdict → (verdict ≡ Yes → IsRight draft plan)
      → reply.kind ≡ kind_of_verdict verdict → reply.line ≡ line_of (verdict_shown verdict) → RepliesToPlan draft plan reply
  verdict_told Yes reply is right told line_is = yes_replies reply is (right refl) told line_is
  verdict_told (No rule place) reply is right told line_is = no_replies reply rule place is told line_is

  pub told_replies : {E : Type 0} (verdict : Verdict) (result : Result Reply E) → IsVerdict draft plan verdict → (verdict ≡ Yes → IsRight draft plan)
      → IfOk result (λ reply. reply.kind ≡ kind_of_verdict verdict) → IfOk result (λ reply. reply.line ≡ line_of (verdict_shown verdict))
      → IfOk result (RepliesToPlan draft plan)
  told_replies verdict (Ok reply) is right told line_is = verdict_told verdict reply is right told line_is
  told_replies verdict (Err e) is right told line_is = _

  unjudged : (stop : ActiveStop) (named : NamedStop) → StopsCheck draft plan stop → stop ≢ active.NoMemory → IsNameable draft (as_plan_stop stop)
      → named ≡ named_of draft (as_plan_stop stop) → (document : Document) → HasJudged document draft plan → IsUnjudged document named
  unjudged stop named due other nameable is document has = record {
    plan = plan;
    printed = has.plan_is;
    stop = stop;
    other = other;
    stops = subst (λ (d : Draft). StopsCheck d plan stop) (sym has.draft_is) due;
    foreign = λ own. stopped_is_foreign stop other due (subst (λ (d : Draft). IsOwn d plan) has.draft_is own);
    nameable = subst (λ (d : Draft). IsNameable d (as_plan_stop stop)) (sym has.draft_is) nameable;
    named_is = is ∙ ap (λ (d : Draft). named_of d (as_plan_stop stop)) (sym has.draft_is);
  }

  unjudged_reply : (stop : ActiveStop) (named : NamedStop) (reply : Reply) → StopsCheck draft plan stop → stop ≢ active.NoMemory
      → IsNameable draft (as_plan_stop stop) → named ≡ named_of draft (as_plan_stop stop)
      → reply.kind ≡ kinds.Refused → reply.line ≡ line_of (refusal_shown (refusals.Plan named)) → RepliesToPlan draft plan reply
  unjudged_reply stop named reply due other nameable is refuses line_is document has asked =
      refuses_document jobs.Check (refusals.Plan named) reply refuses line_is document (unjudged stop named due other nameable is document has) asked

  pub unjudged_replies : {E : Type 0} (stop : ActiveStop) (named : NamedStop) (result : Result Reply E) → StopsCheck draft plan stop
      → stop ≢ active.NoMemory → IsNameable draft (as_plan_stop stop) → named ≡ named_of draft (as_plan_stop stop)
      → IfOk result (λ reply. reply.kind ≡ kinds.Refused) → IfOk result (λ reply. reply.line ≡ line_of (refusal_shown (refusals.Plan named)))
      → IfOk result (RepliesToPlan draft plan)
  unjudged_replies stop named (Ok reply) due other nameable is refuses line_is =
      unjudged_reply stop named reply due other nameable is refuses line_is
  unjudged_replies stop named (Err e) due other nameable is refuses line_is = _

-- what replies to all documents with a plan and a project replies to the one that has them, whichever rules there are
pub replies_to_judged : {E : Type 0} (draft : Draft) (plan : Plan) (document : Document) (result : Result Reply E)
    → HasJudged document draft plan → IfOk result (RepliesToPlan draft plan)
    → IfOk result (λ reply. (rules : List Asked) → IsReplyTo rules jobs.Check document reply)
replies_to_judged draft plan document (Ok reply) has replies = replies document has
replies_to_judged draft plan document (Err e) has replies = _

-- the plan of a document whose entries were made, and its project after them
pub made_judged : (document : Document) (before after : Changes) (entries : List Entry) (draft : Draft) (plan : Plan)
    → before ≡ fresh document.project → entries ≡ document.entries → after ≡ after_entries before entries → draft ≡ after.draft
    → document.plan ≡ Some plan → HasJudged document draft plan
made_judged document before after entries draft plan is_fresh are_entries made is_draft printed = record {
  draft_is = sym (
      is_draft
      ∙ ap (λ (c : Changes). c.draft) made
      ∙ ap₂ (λ (c : Changes) (es : List Entry). (after_entries c es).draft) is_fresh are_entries
      );
  plan_is = printed;
}
