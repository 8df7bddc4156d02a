-- What a plan's line and a stop reply to a document.
use Rattle.std.proofs.Common.{◌≡◌, ℕ, List, [], Result, Ok, Err, refl, sym, ap, ap₂, subst, ◌∙◌, IfOk}
use Rattle.loom_json.specs.Text.{line_of}
use Rattle.loom_project.specs.declared.draft.Draft.{Draft}
use Rattle.loom_types.specs.declared.plan.Plan.{Plan}
use Rattle.loom_active.specs.RightPlan.{IsRight}
use Rattle.loom_rules.specs.Judged.{Asked}
use Rattle.loom_types.specs.declared.stop.PlanStop.{PlanStop}
use Rattle.loom_answer.specs.Stops.{IsNameable, named_of}
use Rattle.loom_answer.specs.declared.named_stop.NamedStop.{NamedStop}
use Rattle.loom_answer.specs.declared.outcome.Outcome.{Outcome}
use Rattle.loom_answer.specs.Answer.{answer_of}
use Rattle.loom_plan.specs.FirstStop.{FirstStop, HasPlan}
use Rattle.loom_plan.specs.PlanOf.{IsPlanOf}
use Rattle.loom_undo.specs.Changes.{Changes}
use Rattle.loom_session.specs.Session.{SessionView}
use Rattle.loom_reader.specs.declared.document.Document.{Document}
use Rattle.loom_reader.specs.declared.entry.Entry.{Entry}
use Rattle.loom_top.specs.Entries.{fresh, after_entries, project_after, AreOutcomes}
use Rattle.loom_top.specs.Refusals.{refusal_shown}
use Rattle.loom_top.specs.Replies.{IsRead, IsReply}
use Rattle.loom_top.specs.RepliesInside.{IsLineOf, IsStopReply, HasParts, RepliesToParts, IsReplyTo}
use Rattle.loom_top.specs.declared.job.DocumentJob.TheVariants as jobs
use Rattle.loom_top.specs.declared.reply.Reply.{Reply}
use Rattle.loom_top.specs.declared.reply.ReplyKind.TheVariants as kinds
use Rattle.loom_top.specs.declared.refusal.Refusal.TheVariants as refusals
use Rattle.loom_top.proofs.Documents.{refuses_document, of_refusing}

-- the project of a document of these parts after its entries
after_parts : (document : Document) (version : ℕ) (draft after : Draft) (entries : List Entry) (limits : List ℕ)
    → HasParts document version draft entries limits → after ≡ (after_entries (fresh draft) entries).draft → after ≡ project_after document
after_parts document version draft after entries limits has is =
    is ∙ sym (ap₂ (λ (d : Draft) (es : List Entry). (after_entries (fresh d) es).draft) has.draft_is has.entries_are)

-- a plan's line replies to each document of these parts
pub plan_replies : (rules : List Asked) (version : ℕ) (draft after : Draft) (entries : List Entry) (limits : List ℕ) (outcomes : List Outcome) (plan : Plan)
    (line : List ℕ) → AreOutcomes (fresh draft) entries outcomes → after ≡ (after_entries (fresh draft) entries).draft
    → IsPlanOf after plan → IsRight after plan → HasPlan after → IsLineOf rules version outcomes after plan limits line
    → (document : Document) → HasParts document version draft entries limits
    → (input : List ℕ) → IsRead jobs.Plan input document → IsReply rules jobs.Plan input kinds.Done line
plan_replies rules version draft after entries limits outcomes plan line told is planned right has_plan lines document has input read =
    let same = after_parts document version draft after entries limits has is in (
      record { document = document; read = read; has_answer = subst HasPlan same has_plan },
      record {
        outcomes = outcomes;
        told = rw (has.draft_is, has.entries_are) told;
        plan = plan;
        planned = subst (λ (d : Draft). IsPlanOf d plan) same planned;
        right = subst (λ (d : Draft). IsRight d plan) same right;
        reports = lines.reports;
        reported = rw has.limits_are lines.reported;
        line_is = lines.line_is
            ∙ ap₂ (λ (v : ℕ) (d : Draft). line_of (answer_of v outcomes plan d lines.reports)) (sym has.version_is) same;
      },
    )

-- a stop's line replies to each document of these parts
pub stop_replies : (rules : List Asked) (version : ℕ) (draft after : Draft) (entries : List Entry) (limits : List ℕ) (reply : Reply)
    → after ≡ (after_entries (fresh draft) entries).draft → IsStopReply after reply → RepliesToParts rules version draft entries limits reply
stop_replies rules version draft after entries limits reply is stops document has =
    let same = after_parts document version draft after entries limits has is in
    let here : IsStopReply (project_after document) reply = subst (λ (d : Draft). IsStopReply d reply) same stops in
    refuses_document jobs.Plan (refusals.Plan (named_of (project_after document) here.stop)) reply here.refuses here.line_is document
    (here.stop, here.first, here.nameable, refl) rules

-- the same of results
pub stops_reply : {E : Type 0} (rules : List Asked) (version : ℕ) (draft after : Draft) (entries : List Entry) (limits : List ℕ) (result : Result Reply E)
    → after ≡ (after_entries (fresh draft) entries).draft → IfOk result (IsStopReply after)
    → IfOk result (RepliesToParts rules version draft entries limits)
stops_reply rules version draft after entries limits (Ok reply) is stops = stop_replies rules version draft after entries limits reply is stops
stops_reply rules version draft after entries limits (Err e) is stops = _

-- a document has its own parts
pub its_parts : (document : Document) → HasParts document document.version document.project document.entries document.limits
its_parts document = record { version_is = refl; draft_is = refl; entries_are = refl; limits_are = refl }

-- what replies to all documents of some parts replies to the one that has them
pub replies_to_it : {E : Type 0} (rules : List Asked) (version : ℕ) (draft : Draft) (entries : List Entry) (limits : List ℕ) (document : Document)
    (result : Result Reply E) → HasParts document version draft entries limits → IfOk result (RepliesToParts rules version draft entries limits)
    → IfOk result (IsReplyTo rules jobs.Plan document)
replies_to_it rules version draft entries limits document (Ok reply) has replies = replies document has
replies_to_it rules version draft entries limits document (Err e) has replies = _

-- a refusal by a first stop
pub stop_reply : {E : Type 0} (draft : Draft) (stop : PlanStop) (named : NamedStop) (result : Result Reply E) → FirstStop draft stop → IsNameable draft stop
    → named ≡ named_of draft stop → IfOk result (λ reply. reply.kind ≡ kinds.Refused)
    → IfOk result (λ reply. reply.line ≡ line_of (refusal_shown (refusals.Plan named))) → IfOk result (IsStopReply draft)
stop_reply draft stop named result first nameable same =
    of_refusing (IsStopReply draft) (refusals.Plan named) result
    (λ reply refuses line_is. record {
      stop = stop;
      first = first;
      nameable = nameable;
      refuses = refuses;
      line_is = line_is ∙ ap (λ (n : NamedStop). line_of (refusal_shown (refusals.Plan n))) same;
    })

-- what a session is after the entries, where they were made over a fresh one
module _ (before between later : Changes) (project : Draft) (entries : List Entry) (is_fresh : before ≡ fresh before.draft)
    (made : between ≡ after_entries before entries) (same : later ≡ between) (is_project : project ≡ later.draft) where
  pub project_between : project ≡ between.draft
  project_between = is_project ∙ ap (λ (c : Changes). c.draft) same

  after_made : between.draft ≡ (after_entries (fresh before.draft) entries).draft
  after_made = ap (λ (c : Changes). c.draft) made ∙ ap (λ (c : Changes). (after_entries c entries).draft) is_fresh

  pub edited_replies : (rules : List Asked) (version : ℕ) (limits : List ℕ) (outcomes slice : List Outcome) (plan : Plan) (line : List ℕ)
      → AreOutcomes before entries outcomes → slice ≡ outcomes
      → IsPlanOf between.draft plan → IsRight between.draft plan → HasPlan between.draft → IsLineOf rules version slice project plan limits line
      → (document : Document) → HasParts document version before.draft entries limits
      → (input : List ℕ) → IsRead jobs.Plan input document → IsReply rules jobs.Plan input kinds.Done line
  edited_replies rules version limits outcomes slice plan line told as_told planned right has_plan lines =
      plan_replies rules version before.draft between.draft entries limits outcomes plan line
      (subst (λ (c : Changes). AreOutcomes c entries outcomes) is_fresh told) after_made planned right has_plan
      (subst (λ (d : Draft). IsLineOf rules version outcomes d plan limits line) project_between
      (subst (λ (os : List Outcome). IsLineOf rules version os project plan limits line) as_told lines))

  pub edited_stops : {E : Type 0} (rules : List Asked) (version : ℕ) (limits : List ℕ) (result : Result Reply E)
      → IfOk result (IsStopReply project) → IfOk result (RepliesToParts rules version before.draft entries limits)
  edited_stops rules version limits result stops =
      stops_reply rules version before.draft project entries limits result (project_between ∙ after_made) stops

-- a session over a draft has no past
pub new_is_fresh : (session : SessionView) (draft : Draft) → session ≡ (record { changes = record { draft = draft; past = []; undone = [] }; kept = []; built = 0 })
    → session.changes ≡ fresh session.changes.draft
new_is_fresh session draft is = rw is refl

pub new_over : (session : SessionView) (draft : Draft) → session ≡ (record { changes = record { draft = draft; past = []; undone = [] }; kept = []; built = 0 })
    → session.changes ≡ fresh draft
new_over session draft is = ap (λ (s : SessionView). s.changes) is
