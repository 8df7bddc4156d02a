-- What the parts of the program say to each other of a reply.
use Rattle.std.specs.List.{AllZip}
use Rattle.std.specs.Prelude.{◌≡◌, ℕ, List, Some}
use Rattle.loom_json.specs.Text.{line_of}
use Rattle.loom_project.specs.declared.draft.Draft.{Draft}
use Rattle.loom_types.specs.declared.plan.Plan.{Plan}
use Rattle.loom_types.specs.declared.stop.PlanStop.{PlanStop}
use Rattle.loom_rules.specs.declared.report.Report.{Report}
use Rattle.loom_rules.specs.Judged.{Asked, asked, IsReportOf}
use Rattle.loom_answer.specs.declared.outcome.Outcome.{Outcome}
use Rattle.loom_answer.specs.Answer.{answer_of}
use Rattle.loom_answer.specs.Stops.{IsNameable, named_of}
use Rattle.loom_plan.specs.FirstStop.{FirstStop}
use Rattle.loom_reader.specs.declared.document.Document.{Document}
use Rattle.loom_reader.specs.declared.entry.Entry.{Entry}
use Rattle.loom_top.specs.Entries.{project_after}
use Rattle.loom_top.specs.Refusals.{refusal_shown}
use Rattle.loom_top.specs.Replies.{IsRead, IsReply}
use Rattle.loom_top.specs.declared.job.DocumentJob.{DocumentJob}
use Rattle.loom_top.specs.declared.job.DocumentJob.TheVariants as jobs
use Rattle.loom_top.specs.declared.refusal.Refusal.TheVariants as refusals
use Rattle.loom_top.specs.declared.reply.Reply.{Reply}
use Rattle.loom_top.specs.declared.reply.ReplyKind.TheVariants as kinds

-- the reply to all bytes that are read as the document
abbrev pub IsReplyTo : List Asked → DocumentJob → Document → Reply → Type 0
IsReplyTo rules job document reply =
    (input : List ℕ) → IsRead job input document → IsReply rules job input reply.kind reply.line

-- the line has these outcomes, the plan, the project, and for each rule under the limits the report over the plan's wires
pub record IsLineOf (rules : List Asked) (version : ℕ) (outcomes : List Outcome) (draft : Draft) (plan : Plan) (limits : List ℕ)
    (line : List ℕ) : Type 0 where
  pub reports : List Report
  pub reported : AllZip (IsReportOf plan.wires) (asked limits rules) reports
  pub line_is : line ≡ line_of (answer_of version outcomes plan draft reports)

-- the reply refuses by a first stop of the draft's planning, in the draft's names
pub record IsStopReply (draft : Draft) (reply : Reply) : Type 0 where
  pub stop : PlanStop
  pub first : FirstStop draft stop
  pub nameable : IsNameable draft stop
  pub refuses : reply.kind ≡ kinds.Refused
  pub line_is : reply.line ≡ line_of (refusal_shown (refusals.Plan (named_of draft stop)))

-- what planning needs of a document
pub record HasParts (document : Document) (version : ℕ) (draft : Draft) (entries : List Entry) (limits : List ℕ) : Type 0 where
  pub version_is : document.version ≡ version
  pub draft_is : document.project ≡ draft
  pub entries_are : document.entries ≡ entries
  pub limits_are : document.limits ≡ limits

-- the reply under `plan` to each document that has these parts
abbrev pub RepliesToParts : List Asked → ℕ → Draft → List Entry → List ℕ → Reply → Type 0
RepliesToParts rules version draft entries limits reply =
    (document : Document) → HasParts document version draft entries limits → IsReplyTo rules jobs.Plan document reply

-- the document's project after its entries, and its plan
pub record HasJudged (document : Document) (draft : Draft) (plan : Plan) : Type 0 where
  pub draft_is : project_after document ≡ draft
  pub plan_is : document.plan ≡ Some plan

-- the reply under `check`, whichever rules there are, to each document that has these
abbrev pub RepliesToPlan : Draft → Plan → Reply → Type 0
RepliesToPlan draft plan reply =
    (document : Document) → HasJudged document draft plan → (rules : List Asked) → IsReplyTo rules jobs.Check document reply

-- the document's project after its entries, its plan and the names of its choice
pub record HasChoice (document : Document) (draft : Draft) (plan : Plan) (names : List (List ℕ)) : Type 0 where
  pub draft_is : project_after document ≡ draft
  pub plan_is : document.plan ≡ Some plan
  pub names_are : document.choice ≡ names

-- the reply under `extract`, whichever rules there are, to each document that has these parts
abbrev pub RepliesToChoice : Draft → Plan → List (List ℕ) → Reply → Type 0
RepliesToChoice draft plan names reply =
    (document : Document) → HasChoice document draft plan names → (rules : List Asked) → IsReplyTo rules jobs.Extract document reply
