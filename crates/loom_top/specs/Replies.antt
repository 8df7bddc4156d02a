-- Which bytes a job accepts, why it refuses the others, and which line replies to them.
use Rattle.std.specs.Prelude.{ℕ, List, Some, None, Ok, Err, ◌≡◌, ◌<◌, ◌≤◌, length}
use Rattle.loom_base.specs.declared.limits.Which.{Which}
use Rattle.loom_json.specs.Text.{read_json, line_of}
use Rattle.loom_project.specs.declared.fault.ProjectFault.{ProjectFault}
use Rattle.loom_rules.specs.Judged.{Asked}
use Rattle.loom_types.specs.declared.plan.Plan.{Plan}
use Rattle.loom_reader.specs.declared.document.Document.{Document}
use Rattle.loom_reader.specs.declared.fault.ReadFault.TheVariants as faults
use Rattle.loom_reader.specs.Document.{document_of}
use Rattle.loom_top.specs.Refusals.{refusal_shown}
use Rattle.loom_top.specs.Entries.{project_after}
use Rattle.loom_top.specs.Jobs.{want_of, IsRefused, HasAnswer, IsAnswer, IsDenial}
use Rattle.loom_top.specs.Verdicts.{IsOwn}
use Rattle.loom_top.specs.declared.job.DocumentJob.{DocumentJob}
use Rattle.loom_top.specs.declared.job.DocumentJob.TheVariants as jobs
use Rattle.loom_top.specs.declared.refusal.Refusal.{Refusal}
use Rattle.loom_top.specs.declared.reply.ReplyKind.{ReplyKind}
use Rattle.loom_top.specs.declared.reply.ReplyKind.TheVariants as kinds
use Rattle.loom_top.specs.declared.refusal.Refusal.TheVariants as refusals

-- the bytes are no more than an input may have, and they are the document that the job needs
pub record IsRead (job : DocumentJob) (input : List ℕ) (document : Document) : Type 0 where
  pub short : length input ≤ 67108864
  pub document_is : document_of (want_of job) input ≡ Ok document

-- why a job refuses bytes: the first cause that there is
pub data Refuses (job : DocumentJob) (input : List ℕ) : Refusal → Type 0 where
  too_long : 67108864 < length input → Refuses job input refusals.TooLong
  not_json : length input ≤ 67108864 → read_json input ≡ None → Refuses job input refusals.NotJson
  not_shaped : length input ≤ 67108864 → (path : List ℕ)
      → document_of (want_of job) input ≡ Err (faults.WrongShape path) → Refuses job input (refusals.WrongShape path)
  not_sound : length input ≤ 67108864 → (fault : ProjectFault)
      → document_of (want_of job) input ≡ Err (faults.Project fault) → Refuses job input (refusals.Project fault)
  too_many : length input ≤ 67108864 → (which : Which) (count : ℕ)
      → document_of (want_of job) input ≡ Err (faults.Limit which count) → Refuses job input (refusals.Limit which count)
  not_answered : (document : Document) → IsRead job input document
      → (refusal : Refusal) → IsRefused job document refusal → Refuses job input refusal

-- the bytes are a document to which the job has an answer
pub record Accepts (job : DocumentJob) (input : List ℕ) : Type 0 where
  pub document : Document
  pub read : IsRead job input document
  pub has_answer : HasAnswer job document

-- the bytes are a document whose plan is what planning its project after the entries answers
pub record HasOwnPlan (input : List ℕ) : Type 0 where
  pub document : Document
  pub read : IsRead jobs.Check input document
  pub plan : Plan
  pub printed : document.plan ≡ Some plan
  pub own : IsOwn (project_after document) plan

-- the line replies to the bytes: they are accepted and it is an answer; or it says no to their plan; or they are refused and it says why
abbrev pub IsReply : List Asked → DocumentJob → List ℕ → ReplyKind → List ℕ → Type 0
IsReply rules job input kinds.Done line = (accepted : Accepts job input) × IsAnswer rules job accepted.document line
IsReply rules job input kinds.CheckedNo line = (document : Document) × IsRead job input document × IsDenial job document line
IsReply rules job input kinds.Refused line =
    (refusal : Refusal) × Refuses job input refusal × (line ≡ line_of (refusal_shown refusal))
