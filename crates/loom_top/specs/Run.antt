-- What the words ask for, and what a run has written when it ends.
use Rattle.std.specs.Prelude.{ℕ, true, List, Option, Some, ◌≡◌, ◌⊎◌, IfSome}
use Rattle.std.specs.Io.KnownBytes.{Appends}
use Rattle.clap.specs.Words.{subcommand_of, takes}
use Rattle.loom_base.specs.Streams.{AppendsPart}
use Rattle.loom_rules.specs.Judged.{Asked}
use Rattle.loom_words.specs.Command.{loom_app}
use Rattle.loom_words.specs.Jobs.{job_in}
use Rattle.loom_words.specs.declared.job.Job.{Job}
use Rattle.loom_words.specs.declared.job.Job.TheVariants as jobs
use Rattle.loom_top.specs.declared.job.DocumentJob.{DocumentJob}
use Rattle.loom_top.specs.declared.job.DocumentJob.TheVariants as documents
use Rattle.loom_top.specs.declared.reply.ReplyKind.{ReplyKind}
use Rattle.loom_top.specs.declared.reply.ReplyKind.TheVariants as kinds
use Rattle.loom_top.specs.declared.status.Status.{Status}
use Rattle.loom_top.specs.declared.status.Status.TheVariants.{Done, Refused, Usage, ReadFault, WriteFault, NoMemory, CheckedNo}
use Rattle.loom_top.specs.Replies.{IsReply}
use Rattle.loom_top.specs.Trials.{IsTrialReply}

-- the exit status of the program
abbrev pub exit_number : Status → ℕ
exit_number Done = 0
exit_number Refused = 1
exit_number Usage = 2
exit_number ReadFault = 3
exit_number WriteFault = 4
exit_number NoMemory = 5
exit_number CheckedNo = 6

-- the status where a reply of a kind was written whole
abbrev pub status_of : ReplyKind → Status
status_of kinds.Done = Done
status_of kinds.CheckedNo = CheckedNo
status_of kinds.Refused = Refused

-- the words ask for a job: clap's definition of the program's command takes them, and means it by them
pub record AskFor (job : Job) (words : List (List ℕ)) : Type 0 where
  pub taken : takes loom_app words ≡ true
  pub meant : job_in (subcommand_of loom_app words) ≡ Some job

-- the words ask for some job
abbrev pub Ask : List (List ℕ) → Type 0
Ask words = (job : Job) × AskFor job words

-- the words ask for a job with a document
abbrev pub AskForDocument : DocumentJob → List (List ℕ) → Type 0
AskForDocument documents.Plan words = AskFor jobs.Plan words
AskForDocument documents.Extract words = AskFor jobs.Extract words
AskForDocument documents.Check words = AskFor jobs.Check words

-- a line of this kind was written whole
pub record Writes (IsLine : List ℕ → Type 0) (old new : Option (List ℕ)) : Type 0 where
  pub line : List ℕ
  pub is_line : IsLine line
  pub written : Appends old new line

-- a front of a line of one of these kinds was written that isn't all of it
pub record WritesPart (IsLine : ReplyKind → List ℕ → Type 0) (old new : Option (List ℕ)) : Type 0 where
  pub kind : ReplyKind
  pub line : List ℕ
  pub is_line : IsLine kind line
  pub part : AppendsPart old new line

-- what is written of a line of these kinds, by the status: all of it, or a front
pub record WritesBy (IsLine : ReplyKind → List ℕ → Type 0) (old new : Option (List ℕ)) (status : Status) : Type 0 where
  pub done : status ≡ Done → Writes (IsLine kinds.Done) old new
  pub checked_no : status ≡ CheckedNo → Writes (IsLine kinds.CheckedNo) old new
  pub refused : status ≡ Refused → Writes (IsLine kinds.Refused) old new
  pub cut : status ≡ WriteFault → WritesPart IsLine old new

-- what `run` writes under each command, where the source had the bytes `left`
pub record WritesAsAsked (rules : List Asked) (words : List (List ℕ)) (left old new : Option (List ℕ)) (status : Status) : Type 0 where
  pub plan : AskFor jobs.Plan words → IfSome left (λ input. WritesBy (IsReply rules documents.Plan input) old new status)
  pub extract : AskFor jobs.Extract words → IfSome left (λ input. WritesBy (IsReply rules documents.Extract input) old new status)
  pub check : AskFor jobs.Check words → IfSome left (λ input. WritesBy (IsReply rules documents.Check input) old new status)
  pub trial : (number : ℕ) → AskFor (jobs.Trial number) words → WritesBy (IsTrialReply number) old new status

-- the answers under which nothing was written
abbrev pub IsSilent : Status → Type 0
IsSilent status = (status ≡ Usage) ⊎ (status ≡ ReadFault) ⊎ (status ≡ NoMemory)

-- the answers to what is accepted, where no fault rose
abbrev pub IsDoneOrNoMemory : Status → Type 0
IsDoneOrNoMemory status = (status ≡ Done) ⊎ (status ≡ NoMemory)
