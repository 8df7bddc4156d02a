use Rattle.std.proofs.Common.{inl, inr, refl, sym, subst}
use Rattle.loom_words.specs.declared.job.Job.TheVariants as jobs
use Rattle.loom_top.specs.Replies.{Accepts}
use Rattle.loom_top.specs.Trials.{HasSummary}
use Rattle.loom_top.specs.declared.job.DocumentJob.{DocumentJob}
use Rattle.loom_top.specs.declared.status.Status.TheVariants.{Usage, NoMemory}
use Rattle.loom_top.proofs.AskedWords.{asks_job, plan_is_not_check, extract_is_not_check, check_is_not_trial, takes_none, asks_plan, asks_extract, asks_check, trial_asks_none, untaken_ask_none, plan_asks_no_trial, extract_asks_no_trial, check_asks_no_trial, trial_asks_trial, not_taken, is_not_taken}
use Rattle.loom_top.proofs.Written.{plan_writes, extract_writes, check_writes, trial_writes, silent_writes}
use Rattle.loom_top.proofs.program.run.Goals as goal

-- ---- plan

pub returns-in-Ok-Plan-clause-writes : goal.returns-in-Ok-Plan-clause-writes
returns-in-Ok-Plan-clause-writes g c =
    plan_writes _ _ _ _ _ c.with_document.result (rw c.in-Ok-Plan.field-0-is at c.in-Ok-Plan.ensures.job) c.with_document.ensures.writes

pub returns-in-Ok-Plan-clause-asked : goal.returns-in-Ok-Plan-clause-asked
returns-in-Ok-Plan-clause-asked g c = λ usage memory.
    (jobs.Plan, record { taken = c.in-Ok-Plan.ensures.taken; meant = rw c.in-Ok-Plan.field-0-is at c.in-Ok-Plan.ensures.job })

pub returns-in-Ok-Plan-clause-trial_unread : goal.returns-in-Ok-Plan-clause-trial_unread
returns-in-Ok-Plan-clause-trial_unread g c = λ trial asked.
    absurd (plan_asks_no_trial _ (rw c.in-Ok-Plan.field-0-is at c.in-Ok-Plan.ensures.job) trial asked)

pub returns-in-Ok-Plan-clause-complete : goal.returns-in-Ok-Plan-clause-complete
returns-in-Ok-Plan-clause-complete g c = λ job input asked left accepted read wrote.
    c.with_document.ensures.complete input left
    (subst (λ (j : DocumentJob). Accepts j input) (asks_plan _ (rw c.in-Ok-Plan.field-0-is at c.in-Ok-Plan.ensures.job) job asked) accepted)
    read wrote

pub returns-in-Ok-Plan-clause-trial_complete : goal.returns-in-Ok-Plan-clause-trial_complete
returns-in-Ok-Plan-clause-trial_complete g c = λ trial asked.
    absurd (plan_asks_no_trial _ (rw c.in-Ok-Plan.field-0-is at c.in-Ok-Plan.ensures.job) trial asked)

pub returns-in-Ok-Plan-clause-own : goal.returns-in-Ok-Plan-clause-own
returns-in-Ok-Plan-clause-own g c = λ input asked.
    absurd (plan_is_not_check (asks_job _ jobs.Plan (rw c.in-Ok-Plan.field-0-is at c.in-Ok-Plan.ensures.job) jobs.Check asked))

-- ---- extract

pub returns-in-Ok-Extract-clause-writes : goal.returns-in-Ok-Extract-clause-writes
returns-in-Ok-Extract-clause-writes g c =
    extract_writes _ _ _ _ _ c.with_document-in-Ok-Extract.result (rw c.in-Ok-Extract.field-0-is at c.in-Ok-Extract.ensures.job)
    c.with_document-in-Ok-Extract.ensures.writes

pub returns-in-Ok-Extract-clause-asked : goal.returns-in-Ok-Extract-clause-asked
returns-in-Ok-Extract-clause-asked g c = λ usage memory.
    (jobs.Extract, record { taken = c.in-Ok-Extract.ensures.taken; meant = rw c.in-Ok-Extract.field-0-is at c.in-Ok-Extract.ensures.job })

pub returns-in-Ok-Extract-clause-trial_unread : goal.returns-in-Ok-Extract-clause-trial_unread
returns-in-Ok-Extract-clause-trial_unread g c = λ trial asked.
    absurd (extract_asks_no_trial _ (rw c.in-Ok-Extract.field-0-is at c.in-Ok-Extract.ensures.job) trial asked)

pub returns-in-Ok-Extract-clause-complete : goal.returns-in-Ok-Extract-clause-complete
returns-in-Ok-Extract-clause-complete g c = λ job input asked left accepted read wrote.
    c.with_document-in-Ok-Extract.ensures.complete input left
    (subst (λ (j : DocumentJob). Accepts j input) (asks_extract _ (rw c.in-Ok-Extract.field-0-is at c.in-Ok-Extract.ensures.job) job asked) accepted)
    read wrote

pub returns-in-Ok-Extract-clause-trial_complete : goal.returns-in-Ok-Extract-clause-trial_complete
returns-in-Ok-Extract-clause-trial_complete g c = λ trial asked.
    absurd (extract_asks_no_trial _ (rw c.in-Ok-Extract.field-0-is at c.in-Ok-Extract.ensures.job) trial asked)

pub returns-in-Ok-Extract-clause-own : goal.returns-in-Ok-Extract-clause-own
returns-in-Ok-Extract-clause-own g c = λ input asked.
    absurd (extract_is_not_check (asks_job _ jobs.Extract (rw c.in-Ok-Extract.field-0-is at c.in-Ok-Extract.ensures.job) jobs.Check asked))

-- ---- trial

pub with_trial-requires : goal.with_trial-requires
with_trial-requires g c = rw c.in-Ok-Trial.field-0-is at c.in-Ok-Trial.ensures.range

pub returns-in-Ok-Trial-clause-writes : goal.returns-in-Ok-Trial-clause-writes
returns-in-Ok-Trial-clause-writes g c =
    trial_writes _ _ _ _ _ c.with_trial.result c.in-Ok-Trial.trial (rw c.in-Ok-Trial.field-0-is at c.in-Ok-Trial.ensures.job) c.with_trial.ensures.writes

pub returns-in-Ok-Trial-clause-asked : goal.returns-in-Ok-Trial-clause-asked
returns-in-Ok-Trial-clause-asked g c = λ usage memory. (
  jobs.Trial c.in-Ok-Trial.trial,
  record { taken = c.in-Ok-Trial.ensures.taken; meant = rw c.in-Ok-Trial.field-0-is at c.in-Ok-Trial.ensures.job },
)

pub returns-in-Ok-Trial-clause-at_end : goal.returns-in-Ok-Trial-clause-at_end
returns-in-Ok-Trial-clause-at_end g c = λ job asked.
    absurd (trial_asks_none _ c.in-Ok-Trial.trial (rw c.in-Ok-Trial.field-0-is at c.in-Ok-Trial.ensures.job) job asked)

pub returns-in-Ok-Trial-clause-at_most : goal.returns-in-Ok-Trial-clause-at_most
returns-in-Ok-Trial-clause-at_most g c = λ job asked.
    absurd (trial_asks_none _ c.in-Ok-Trial.trial (rw c.in-Ok-Trial.field-0-is at c.in-Ok-Trial.ensures.job) job asked)

pub returns-in-Ok-Trial-clause-complete : goal.returns-in-Ok-Trial-clause-complete
returns-in-Ok-Trial-clause-complete g c = λ job input asked.
    absurd (trial_asks_none _ c.in-Ok-Trial.trial (rw c.in-Ok-Trial.field-0-is at c.in-Ok-Trial.ensures.job) job asked)

pub returns-in-Ok-Trial-clause-trial_complete : goal.returns-in-Ok-Trial-clause-trial_complete
returns-in-Ok-Trial-clause-trial_complete g c = λ trial asked has.
    c.with_trial.ensures.complete
    (subst HasSummary (trial_asks_trial _ c.in-Ok-Trial.trial (rw c.in-Ok-Trial.field-0-is at c.in-Ok-Trial.ensures.job) trial asked) has)

pub returns-in-Ok-Trial-clause-no_at_end : goal.returns-in-Ok-Trial-clause-no_at_end
returns-in-Ok-Trial-clause-no_at_end g c = λ job asked.
    absurd (trial_asks_none _ c.in-Ok-Trial.trial (rw c.in-Ok-Trial.field-0-is at c.in-Ok-Trial.ensures.job) job asked)

pub returns-in-Ok-Trial-clause-own : goal.returns-in-Ok-Trial-clause-own
returns-in-Ok-Trial-clause-own g c = λ input asked.
    absurd (check_is_not_trial c.in-Ok-Trial.trial
    (sym (asks_job _ (jobs.Trial c.in-Ok-Trial.trial) (rw c.in-Ok-Trial.field-0-is at c.in-Ok-Trial.ensures.job) jobs.Check asked)))

-- ---- check

pub returns-in-Ok-Check-clause-writes : goal.returns-in-Ok-Check-clause-writes
returns-in-Ok-Check-clause-writes g c =
    check_writes _ _ _ _ _ c.with_document-in-Ok-Check.result (rw c.in-Ok-Check.field-0-is at c.in-Ok-Check.ensures.job)
    c.with_document-in-Ok-Check.ensures.writes

pub returns-in-Ok-Check-clause-asked : goal.returns-in-Ok-Check-clause-asked
returns-in-Ok-Check-clause-asked g c = λ usage memory.
    (jobs.Check, record { taken = c.in-Ok-Check.ensures.taken; meant = rw c.in-Ok-Check.field-0-is at c.in-Ok-Check.ensures.job })

pub returns-in-Ok-Check-clause-trial_unread : goal.returns-in-Ok-Check-clause-trial_unread
returns-in-Ok-Check-clause-trial_unread g c = λ trial asked.
    absurd (check_asks_no_trial _ (rw c.in-Ok-Check.field-0-is at c.in-Ok-Check.ensures.job) trial asked)

pub returns-in-Ok-Check-clause-complete : goal.returns-in-Ok-Check-clause-complete
returns-in-Ok-Check-clause-complete g c = λ job input asked left accepted read wrote.
    c.with_document-in-Ok-Check.ensures.complete input left
    (subst (λ (j : DocumentJob). Accepts j input) (asks_check _ (rw c.in-Ok-Check.field-0-is at c.in-Ok-Check.ensures.job) job asked) accepted)
    read wrote

pub returns-in-Ok-Check-clause-own : goal.returns-in-Ok-Check-clause-own
returns-in-Ok-Check-clause-own g c = λ input asked left own read wrote.
    c.with_document-in-Ok-Check.ensures.own input refl left own read wrote

pub returns-in-Ok-Check-clause-trial_complete : goal.returns-in-Ok-Check-clause-trial_complete
returns-in-Ok-Check-clause-trial_complete g c = λ trial asked.
    absurd (check_asks_no_trial _ (rw c.in-Ok-Check.field-0-is at c.in-Ok-Check.ensures.job) trial asked)

-- ---- words that aren't taken

pub returns-in-Err-Usage-clause-writes : goal.returns-in-Err-Usage-clause-writes
returns-in-Err-Usage-clause-writes g c = silent_writes _ _ _ _ _ Usage (inl refl)

pub returns-in-Err-Usage-clause-usage : goal.returns-in-Err-Usage-clause-usage
returns-in-Err-Usage-clause-usage g c = λ usage. c.in-Err-Usage.ensures.usage c.in-Err-Usage.field-0-is

pub returns-in-Err-Usage-clause-taken : goal.returns-in-Err-Usage-clause-taken
returns-in-Err-Usage-clause-taken g c = λ job named usage.
    is_not_taken _ (c.words_that_are_taken.ensures.taken _ job named) (c.in-Err-Usage.ensures.usage c.in-Err-Usage.field-0-is)

pub returns-in-Err-Usage-clause-asked : goal.returns-in-Err-Usage-clause-asked
returns-in-Err-Usage-clause-asked g c = λ usage memory. absurd (usage refl)

pub returns-in-Err-Usage-clause-at_most : goal.returns-in-Err-Usage-clause-at_most
returns-in-Err-Usage-clause-at_most g c = λ job asked. takes_none _ 67108865

pub returns-in-Err-Usage-clause-complete : goal.returns-in-Err-Usage-clause-complete
returns-in-Err-Usage-clause-complete g c = λ job input asked.
    absurd (untaken_ask_none _ (c.in-Err-Usage.ensures.usage c.in-Err-Usage.field-0-is) job asked)

pub returns-in-Err-Usage-clause-trial_complete : goal.returns-in-Err-Usage-clause-trial_complete
returns-in-Err-Usage-clause-trial_complete g c = λ trial asked.
    absurd (not_taken _ (jobs.Trial trial) (c.in-Err-Usage.ensures.usage c.in-Err-Usage.field-0-is) asked)

pub returns-in-Err-Usage-clause-own : goal.returns-in-Err-Usage-clause-own
returns-in-Err-Usage-clause-own g c = λ input asked.
    absurd (not_taken _ jobs.Check (c.in-Err-Usage.ensures.usage c.in-Err-Usage.field-0-is) asked)

-- ---- no memory for the words

pub returns-clause-writes : goal.returns-clause-writes
returns-clause-writes g c = silent_writes _ _ _ _ _ NoMemory (inr (inr refl))

pub returns-clause-asked : goal.returns-clause-asked
returns-clause-asked g c = λ usage memory. absurd (memory refl)

pub returns-clause-at_most : goal.returns-clause-at_most
returns-clause-at_most g c = λ job asked. takes_none _ 67108865

pub returns-clause-complete : goal.returns-clause-complete
returns-clause-complete g c = λ job input asked left accepted read wrote. inr refl

pub returns-clause-trial_complete : goal.returns-clause-trial_complete
returns-clause-trial_complete g c = λ trial asked has wrote. inr refl

pub returns-clause-own : goal.returns-clause-own
returns-clause-own g c = λ input asked left own read wrote. inr refl
