-- What a line that was written shows.
use Rattle.std.proofs.Common.{◌≡◌, ◌≢◌, ℕ, List, Option, Some, None, IfSome, subst, sym, ap, ◌∙◌, inl, inr, refl}
use Rattle.std.specs.Io.KnownBytes.{Appends}
use Rattle.clap.specs.Words.{subcommand_of}
use Rattle.loom_base.specs.Streams.{AppendsPart}
use Rattle.loom_rules.specs.Judged.{Asked}
use Rattle.loom_words.specs.Command.{loom_app}
use Rattle.loom_words.specs.Jobs.{job_in}
use Rattle.loom_words.specs.declared.job.Job.TheVariants as jobs
use Rattle.loom_top.specs.declared.job.DocumentJob.TheVariants as documents
use Rattle.loom_top.specs.Replies.{IsReply}
use Rattle.loom_top.specs.Trials.{IsTrialReply}
use Rattle.loom_top.specs.Run.{status_of, Writes, WritesBy, WritesAsAsked, IsSilent}
use Rattle.loom_top.specs.declared.reply.ReplyKind.{ReplyKind}
use Rattle.loom_top.specs.declared.reply.ReplyKind.TheVariants as kinds
use Rattle.loom_top.specs.declared.status.Status.{Status}
use Rattle.loom_top.specs.declared.status.Status.TheVariants as status
use Rattle.loom_top.proofs.AskedWords.{asks_job, plan_is_not_extract, plan_is_not_check, extract_is_not_check, plan_is_not_trial, extract_is_not_trial, check_is_not_trial, same_trial}

done_is_not_cut : status.Done ≢ status.WriteFault
done_is_not_cut e = absurd (cc)

no_is_not_cut : status.CheckedNo ≢ status.WriteFault
no_is_not_cut e = absurd (cc)

refused_is_not_cut : status.Refused ≢ status.WriteFault
refused_is_not_cut e = absurd (cc)

-- a status tells the kind of the reply
same_kind : (kind other : ReplyKind) → status_of other ≡ status_of kind → kind ≡ other
same_kind kinds.Done kinds.Done e = refl
same_kind kinds.Done kinds.CheckedNo e = absurd (cc)
same_kind kinds.Done kinds.Refused e = absurd (cc)
same_kind kinds.CheckedNo kinds.Done e = absurd (cc)
same_kind kinds.CheckedNo kinds.CheckedNo e = refl
same_kind kinds.CheckedNo kinds.Refused e = absurd (cc)
same_kind kinds.Refused kinds.Done e = absurd (cc)
same_kind kinds.Refused kinds.CheckedNo e = absurd (cc)
same_kind kinds.Refused kinds.Refused e = refl

module _ (IsLine : ReplyKind → List ℕ → Type 0) (old new : Option (List ℕ)) (s : Status) (kind : ReplyKind) (line : List ℕ) (is : IsLine kind line)
    (whole : s ≢ status.WriteFault → (s ≡ status_of kind) × Appends old new line) (cut : s ≡ status.WriteFault → AppendsPart old new line) where
  written_whole : (other : ReplyKind) → status_of other ≢ status.WriteFault → s ≡ status_of other → Writes (IsLine other) old new
  written_whole other uncut e =
      let w = whole (λ f. uncut (sym e ∙ f)) in
      record { line = line; is_line = subst (λ (k : ReplyKind). IsLine k line) (same_kind kind other (sym e ∙ w.0)) is; written = w.1 }

  -- a reply's line is written by its status
  pub writes_reply : WritesBy IsLine old new s
  writes_reply = record {
    done = written_whole kinds.Done done_is_not_cut;
    checked_no = written_whole kinds.CheckedNo no_is_not_cut;
    refused = written_whole kinds.Refused refused_is_not_cut;
    cut = λ e. record { kind = kind; line = line; is_line = is; part = cut e };
  }

-- the same where the line is one of what a source had left
pub writes_reply_to : (IsLine : List ℕ → ReplyKind → List ℕ → Type 0) (left old new : Option (List ℕ)) (s : Status) (kind : ReplyKind) (line : List ℕ)
    → IfSome left (λ input. IsLine input kind line) → (s ≢ status.WriteFault → (s ≡ status_of kind) × Appends old new line)
    → (s ≡ status.WriteFault → AppendsPart old new line) → IfSome left (λ input. WritesBy (IsLine input) old new s)
writes_reply_to IsLine None old new s kind line is whole cut = _
writes_reply_to IsLine (Some input) old new s kind line is whole cut = writes_reply (IsLine input) old new s kind line is whole cut

-- a reply of another kind than these is done
pub done_unless : (s : Status) (kind : ReplyKind) → s ≡ status_of kind → (kind ≡ kinds.CheckedNo → ⊥) → (kind ≡ kinds.Refused → ⊥) → s ≡ status.Done
done_unless s kinds.Done is not_no not_refused = is
done_unless s kinds.CheckedNo is not_no not_refused = absurd (not_no refl)
done_unless s kinds.Refused is not_no not_refused = absurd (not_refused refl)

silent_is_not_done : (s : Status) → IsSilent s → s ≢ status.Done
silent_is_not_done s (inl usage) e = absurd (cc)
silent_is_not_done s (inr (inl fault)) e = absurd (cc)
silent_is_not_done s (inr (inr memory)) e = absurd (cc)

silent_is_not_refused : (s : Status) → IsSilent s → s ≢ status.Refused
silent_is_not_refused s (inl usage) e = absurd (cc)
silent_is_not_refused s (inr (inl fault)) e = absurd (cc)
silent_is_not_refused s (inr (inr memory)) e = absurd (cc)

silent_is_not_cut : (s : Status) → IsSilent s → s ≢ status.WriteFault
silent_is_not_cut s (inl usage) e = absurd (cc)
silent_is_not_cut s (inr (inl fault)) e = absurd (cc)
silent_is_not_cut s (inr (inr memory)) e = absurd (cc)

silent_is_not_no : (s : Status) → IsSilent s → s ≢ status.CheckedNo
silent_is_not_no s (inl usage) e = absurd (cc)
silent_is_not_no s (inr (inl fault)) e = absurd (cc)
silent_is_not_no s (inr (inr memory)) e = absurd (cc)

-- nor is it silent
pub reply_is_loud : (s : Status) (kind : ReplyKind) → s ≡ status_of kind → IsSilent s → ⊥
reply_is_loud s kinds.Done is silent = silent_is_not_done s silent is
reply_is_loud s kinds.CheckedNo is silent = silent_is_not_no s silent is
reply_is_loud s kinds.Refused is silent = silent_is_not_refused s silent is

-- a status under which nothing was written tells no line
pub writes_nothing : (IsLine : ReplyKind → List ℕ → Type 0) (old new : Option (List ℕ)) (s : Status) → IsSilent s → WritesBy IsLine old new s
writes_nothing IsLine old new s silent = record {
  done = λ e. absurd (silent_is_not_done s silent e);
  checked_no = λ e. absurd (silent_is_not_no s silent e);
  refused = λ e. absurd (silent_is_not_refused s silent e);
  cut = λ e. absurd (silent_is_not_cut s silent e);
}

pub writes_nothing_of : (IsLine : List ℕ → ReplyKind → List ℕ → Type 0) (left old new : Option (List ℕ)) (s : Status) → IsSilent s
    → IfSome left (λ input. WritesBy (IsLine input) old new s)
writes_nothing_of IsLine None old new s silent = _
writes_nothing_of IsLine (Some input) old new s silent = writes_nothing (IsLine input) old new s silent

module _ (rules : List Asked) (words : List (List ℕ)) (left old new : Option (List ℕ)) (s : Status) where
  pub plan_writes : job_in (subcommand_of loom_app words) ≡ Some jobs.Plan
      → IfSome left (λ input. WritesBy (IsReply rules documents.Plan input) old new s) → WritesAsAsked rules words left old new s
  plan_writes meant writes = record {
    plan = λ asked. writes;
    extract = λ asked. absurd (plan_is_not_extract (asks_job words jobs.Plan meant jobs.Extract asked));
    check = λ asked. absurd (plan_is_not_check (asks_job words jobs.Plan meant jobs.Check asked));
    trial = λ n asked. absurd (plan_is_not_trial n (asks_job words jobs.Plan meant (jobs.Trial n) asked));
  }

  pub extract_writes : job_in (subcommand_of loom_app words) ≡ Some jobs.Extract
      → IfSome left (λ input. WritesBy (IsReply rules documents.Extract input) old new s) → WritesAsAsked rules words left old new s
  extract_writes meant writes = record {
    plan = λ asked. absurd (plan_is_not_extract (sym (asks_job words jobs.Extract meant jobs.Plan asked)));
    extract = λ asked. writes;
    check = λ asked. absurd (extract_is_not_check (asks_job words jobs.Extract meant jobs.Check asked));
    trial = λ n asked. absurd (extract_is_not_trial n (asks_job words jobs.Extract meant (jobs.Trial n) asked));
  }

  pub check_writes : job_in (subcommand_of loom_app words) ≡ Some jobs.Check
      → IfSome left (λ input. WritesBy (IsReply rules documents.Check input) old new s) → WritesAsAsked rules words left old new s
  check_writes meant writes = record {
    plan = λ asked. absurd (plan_is_not_check (sym (asks_job words jobs.Check meant jobs.Plan asked)));
    extract = λ asked. absurd (extract_is_not_check (sym (asks_job words jobs.Check meant jobs.Extract asked)));
    check = λ asked. writes;
    trial = λ n asked. absurd (check_is_not_trial n (asks_job words jobs.Check meant (jobs.Trial n) asked));
  }

  pub trial_writes : (trial : ℕ) → job_in (subcommand_of loom_app words) ≡ Some (jobs.Trial trial)
      → WritesBy (IsTrialReply trial) old new s → WritesAsAsked rules words left old new s
  trial_writes trial meant writes = record {
    plan = λ asked. absurd (plan_is_not_trial trial (sym (asks_job words (jobs.Trial trial) meant jobs.Plan asked)));
    extract = λ asked. absurd (extract_is_not_trial trial (sym (asks_job words (jobs.Trial trial) meant jobs.Extract asked)));
    check = λ asked. absurd (check_is_not_trial trial (sym (asks_job words (jobs.Trial trial) meant jobs.Check asked)));
    trial = λ n asked.
        subst (λ (m : ℕ). WritesBy (IsTrialReply m) old new s) (same_trial trial n (asks_job words (jobs.Trial trial) meant (jobs.Trial n) asked)) writes;
  }

  pub silent_writes : IsSilent s → WritesAsAsked rules words left old new s
  silent_writes silent = record {
    plan = λ asked. writes_nothing_of (IsReply rules documents.Plan) left old new s silent;
    extract = λ asked. writes_nothing_of (IsReply rules documents.Extract) left old new s silent;
    check = λ asked. writes_nothing_of (IsReply rules documents.Check) left old new s silent;
    trial = λ n asked. writes_nothing (IsTrialReply n) old new s silent;
  }

-- what was written of a reply is not silent
pub written_is_loud : (s : Status) (kind : ReplyKind) (P : Type 0) → (s ≢ status.WriteFault → (s ≡ status_of kind) × P) → IsSilent s → ⊥
written_is_loud s kind P whole silent = reply_is_loud s kind (whole (silent_is_not_cut s silent)).0 silent

refused_is_not_done : (s : Status) → s ≡ status.Done → s ≡ status_of kinds.Refused → ⊥
refused_is_not_done s done refused = absurd (cc)

done_uncut : (s : Status) → s ≡ status.Done → s ≢ status.WriteFault
done_uncut s done e = absurd (cc)

-- a reply that was written with the status of an answer doesn't refuse
pub done_is_no_refusal : (s : Status) (kind : ReplyKind) (P : Type 0) → (s ≢ status.WriteFault → (s ≡ status_of kind) × P) → s ≡ status.Done
    → kind ≢ kinds.Refused
done_is_no_refusal s kind P whole done refuses =
    refused_is_not_done s done ((whole (done_uncut s done)).0 ∙ ap status_of refuses)

no_is_not_done : (s : Status) → s ≡ status.CheckedNo → s ≡ status_of kinds.Refused → ⊥
no_is_not_done s denied refused = absurd (cc)

no_uncut : (s : Status) → s ≡ status.CheckedNo → s ≢ status.WriteFault
no_uncut s denied e = absurd (cc)

-- nor does one that was written with the status of a denial
pub denial_is_no_refusal : (s : Status) (kind : ReplyKind) (P : Type 0) → (s ≢ status.WriteFault → (s ≡ status_of kind) × P) → s ≡ status.CheckedNo
    → kind ≢ kinds.Refused
denial_is_no_refusal s kind P whole denied refuses =
    no_is_not_done s denied ((whole (no_uncut s denied)).0 ∙ ap status_of refuses)
