-- The one job that words mean.
use Rattle.std.proofs.Common.{◌≡◌, ◌≢◌, ℕ, Bool, true, false, List, [], Option, Some, None, refl, sym, arith}
use Rattle.clap.specs.Words.{subcommand_of, takes}
use Rattle.loom_base.specs.Streams.{TakesAtMost}
use Rattle.loom_words.specs.Command.{loom_app}
use Rattle.loom_words.specs.Jobs.{job_in}
use Rattle.loom_words.specs.declared.job.Job.{Job}
use Rattle.loom_words.specs.declared.job.Job.TheVariants as jobs
use Rattle.loom_top.specs.Run.{AskFor, AskForDocument}
use Rattle.loom_top.specs.declared.job.DocumentJob.{DocumentJob}
use Rattle.loom_top.specs.declared.job.DocumentJob.TheVariants as documents

same_meant : (found : Option Job) (one other : Job) → found ≡ Some one → found ≡ Some other → one ≡ other
same_meant found one other first second = cc

pub plan_is_not_extract : jobs.Plan ≢ jobs.Extract
plan_is_not_extract e = absurd (cc)

pub plan_is_not_check : jobs.Plan ≢ jobs.Check
plan_is_not_check e = absurd (cc)

pub extract_is_not_check : jobs.Extract ≢ jobs.Check
extract_is_not_check e = absurd (cc)

pub plan_is_not_trial : (n : ℕ) → jobs.Plan ≢ jobs.Trial n
plan_is_not_trial n e = absurd (cc)

pub extract_is_not_trial : (n : ℕ) → jobs.Extract ≢ jobs.Trial n
extract_is_not_trial n e = absurd (cc)

pub check_is_not_trial : (n : ℕ) → jobs.Check ≢ jobs.Trial n
check_is_not_trial n e = absurd (cc)

pub same_trial : (n m : ℕ) → jobs.Trial n ≡ jobs.Trial m → n ≡ m
same_trial n m e = cc

-- words that aren't taken ask for nothing
pub not_taken : (words : List (List ℕ)) (job : Job) → takes loom_app words ≡ false → AskFor job words → ⊥
not_taken words job fails asked = let passes = asked.taken in absurd (cc)

module _ (words : List (List ℕ)) where
  pub asks_job : (job : Job) → job_in (subcommand_of loom_app words) ≡ Some job → (other : Job) → AskFor other words → job ≡ other
  asks_job job meant other asked = same_meant (job_in (subcommand_of loom_app words)) job other meant asked.meant

  -- the job with a document that the words ask for is the one that they mean
  pub asks_plan : job_in (subcommand_of loom_app words) ≡ Some jobs.Plan → (job : DocumentJob) → AskForDocument job words → job ≡ documents.Plan
  asks_plan meant documents.Plan asked = refl
  asks_plan meant documents.Extract asked = absurd (plan_is_not_extract (asks_job jobs.Plan meant jobs.Extract asked))
  asks_plan meant documents.Check asked = absurd (plan_is_not_check (asks_job jobs.Plan meant jobs.Check asked))

  pub asks_extract : job_in (subcommand_of loom_app words) ≡ Some jobs.Extract → (job : DocumentJob) → AskForDocument job words
      → job ≡ documents.Extract
  asks_extract meant documents.Plan asked = absurd (plan_is_not_extract (sym (asks_job jobs.Extract meant jobs.Plan asked)))
  asks_extract meant documents.Extract asked = refl
  asks_extract meant documents.Check asked = absurd (extract_is_not_check (asks_job jobs.Extract meant jobs.Check asked))

  pub asks_check : job_in (subcommand_of loom_app words) ≡ Some jobs.Check → (job : DocumentJob) → AskForDocument job words
      → job ≡ documents.Check
  asks_check meant documents.Plan asked = absurd (plan_is_not_check (sym (asks_job jobs.Check meant jobs.Plan asked)))
  asks_check meant documents.Extract asked = absurd (extract_is_not_check (sym (asks_job jobs.Check meant jobs.Extract asked)))
  asks_check meant documents.Check asked = refl

  -- words that mean a trial ask for none
  pub trial_asks_none : (n : ℕ) → job_in (subcommand_of loom_app words) ≡ Some (jobs.Trial n) → (job : DocumentJob) → AskForDocument job words → ⊥
  trial_asks_none n meant documents.Plan asked = plan_is_not_trial n (sym (asks_job (jobs.Trial n) meant jobs.Plan asked))
  trial_asks_none n meant documents.Extract asked = extract_is_not_trial n (sym (asks_job (jobs.Trial n) meant jobs.Extract asked))
  trial_asks_none n meant documents.Check asked = check_is_not_trial n (sym (asks_job (jobs.Trial n) meant jobs.Check asked))

  pub untaken_ask_none : takes loom_app words ≡ false → (job : DocumentJob) → AskForDocument job words → ⊥
  untaken_ask_none fails documents.Plan asked = not_taken words jobs.Plan fails asked
  untaken_ask_none fails documents.Extract asked = not_taken words jobs.Extract fails asked
  untaken_ask_none fails documents.Check asked = not_taken words jobs.Check fails asked

  -- words that mean another job ask for no trial
  pub plan_asks_no_trial : job_in (subcommand_of loom_app words) ≡ Some jobs.Plan → (n : ℕ) → AskFor (jobs.Trial n) words → ⊥
  plan_asks_no_trial meant n asked = plan_is_not_trial n (asks_job jobs.Plan meant (jobs.Trial n) asked)

  pub extract_asks_no_trial : job_in (subcommand_of loom_app words) ≡ Some jobs.Extract → (n : ℕ) → AskFor (jobs.Trial n) words → ⊥
  extract_asks_no_trial meant n asked = extract_is_not_trial n (asks_job jobs.Extract meant (jobs.Trial n) asked)

  pub check_asks_no_trial : job_in (subcommand_of loom_app words) ≡ Some jobs.Check → (n : ℕ) → AskFor (jobs.Trial n) words → ⊥
  check_asks_no_trial meant n asked = check_is_not_trial n (asks_job jobs.Check meant (jobs.Trial n) asked)

-- bytes that are as they were were not taken
pub takes_none : (left : Option (List ℕ)) (most : ℕ) → TakesAtMost left left most
takes_none None most = ([], tt, omega arith)
takes_none (Some bytes) most = ([], refl, omega arith)

-- words that mean a trial ask for that one
pub trial_asks_trial : (words : List (List ℕ)) (n : ℕ) → job_in (subcommand_of loom_app words) ≡ Some (jobs.Trial n) → (m : ℕ) → AskFor (jobs.Trial m) words
    → m ≡ n
trial_asks_trial words n meant m asked = sym (same_trial n m (asks_job words (jobs.Trial n) meant (jobs.Trial m) asked))

-- what is taken isn't untaken
pub is_not_taken : (taken : Bool) → taken ≡ true → taken ≡ false → ⊥
is_not_taken taken passes fails = absurd (cc)
