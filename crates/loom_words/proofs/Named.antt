-- The words that documents name.
use Rattle.std.proofs.Common.{◌≡◌, ◌∙◌, ◌<◌, ◌≤◌, ℕ, zero, suc, Bool, true, false, refl, sym, ap, subst, arith, ⊎_elim, List, [], ◌∷◌, Option, Some, None, ◌&&◌, ◌==◌, codes, eqb-true}
use Rattle.std.proofs.lemmas.Bool.{cases_lt}
use Rattle.std.specs.Fmt.{decimal}
use Rattle.clap.specs.Words.{Text, subcommand_of, takes}
use Rattle.clap.specs.Matches.{count_text}
use Rattle.clap.proofs.CountText.{decimal-count_text}
use Rattle.clap.proofs.OnLiterals.{clap_on_literals}
use Rattle.clap.proofs.WalkLemmas.{both}
use Rattle.loom_words.specs.declared.job.Job.{Job}
use Rattle.loom_words.specs.declared.job.Job.TheVariants.{Plan, Extract, Check, Trial}
use Rattle.loom_words.specs.Command.{loom_app}
use Rattle.loom_words.specs.Jobs.{IsNamed, job_in, plan, extract, check, trial}

-- the words of a trial, with its digits as clap writes a count
abbrev trial_words : ℕ → List Text
trial_words n = codes "trial" ∷ count_text n ∷ []

abbrev is_trial : ℕ → Option Job → Bool
is_trial n (Some (Trial number)) = number == n
is_trial n _ = false

trial_is : (n : ℕ) (met : Option Job) → is_trial n met ≡ true → met ≡ Some (Trial n)
trial_is n (Some (Trial number)) e = ap (λ x. Some (Trial x)) (eqb-true _ _ e)
trial_is n (Some Plan) e = cc
trial_is n (Some Extract) e = cc
trial_is n (Some Check) e = cc
trial_is n None e = cc

abbrev is_read : ℕ → Bool
is_read n = takes loom_app (trial_words n) && is_trial n (job_in (subcommand_of loom_app (trial_words n)))

-- the trials from 1 to a number are read
each_read : ℕ → Bool
each_read zero = true
each_read (suc n) = is_read (suc n) && each_read n

all_read : each_read 200 ≡ true
unfolding each_read clap_on_literals
all_read = refl

one_read : (most n : ℕ) → each_read most ≡ true → 1 ≤ n → n ≤ most → is_read n ≡ true
unfolding each_read
one_read zero n e low high = absurd (omega arith)
one_read (suc most) n e low high =
    let parts = both (is_read (suc most)) _ e in
    ⊎_elim
    (λ below. one_read most n parts.1 low (omega arith))
    (λ above. let last : suc most ≡ n = omega arith in subst (λ k. is_read k ≡ true) last parts.0)
    (cases_lt n (suc most))

trial_read : (n : ℕ) → 1 ≤ n → n ≤ 200 → is_read n ≡ true
trial_read n low high = one_read 200 n all_read low high

same_words : (n : ℕ) → n ≤ 200 → trial_words n ≡ codes "trial" ∷ decimal n ∷ []
same_words n high =
    let small : n < 1000 = omega arith in
    ap (λ (digits : Text). codes "trial" ∷ digits ∷ []) (sym (decimal-count_text n small))

pub named_taken : (words : List Text) (job : Job) → IsNamed words job → takes loom_app words ≡ true
unfolding clap_on_literals
named_taken words job plan = refl
named_taken words job extract = refl
named_taken words job check = refl
named_taken words job (trial n low high) =
    ap (takes loom_app) (sym (same_words n high)) ∙ (both (takes loom_app (trial_words n)) _ (trial_read n low high)).0

pub named_meant : (words : List Text) (job : Job) → IsNamed words job → job_in (subcommand_of loom_app words) ≡ Some job
unfolding clap_on_literals
named_meant words job plan = refl
named_meant words job extract = refl
named_meant words job check = refl
named_meant words job (trial n low high) =
    ap (λ (w : List Text). job_in (subcommand_of loom_app w)) (sym (same_words n high))
    ∙ trial_is n _ (both (takes loom_app (trial_words n)) _ (trial_read n low high)).1
