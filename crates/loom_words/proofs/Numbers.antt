-- The number of a text, by what `parse` says of it.
use Rattle.std.proofs.Common.{◌≡◌, ◌<◌, ◌≤◌, ◌^◌, ℕ, Bool, true, false, refl, ap, arith, subst, Option, Some, None, option_map, Result, Err, List, cond, codes}
use Rattle.std.specs.Prelude.{option_and_then}
use Rattle.std.specs.Str.{bytes_eq}
use Rattle.std.specs.Str.Parse.{IsNumeral, ParsesUnsigned, digits_value, without_leading_plus}
use Rattle.clap.specs.Words.{Accepts, Row, Text, first_of, first_value, rows_of}
use Rattle.clap.specs.declared.parser.matches.Found.{Found}
use Rattle.clap.proofs.WalkLemmas.{first_value-rows}
use Rattle.clap.specs.ValueTests.{is_unsigned_in}
use Rattle.clap.specs.declared.builder.value_parser.ValueParser.TheVariants.{Unsigned}
use Rattle.clap.proofs.ValueTestLemmas.{Accepts-accepts, accepts-Accepts}
use Rattle.loom_words.specs.declared.job.Job.{Job}
use Rattle.loom_words.specs.declared.job.Job.TheVariants.{Plan, Extract, Check, Trial}
use Rattle.loom_words.specs.Jobs.{HasRange, job_in, job_named, number_given, number_of}

-- a text that is a numeral in the range
pub some_number : (text : Text) (n : ℕ) → IsNumeral 10 (without_leading_plus text) → n ≡ digits_value 10 (without_leading_plus text) → 1 ≤ n → n ≤ 200
    → Some n ≡ number_of text
some_number text n numeral is low high =
    let fits : digits_value 10 (without_leading_plus text) < 2 ^ 64 = omega arith in
    let least : 1 ≤ digits_value 10 (without_leading_plus text) = omega arith in
    let most : digits_value 10 (without_leading_plus text) ≤ 200 = omega arith in
    rw (Accepts-accepts false (Unsigned 1 200) text (numeral, fits, least, most)) (ap Some is)

-- any other text
pub no_number : (text : Text) → (Accepts false (Unsigned 1 200) text → ⊥) → None ≡ number_of text
no_number text none = go (is_unsigned_in 1 200 text) refl
  where
    go : (b : Bool) → is_unsigned_in 1 200 text ≡ b → None ≡ number_of text
    go true e = absurd (none (accepts-Accepts false (Unsigned 1 200) text e))
    go false e = rw e refl

-- a text of which `parse` makes no number
pub unread_number : {E : Type 0} (text : Text) (r : Result ℕ E) (e : E) → ParsesUnsigned 32 10 text r → r ≡ Err e → None ≡ number_of text
unread_number {E} text r e reads is =
    no_number text (λ accepted. (subst (λ (x : Result ℕ E). ParsesUnsigned 32 10 text x) is reads) (accepted.0, omega (arith, accepted.3)))

-- the first value that was found, by the rows
pub first_found : (f : Found) (id : Text) → first_value f id ≡ first_of id (rows_of f)
first_found f id = first_value-rows f id

-- ---- the range of a job's number

abbrev IsTrialNumber : ℕ → Type 0
IsTrialNumber n = (1 ≤ n) × (n ≤ 200)

text_in_range : (text : Text) (n : ℕ) → number_of text ≡ Some n → IsTrialNumber n
text_in_range text n e = go (is_unsigned_in 1 200 text) refl e
  where
    go : (b : Bool) → is_unsigned_in 1 200 text ≡ b → cond b (Some (digits_value 10 (without_leading_plus text))) None ≡ Some n → IsTrialNumber n
    go true accepted is =
        let facts = accepts-Accepts false (Unsigned 1 200) text accepted in
        let same : digits_value 10 (without_leading_plus text) ≡ n = cc in
        subst IsTrialNumber same (facts.2, facts.3)
    go false accepted is = cc

given_in_range : (text : Option Text) (n : ℕ) → option_and_then number_of text ≡ Some n → IsTrialNumber n
given_in_range None n e = cc
given_in_range (Some text) n e = text_in_range text n e

trial_in_range : (number : Option ℕ) (job : Job) → ((n : ℕ) → number ≡ Some n → IsTrialNumber n) → option_map Trial number ≡ Some job → HasRange job
trial_in_range None job range e = cc
trial_in_range (Some n) job range e =
    let same : Trial n ≡ job = cc in
    subst HasRange same (range n refl)

job_is : (some job : Job) → HasRange some → Some some ≡ Some job → HasRange job
job_is some job range e =
    let same : some ≡ job = cc in
    subst HasRange same range

-- the job of a name that was met, or else of another
job_by : (b : Bool) (here other : Option Job) (job : Job) → (here ≡ Some job → HasRange job) → (other ≡ Some job → HasRange job) → cond b here other ≡ Some job → HasRange job
job_by true here other job is rest = is
job_by false here other job is rest = rest

job_in_range : (name : Text) (rows : List Row) (job : Job) → job_named name rows ≡ Some job → HasRange job
job_in_range name rows job =
    job_by (bytes_eq name (codes "plan")) _ _ job (job_is Plan job tt)
    (job_by (bytes_eq name (codes "extract")) _ _ job (job_is Extract job tt)
    (job_by (bytes_eq name (codes "check")) _ _ job (job_is Check job tt)
    (job_by (bytes_eq name (codes "trial")) _ _ job (trial_in_range (number_given rows) job (given_in_range (first_of (codes "N") rows)))
    (λ e. cc))))

-- the job that was met has its range
pub met_in_range : (met : Option (Text × List Row)) (job : Job) → job_in met ≡ Some job → HasRange job
met_in_range None job e = cc
met_in_range (Some m) job e = job_in_range m.0 m.1 job e
