-- Which job the words mean.
use Rattle.std.specs.Prelude.{◌≤◌, ℕ, List, [], ◌∷◌, Option, Some, None, codes, decimal}
use Rattle.std.specs.Prelude.{if◌then◌else◌, option_map, option_and_then}
use Rattle.std.specs.Str.{bytes_eq}
use Rattle.std.specs.Str.Parse.{digits_value, without_leading_plus}
use Rattle.clap.specs.ValueTests.{is_unsigned_in}
use Rattle.clap.specs.Words.{Row, Text, first_of}
use Rattle.loom_words.specs.declared.job.Job.{Job}
use Rattle.loom_words.specs.declared.job.Job.TheVariants.{Plan, Extract, Check, Trial}

-- the number from 1 to 200 that a text is
abbrev pub number_of : Text → Option ℕ
number_of text =
    if is_unsigned_in 1 200 text then Some (digits_value 10 (without_leading_plus text)) else None

-- the number that was given to `trial`
abbrev pub number_given : List Row → Option ℕ
number_given rows = option_and_then number_of (first_of (codes "N") rows)

-- the job of the subcommand of this name, with what was given to it
abbrev pub job_named : Text → List Row → Option Job
job_named name rows =
    if bytes_eq name (codes "plan") then Some Plan
    else if bytes_eq name (codes "extract") then Some Extract
    else if bytes_eq name (codes "check") then Some Check
    else if bytes_eq name (codes "trial") then option_map Trial (number_given rows)
    else None

-- the job of the subcommand that was met
abbrev pub job_in : Option (Text × List Row) → Option Job
job_in met = option_and_then (λ m. job_named m.0 m.1) met

-- a trial's number lies in its range
abbrev pub HasRange : Job → Type 0
HasRange (Trial number) = (1 ≤ number) × (number ≤ 200)
HasRange _ = Unit {0}

-- the words that documents name: the job's word alone, and `trial` with a number's digits
pub data IsNamed : List Text → Job → Type 0 where
  plan : IsNamed (codes "plan" ∷ []) Plan
  extract : IsNamed (codes "extract" ∷ []) Extract
  check : IsNamed (codes "check" ∷ []) Check
  trial : (n : ℕ) → 1 ≤ n → n ≤ 200 → IsNamed (codes "trial" ∷ decimal n ∷ []) (Trial n)
