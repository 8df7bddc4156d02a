-- Why a call over a source or a sink may fail: a count of faults, which never falls.
use Rattle.std.specs.Prelude.{ℕ, ◌≡◌, ◌+◌, ◌-◌, ◌^◌, ◌<◌, ◌≤◌, ◌⊎◌, min, IsErr, MatchResult}
use Rattle.std.specs.Prelude.{Result}

-- one more, up to the last value of a counter
abbrev pub next_count : ℕ → ℕ
next_count count = min (count + 1) (2 ^ 64 - 1)

-- the count of faults rose, or stands at the last value that its counter has
abbrev pub Rose : ℕ → ℕ → Type 0
Rose before now = (before < now) ⊎ (now ≡ 2 ^ 64 - 1)

-- the count of faults didn't fall: it is one more where the call failed, and the same where it didn't
pub record HasCause {T E : Type 0} (before now : ℕ) (result : Result T E) : Type 0 where
  pub later : before ≤ now
  pub failed : IsErr result → Rose before now
  pub counted : MatchResult result (λ _. now ≡ before) (λ _. now ≡ next_count before)
