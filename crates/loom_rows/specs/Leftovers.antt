use Rattle.std.specs.Prelude.{ℕ, Bool, true, false, ◌≡◌, ◌<◌, ◌++◌, nat_lt, if◌then◌else◌, List, [], ◌∷◌, length, slice_get, Some, ◌⊎◌, Result, Err, OnOk}
use Rattle.loom_rows.specs.declared.cond.Cond.{Cond}
use Rattle.loom_rows.specs.declared.stop.RowsStop.{RowsStop}
use Rattle.loom_rows.specs.declared.stop.RowsStop.TheVariants.{TooManyRows}
use Rattle.loom_rows.specs.Condition.{Meaning, value}
use Rattle.loom_rows.specs.Table.{Triple, Table, Has, IsSound}

-- two conditions are the same where no choice tells them apart
abbrev pub AreSame : Meaning → Meaning → Type 0
AreSame f g = (c : ℕ → Bool) → f c ≡ g c

-- a condition that is neither always true nor always false
abbrev pub IsOpen : Meaning → Type 0
IsOpen f = (AreSame f (λ c. true) → ⊥) × (AreSame f (λ c. false) → ⊥)

-- the choice d, with the options before the k-th set as c sets them
abbrev pub set_before : ℕ → (ℕ → Bool) → (ℕ → Bool) → ℕ → Bool
set_before k c d option = if nat_lt option k then c option else d option

-- a leftover of f is what remains of it once the options before some option are set in some way
abbrev pub IsLeftover : Meaning → Meaning → Type 0
IsLeftover f g = (k : ℕ) × (c : ℕ → Bool) × AreSame g (λ d. f (set_before k c d))

-- a leftover of one of these conditions
abbrev pub IsLeftoverOf : List Meaning → Meaning → Type 0
IsLeftoverOf [] g = ⊥
IsLeftoverOf (f ∷ fs) g = IsLeftover f g ⊎ IsLeftoverOf fs g

-- the rows that these conditions need: their leftovers that are neither always true nor always false
abbrev pub IsRowOf : List Meaning → Meaning → Type 0
IsRowOf fs g = IsOpen g × IsLeftoverOf fs g

-- different conditions with the property P, each listed once
pub record AreApart (P : Meaning → Type 0) (gs : List Meaning) : Type 0 where
  pub each : (i : ℕ) (g : Meaning) → slice_get gs i ≡ Some g → P g
  pub apart : (i j : ℕ) (g h : Meaning) → slice_get gs i ≡ Some g → slice_get gs j ≡ Some h → AreSame g h → i ≡ j

-- exactly n different conditions have the property P
pub record AreExactly (n : ℕ) (P : Meaning → Type 0) : Type 0 where
  pub listed : List Meaning
  pub different : AreApart P listed
  pub complete : (g : Meaning) → P g → (i : ℕ) × (h : Meaning) × (slice_get listed i ≡ Some h) × AreSame g h
  pub counted : length listed ≡ n

-- more than n different conditions have the property P
pub record AreMoreThan (n : ℕ) (P : Meaning → Type 0) : Type 0 where
  pub listed : List Meaning
  pub different : AreApart P listed
  pub many : n < length listed

-- the table has a condition that no choice tells apart from g
abbrev pub IsIn : Table → Meaning → Type 0
IsIn t g = (x : Cond) × Has t x × AreSame g (value x)

-- from old to new no row went and no number changed, and each condition that came has the property P
pub record Gains (P : Meaning → Type 0) (old new : Table) : Type 0 where
  pub same_options : new.options ≡ old.options
  pub same_limit : new.limit ≡ old.limit
  pub more : List Triple
  pub appended : new.rows ≡ old.rows ++ more
  pub only : (x : Cond) → Has new x → Has old x ⊎ P (value x)

-- the rows of a table together with those that these conditions need
abbrev pub IsNeeded : Table → List Meaning → Meaning → Type 0
IsNeeded t fs g = IsOpen g × (IsIn t g ⊎ IsLeftoverOf fs g)

-- a table stands for a list of worked conditions when its rows are exactly the rows that they need
pub record StandsFor (t : Table) (fs : List Meaning) : Type 0 where
  pub only : (x : Cond) → Has t x → IsOpen (value x) → IsLeftoverOf fs (value x)
  pub all : (g : Meaning) → IsRowOf fs g → IsIn t g

-- a call works these conditions out: after an Ok the rows are those before and those that the conditions need;
-- it has too many rows exactly where these are more than the limit; and in every outcome it adds rows of theirs alone
pub record Works {A : Type 0} (fs : List Meaning) (old new : Table) (result : Result A RowsStop) : Type 0 where
  pub gains : Gains (IsLeftoverOf fs) old new
  pub sound : IsSound new
  pub keeps : (x : Cond) → Has old x → Has new x
  pub all : OnOk result ((g : Meaning) → IsRowOf fs g → IsIn new g)
  pub fits : OnOk result (AreMoreThan old.limit (IsNeeded old fs) → ⊥)
  pub too_many : result ≡ Err TooManyRows → AreMoreThan old.limit (IsNeeded old fs)
