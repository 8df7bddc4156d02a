use Rattle.std.specs.Prelude.{ℕ, Bool, false, ◌≡◌, IsTrue}
use Rattle.loom_rows.specs.Condition.{Meaning}

-- a condition that no choice makes hold
abbrev pub IsNever : Meaning → Type 0
IsNever f = (c : ℕ → Bool) → f c ≡ false

-- a condition that some choice makes hold
abbrev pub IsPossible : Meaning → Type 0
IsPossible f = (c : ℕ → Bool) × IsTrue (f c)

-- two conditions meet where some choice makes both hold
abbrev pub Meet : Meaning → Meaning → Type 0
Meet f g = (c : ℕ → Bool) × IsTrue (f c) × IsTrue (g c)
