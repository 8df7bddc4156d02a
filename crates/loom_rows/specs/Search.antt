use Rattle.std.specs.Prelude.{ℕ, Bool, true, false, ◌≡◌, ◌<◌}
use Rattle.std.specs.HashSet.{HashSet, contains}
use Rattle.loom_formula.specs.Choice.{IsLeastChoice}
use Rattle.loom_rows.specs.declared.cond.Cond.{Cond}
use Rattle.loom_rows.specs.Condition.{Meaning, value, number_of, rising, both}
use Rattle.loom_rows.specs.Table.{Table, Has}
use Rattle.loom_rows.specs.Meet.{IsNever}
use Rattle.loom_rows.specs.Outcome.{pair_eq}

-- a choice with no option set
abbrev pub IsClear : (ℕ → Bool) → Type 0
IsClear c = (option : ℕ) → c option ≡ false

-- the least choice for f, which depends on no option before this one
pub record IsFoundFrom (f : Meaning) (first : ℕ) (c : ℕ → Bool) : Type 0 where
  pub least : IsLeastChoice f c
  pub clear : (option : ℕ) → option < first → c option ≡ false

-- two conditions of these numbers, the lesser first, never hold together
pub record IsFailed (t : Table) (key : ℕ × ℕ) : Type 0 where
  pub a : Cond
  pub b : Cond
  pub has_a : Has t a
  pub has_b : Has t b
  pub numbered : rising (number_of a) (number_of b) ≡ key
  pub never : IsNever (both (value a) (value b))

-- each pair that is kept never holds together
abbrev pub AreFailed : {S : Type 0} → Table → HashSet (ℕ × ℕ) S → Type 0
AreFailed t failed = (key : ℕ × ℕ) → contains pair_eq failed key ≡ true → IsFailed t key
