use Rattle.std.specs.Prelude.{ℕ, Bool, true, false, if◌then◌else◌, ◌≡◌, ◌≤◌, ◌<◌, ◌&&◌, ◌||◌, not, min, length, Result, Err, IfOk, Some, slice_get, ◌+◌, ◌==◌}
use Rattle.std.specs.HashMap.{HashMap, get}
use Rattle.loom_rows.specs.declared.cond.Cond.{Cond, Never, Always, Row'}
use Rattle.loom_rows.specs.declared.op.Op.{Op}
use Rattle.loom_rows.specs.declared.op.Op.TheVariants.{And, Or, Differ}
use Rattle.loom_rows.specs.declared.stop.RowsStop.{RowsStop}
use Rattle.loom_rows.specs.declared.stop.RowsStop.TheVariants.{TooManyRows}
use Rattle.loom_rows.specs.Condition.{Meaning, value, number_of, rising, first_option}
use Rattle.loom_rows.specs.Table.{Triple, Table, Has, IsSound}
use Rattle.loom_rows.specs.Leftovers.{AreSame, IsOpen, IsIn, IsLeftover, Gains}

-- exactly one of the two
abbrev pub differ : Bool → Bool → Bool
differ true y = not y
differ false y = y

abbrev pub joins : Op → Bool → Bool → Bool
joins And x y = x && y
joins Or x y = x || y
joins Differ x y = differ x y

-- the two conditions, joined choice by choice
abbrev pub joined : Op → Meaning → Meaning → Meaning
joined op f g c = joins op (f c) (g c)

-- the condition with these parts at an option
abbrev pub branch : ℕ → Meaning → Meaning → Meaning
branch at low high c = if c at then high c else low c

-- x is f in the table, and depends on no option before this one
pub record IsAnswer (f : Meaning) (first : ℕ) (t : Table) (x : Cond) : Type 0 where
  pub has : Has t x
  pub valued : AreSame (value x) f
  pub rises : first ≤ first_option t.options x

-- the table is full, and lacks a row that f needs
pub record Lacks (f : Meaning) (t : Table) : Type 0 where
  pub full : length t.rows ≡ t.limit
  pub missing : Meaning
  pub is_leftover : IsLeftover f missing
  pub is_open : IsOpen missing
  pub absent : IsIn t missing → ⊥

-- what a call that works f out makes of a table
pub record Outcome (f : Meaning) (first : ℕ) (old new : Table) (result : Result Cond RowsStop) : Type 0 where
  pub gains : Gains (IsLeftover f) old new
  pub sound : IsSound new
  pub answer : IfOk result (IsAnswer f first new)
  pub refusal : result ≡ Err TooManyRows → Lacks f new

-- the memo's answer for two numbers is right for two conditions of these numbers, in either order
pub record IsNoted (op : Op) (t : Table) (key : ℕ × ℕ) (x : Cond) : Type 0 where
  pub a : Cond
  pub b : Cond
  pub has_a : Has t a
  pub has_b : Has t b
  pub numbered : rising (number_of a) (number_of b) ≡ key
  pub noted : IsAnswer (joined op (value a) (value b)) (min (first_option t.options a) (first_option t.options b)) t x

-- x is a row with this number, option and parts
abbrev pub IsRowWith : ℕ → ℕ → Cond → Cond → Cond → Type 0
IsRowWith number at low high Never = ⊥
IsRowWith number at low high Always = ⊥
IsRowWith number at low high (Row' p n option l h) = (n ≡ number) × (option.0 ≡ at) × (l ≡ low) × (h ≡ high)

-- x is the condition of the table's row
abbrev pub IsFound : Table → Triple → Cond → Type 0
IsFound t row x = (i : ℕ) × (slice_get t.rows i ≡ Some row) × Has t x × (number_of x ≡ i + 2)

-- the table has no such row
abbrev pub IsMissing : Table → Triple → Type 0
IsMissing t row = (i : ℕ) → slice_get t.rows i ≡ Some row → ⊥

-- what `==` of two pairs of numbers returns
abbrev pub pair_eq : ℕ × ℕ → ℕ × ℕ → Bool
pair_eq x y = x.0 == y.0 && x.1 == y.1

-- what the memo of a join knows is right
abbrev pub IsMemo : {S : Type 0} → Op → Table → HashMap (ℕ × ℕ) Cond S → Type 0
IsMemo op t memo = (key : ℕ × ℕ) (x : Cond) → get pair_eq memo key ≡ Some x → IsNoted op t key x

-- what is left of two conditions once the first option on which one of them depends is set
pub record ArePartsOf (op : Op) (t : Table) (a b : Cond) (at : ℕ) (a_low b_low a_high b_high : Cond) : Type 0 where
  pub first : at ≡ min (first_option t.options a) (first_option t.options b)
  pub in_range : at < t.options
  pub has_a_low : Has t a_low
  pub has_b_low : Has t b_low
  pub has_a_high : Has t a_high
  pub has_b_high : Has t b_high
  pub low_rises : at < min (first_option t.options a_low) (first_option t.options b_low)
  pub high_rises : at < min (first_option t.options a_high) (first_option t.options b_high)
  pub left_low : IsLeftover (joined op (value a) (value b)) (joined op (value a_low) (value b_low))
  pub left_high : IsLeftover (joined op (value a) (value b)) (joined op (value a_high) (value b_high))
  pub split : (c : ℕ → Bool) → joined op (value a) (value b) c ≡ (if c at then joined op (value a_high) (value b_high) c else joined op (value a_low) (value b_low) c)
