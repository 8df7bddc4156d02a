use Rattle.std.specs.Prelude.{ℕ, List, [], ◌∷◌, ◌≡◌, ◌<◌, ◌+◌, ◌^◌, Contains, AllPairs, length}
use Rattle.std.specs.List.{flat_map}
use Rattle.loom_rows.specs.Condition.{Meaning, value, both}
use Rattle.loom_rows.specs.Table.{Table, Has}
use Rattle.loom_rows.specs.Leftovers.{AreSame}
use Rattle.loom_rows.specs.Meet.{IsPossible}
use Rattle.loom_active.specs.declared.patterns.Pattern.{Pattern}
use Rattle.loom_active.specs.LiveWork.{signed}

-- masks rise
abbrev pub AreRising : List Pattern → Type 0
AreRising patterns = AllPairs (λ one other. one.mask < other.mask) patterns

-- the patterns of signs that some choice has, masks rising, each with its condition
pub record ArePatterns (t : Table) (valid : Meaning) (formulas : List Meaning) (patterns : List Pattern) : Type 0 where
  pub order : AreRising patterns
  pub below : (p : Pattern) → Contains patterns p → p.mask < 2 ^ length formulas
  pub has : (p : Pattern) → Contains patterns p → Has t p.cond
  pub is : (p : Pattern) → Contains patterns p → AreSame (value p.cond) (signed valid formulas p.mask)
  pub some : (p : Pattern) → Contains patterns p → IsPossible (value p.cond)
  pub all : (mask : ℕ) → IsPossible (signed valid formulas mask) → (p : Pattern) × Contains patterns p × (p.mask ≡ mask)

-- q is p with a further condition and a further bit
pub record IsJoinedWith (t : Table) (cond : Meaning) (bit : ℕ) (p q : Pattern) : Type 0 where
  pub mask : q.mask ≡ p.mask + bit
  pub has : Has t q.cond
  pub is : AreSame (value q.cond) (both (value p.cond) cond)
  pub some : IsPossible (value q.cond)

-- the patterns with a further condition and a further bit, without those that no choice has
pub record AreJoinedWith (t : Table) (cond : Meaning) (bit : ℕ) (patterns joined : List Pattern) : Type 0 where
  pub order : AreRising joined
  pub each : (q : Pattern) → Contains joined q → (p : Pattern) × Contains patterns p × IsJoinedWith t cond bit p q
  pub all : (p : Pattern) → Contains patterns p → IsPossible (both (value p.cond) cond) → (q : Pattern) × Contains joined q × (q.mask ≡ p.mask + bit)

-- the table has each pattern's condition
abbrev pub HasEach : Table → List Pattern → Type 0
HasEach t patterns = (p : Pattern) → Contains patterns p → Has t p.cond

-- each mask leaves room for the bit
abbrev pub LeaveRoom : ℕ → List Pattern → Type 0
LeaveRoom bit patterns = (p : Pattern) → Contains patterns p → p.mask + bit < 4294967296

-- the conditions of the patterns, each with a further one
abbrev pub joined_worked : Meaning → List Pattern → List Meaning
joined_worked cond patterns = flat_map (λ p. both (value p.cond) cond ∷ []) patterns
