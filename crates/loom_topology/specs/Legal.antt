use Rattle.std.specs.Prelude.{ℕ, List, [], ◌∷◌, Option, Some, None, ◌≡◌, ◌+◌, ◌-◌, ◌/◌, ◌%◌, ◌^◌, ◌<◌, ◌≤◌, ◌==◌, length, drop, slice_index, bit_and, if◌then◌else◌}
use Rattle.std.specs.Int.{bit_at}
use Rattle.loom_topology.specs.Topology.{TopologyView, Leads, branch_at, price_at, node_of}

-- a cost that may be missing: None is greater than every number
abbrev pub IsAtMost : Option ℕ → Option ℕ → Type 0
IsAtMost a None = Unit {0}
IsAtMost None (Some n) = ⊥
IsAtMost (Some m) (Some n) = m ≤ n

-- a sum with None is None
abbrev pub plus : Option ℕ → Option ℕ → Option ℕ
plus None b = None
plus (Some m) None = None
plus (Some m) (Some n) = Some (m + n)

-- the cavities whose bits stand in a mask, the first one's bit lowest
abbrev pub chosen : List ℕ → ℕ → List ℕ
chosen [] mask = []
chosen (c ∷ cs) mask = (if mask % 2 == 1 then c ∷ chosen cs (mask / 2) else chosen cs (mask / 2))

-- the cavities of a mask of a net: bit i stands for terminal i + 1, since terminal 0 is the stem
abbrev pub cavities_of_mask : List ℕ → ℕ → List ℕ
cavities_of_mask terminals mask = chosen (drop 1 terminals) mask

-- a mask of the net, with at least one cavity
abbrev pub IsMask : List ℕ → ℕ → Type 0
IsMask terminals mask = (0 < mask) × (mask < 2 ^ (length terminals - 1))

-- no cavity of the mask comes before some cavity of the part
abbrev pub HoldsFirst : ℕ → ℕ → Type 0
HoldsFirst part mask = (i : ℕ) × (bit_at part i ≡ 1) × ((j : ℕ) → j < i → bit_at mask j ≡ 0)

-- P's number for the union of two masks at v is at most the numbers of both and the branch cost
abbrev pub SplitHolds : TopologyView → (ℕ → ℕ → Option ℕ) → ℕ → ℕ → ℕ → Type 0
SplitHolds topology P a b v = IsAtMost (P (a + b) v) (plus (plus (P a v) (P b v)) (Some (branch_at topology v)))

-- a table, read as a function of mask and node, meets the three inequalities wherever they apply
pub record IsLegal (topology : TopologyView) (terminals : List ℕ) (P : ℕ → ℕ → Option ℕ) : Type 0 where
  -- one cavity at its own node costs nothing
  pub leaf : (i : ℕ) → i + 1 < length terminals → IsAtMost (P (2 ^ i) (node_of topology (slice_index terminals (i + 1)))) (Some 0)
  -- a way over an open segment costs its price
  pub over : (mask v s u : ℕ) → IsMask terminals mask → v < length topology.nodes → Leads topology s v u
      → IsAtMost (P mask v) (plus (P mask u) (Some (price_at topology s)))
  -- two disjoint masks that aren't empty join for the branch cost
  pub split : (a b v : ℕ) → 0 < a → 0 < b → bit_and a b ≡ 0 → IsMask terminals (a + b) → v < length topology.nodes
      → SplitHolds topology P a b v
