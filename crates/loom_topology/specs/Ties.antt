use Rattle.std.specs.Prelude.{ℕ, List, Option, Some, ◌≡◌, ◌+◌, ◌-◌, ◌^◌, ◌<◌, length, slice_index, bit_and}
use Rattle.loom_topology.specs.Topology.{TopologyView, Leads, branch_at, price_at, node_of}
use Rattle.loom_topology.specs.Legal.{HoldsFirst, plus}

-- the mask is the one cavity of bit i, and it lies at v
abbrev pub IsOneAt : TopologyView → List ℕ → ℕ → ℕ → ℕ → Type 0
IsOneAt topology terminals mask v i =
    (i + 1 < length terminals) × (mask ≡ 2 ^ i) × (node_of topology (slice_index terminals (i + 1)) ≡ v)

-- both are one number
abbrev pub AreTied : Option ℕ → Option ℕ → Type 0
AreTied a b = (m : ℕ) × (a ≡ Some m) × (b ≡ Some m)

-- the part lies within the mask and holds its first cavity, and a rest is left
pub record IsFirstPart (mask part : ℕ) : Type 0 where
  pub within : bit_and part mask ≡ part
  pub first : HoldsFirst part mask
  pub rest : part < mask

-- the mask falls at v into a first part and a rest whose numbers and the branch cost come to its own number
abbrev pub Splits : TopologyView → (ℕ → ℕ → Option ℕ) → ℕ → ℕ → ℕ → Type 0
Splits topology least mask v part =
    IsFirstPart mask part
    × AreTied (plus (plus (least part v) (least (mask - part) v)) (Some (branch_at topology v))) (least mask v)

-- the open segment leads from v to u, where the mask's number and the price come to its number at v
abbrev pub StepsTo : TopologyView → (ℕ → ℕ → Option ℕ) → ℕ → ℕ → ℕ → ℕ → Type 0
StepsTo topology least mask v s u =
    Leads topology s v u × AreTied (plus (least mask u) (Some (price_at topology s))) (least mask v)
