use Rattle.std.specs.Prelude.{ℕ, List, ◌≡◌, ◌⊎◌, ◌+◌, ◌<◌, ◌≤◌, length, slice_index, slice_index_or}
use Rattle.std.specs.List.{Contains}
use Rattle.std.specs.Borrow.{Bor}
use Rattle.std.specs.declared.cmp.Reverse.{Reverse}
use Rattle.loom_steiner.specs.declared.worklist.Offer.{Offer}
use Rattle.loom_topology.specs.declared.ways.Way.{Way}
use Rattle.loom_topology.specs.Ways.{way_at}

-- what stands on the worklist for a node of this cost
abbrev pub offer : ℕ → ℕ → Reverse Offer
offer cost node = record { 0 = record { cost = cost; node = node } }

-- no way from a node of this cost betters the number at its end
abbrev pub IsSettledFrom : List Way → List ℕ → ℕ → Type 0
IsSettledFrom from row cost = (k : ℕ) → k < length from → slice_index row (way_at from k).to.0 ≤ cost + (way_at from k).price

abbrev pub IsSettledAt : List (Bor (List Way)) → List ℕ → ℕ → Type 0
IsSettledAt ways row u = (d : Bor (List Way)) → IsSettledFrom (slice_index_or ways u d).now row (slice_index row u)

-- no way betters a number of the row
abbrev pub IsSettled : List (Bor (List Way)) → List ℕ → Type 0
IsSettled ways row = (u : ℕ) → u < length ways → IsSettledAt ways row u

-- the ways from a node better nothing, unless its number still waits
abbrev pub IsSettling : List (Bor (List Way)) → List ℕ → List (Reverse Offer) → Type 0
IsSettling ways row waiting =
    (u : ℕ) → u < length ways → Contains waiting (offer (slice_index row u) u) ⊎ IsSettledAt ways row u

-- each number that changed waits, and so does each that waited before
pub record KeepsWaiting (row new : List ℕ) (waiting more : List (Reverse Offer)) : Type 0 where
  pub fell : (u : ℕ) → (slice_index new u ≡ slice_index row u) ⊎ Contains more (offer (slice_index new u) u)
  pub waits : (u : ℕ) → Contains waiting (offer (slice_index row u) u) → Contains more (offer (slice_index new u) u)
