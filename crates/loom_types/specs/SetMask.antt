use Rattle.std.specs.Prelude.{ℕ, List, ◌∷◌, ◌≡◌, ◌-◌, ◌/◌, ◌^◌, ◌<◌, ◌≤◌, length, slice_index}
use Rattle.std.specs.Int.{w32, trailing_zeros}
use Rattle.loom_topology.specs.Topology.{TopologyView, node_of}
use Rattle.loom_topology.specs.Legal.{chosen, cavities_of_mask}

-- the first terminal of a set, bit i of whose mask stands for the net's terminal i
abbrev pub stem_of : ℕ → ℕ
stem_of mask = trailing_zeros w32 mask

-- the set's other terminals as a mask of the net's table, whose bit i stands for terminal i + 1
abbrev pub rest_of : ℕ → ℕ
rest_of mask = (mask - 2 ^ stem_of mask) / 2

-- the set's first cavity
abbrev pub stem_cavity : List ℕ → ℕ → ℕ
stem_cavity terminals mask = slice_index terminals (stem_of mask)

-- the node at which it lies
abbrev pub stem_node : TopologyView → List ℕ → ℕ → ℕ
stem_node topology terminals mask = node_of topology (stem_cavity terminals mask)

-- a set of at least two of the net's terminals
pub record IsSet (terminals : List ℕ) (mask : ℕ) : Type 0 where
  pub within : mask < 2 ^ length terminals
  pub some : 2 ≤ length (chosen terminals mask)

-- the cavities of a set are its first one and those of the rest
abbrev pub SetIsStemAndRest : Type 0
SetIsStemAndRest =
    (terminals : List ℕ) (mask : ℕ) → 0 < mask → mask < 2 ^ length terminals → length terminals ≤ 32
    → chosen terminals mask ≡ stem_cavity terminals mask ∷ cavities_of_mask terminals (rest_of mask)
