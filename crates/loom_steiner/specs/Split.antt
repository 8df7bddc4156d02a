use Rattle.std.specs.Prelude.{ℕ, List, ◌≡◌, ◌⊎◌, ◌+◌, ◌-◌, ◌*◌, ◌<◌, ◌≤◌, length, slice_index, bit_and}

-- the number of a mask at a node, where each mask has n cells, one after another
abbrev pub cell_in : List ℕ → ℕ → ℕ → ℕ → ℕ
cell_in cells n mask v = slice_index cells ((mask - 1) * n + v)

-- what a mask of a high bit and a rest costs at a node if one wire bundle takes the high bit and a part of the rest, and another what is left
abbrev pub split_cost : List ℕ → List ℕ → ℕ → ℕ → ℕ → ℕ → ℕ → ℕ
split_cost cells branches n high rest part v = cell_in cells n (high + part) v + cell_in cells n (rest - part) v + slice_index branches v

-- some but not all of the rest
abbrev pub IsPart : ℕ → ℕ → Type 0
IsPart rest part = (bit_and part rest ≡ part) × (part < rest)

-- the numbers of a row, once the splits by each part from low on were taken
pub record TakesSplits (cells branches : List ℕ) (n high rest low : ℕ) (row new : List ℕ) : Type 0 where
  pub len : length new ≡ length row
  pub lower : (v : ℕ) → slice_index new v ≤ slice_index row v
  pub splits : (part v : ℕ) → IsPart rest part → low ≤ part → v < length row → slice_index new v ≤ split_cost cells branches n high rest part v
  pub from : (v : ℕ) → v < length row → (slice_index new v ≡ slice_index row v)
      ⊎ ((part : ℕ) × IsPart rest part × (slice_index new v ≡ split_cost cells branches n high rest part v))
