use Rattle.std.specs.Prelude.{ℕ, List, ◌≡◌, ◌⊎◌, ◌<◌, ◌≤◌, length, slice_index}
use Rattle.std.specs.Borrow.{Bor}
use Rattle.loom_steiner.specs.declared.ways.TheConstants.{NO_TREE}
use Rattle.loom_topology.specs.declared.ways.Way.{Way}
use Rattle.loom_steiner.specs.Row.{IsCapped, Improves}
use Rattle.loom_steiner.specs.Worklist.{IsSettled}
use Rattle.loom_steiner.specs.Split.{IsPart, split_cost}

-- the row of the mask high + rest before any step: a lone cavity costs nothing at home, more than one cost what their best split costs
pub record Begins (cells branches : List ℕ) (n high rest home : ℕ) (row : List ℕ) : Type 0 where
  pub len : length row ≡ n
  pub capped : IsCapped row
  pub leaf : rest ≡ 0 → slice_index row home ≡ 0
  pub splits : (part v : ℕ) → IsPart rest part → v < n → slice_index row v ≤ split_cost cells branches n high rest part v
  pub from : (v : ℕ) → v < n → slice_index row v < NO_TREE
      → ((rest ≡ 0) × (v ≡ home) × (slice_index row v ≡ 0))
      ⊎ ((part : ℕ) × IsPart rest part × (slice_index row v ≡ split_cost cells branches n high rest part v))

-- such a row, once no way betters a number
pub record IsRow (ways : List (Bor (List Way))) (cells branches : List ℕ) (n high rest home : ℕ) (row : List ℕ) : Type 0 where
  pub start : List ℕ
  pub begins : Begins cells branches n high rest home start
  pub improves : Improves ways start row
  pub settled : IsSettled ways row
