use Rattle.std.specs.Prelude.{ℕ, List, Option, Ok, ◌≡◌, ◌↔◌, ◌<◌, ◌≤◌, length}
use Rattle.std.specs.List.{All}
use Rattle.loom_topology.specs.Topology.{TopologyView, IsSound}
use Rattle.loom_topology.specs.Legal.{IsLegal}
use Rattle.loom_potential.specs.FirstBreak.{first_break}

-- a table breaks none of its inequalities exactly where it is legal
abbrev pub UnbrokenIsLegal : Type 0
UnbrokenIsLegal =
    (topology : TopologyView) (terminals : List ℕ) (P : ℕ → ℕ → Option ℕ)
    → IsSound topology → length terminals ≤ 12 → All (λ c. c < length topology.cavities) terminals
    → (first_break topology terminals P ≡ Ok tt) ↔ IsLegal topology terminals P
