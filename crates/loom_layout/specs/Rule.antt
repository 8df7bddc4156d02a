use Rattle.std.specs.Prelude.{ℕ, List, Option}
use Rattle.loom_topology.specs.Topology.{TopologyView}
use Rattle.loom_topology.specs.Ties.{IsOneAt, Splits, StepsTo}
use Rattle.loom_layout.specs.Layout.{IsLeastOf}
use Rattle.loom_layout.specs.declared.rule.Rule.{Rule}
use Rattle.loom_layout.specs.declared.rule.Rule.TheVariants.{Hang, Split, Over}

-- the segment is the lowest that leads on from v, and it leads to u
pub record IsLowestStep (topology : TopologyView) (least : ℕ → ℕ → Option ℕ) (mask v segment u : ℕ) : Type 0 where
  pub steps : StepsTo topology least mask v segment u
  pub lowest : IsLeastOf (λ s. (w : ℕ) × StepsTo topology least mask v s w) segment

-- the rule by which a mask is laid at node v
abbrev pub Applies : TopologyView → List ℕ → (ℕ → ℕ → Option ℕ) → ℕ → ℕ → Rule → Type 0
Applies topology terminals least mask v (Hang i) = IsOneAt topology terminals mask v i
Applies topology terminals least mask v (Split part) =
    ((i : ℕ) → IsOneAt topology terminals mask v i → ⊥) × IsLeastOf (Splits topology least mask v) part
Applies topology terminals least mask v (Over segment u) =
    ((i : ℕ) → IsOneAt topology terminals mask v i → ⊥)
    × ((part : ℕ) → Splits topology least mask v part → ⊥)
    × IsLowestStep topology least mask v segment.0 u.0
