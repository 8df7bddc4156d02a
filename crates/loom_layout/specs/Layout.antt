use Rattle.std.specs.Prelude.{ℕ, List, Option, [], ◌∷◌, ◌++◌, ◌≡◌, ◌+◌, ◌-◌, ◌≤◌, length, replicate, slice_set}
use Rattle.loom_topology.specs.Topology.{TopologyView}
use Rattle.loom_topology.specs.WiringTree.{Step, Tree}
use Rattle.loom_topology.specs.Legal.{chosen}
use Rattle.loom_topology.specs.Ties.{IsOneAt, Splits, StepsTo}
use Rattle.loom_types.specs.declared.layout.Layout.{Layout}
use Rattle.loom_types.specs.SetMask.{rest_of, stem_node}
use Rattle.loom_types.specs.LayoutTree.{tree_of}

-- a layout while it is laid: the steps so far, and for each terminal past the first the point on which its cavity
-- hangs, 0 before it is hung
pub record Laying : Type 0 where
  pub steps : List Step
  pub points : List ℕ

-- no step yet, and no cavity hung
abbrev pub nothing_laid : List ℕ → Laying
nothing_laid terminals = record { steps = []; points = replicate (length terminals - 1) 0 }

-- the cavity of bit i hung on a point
abbrev pub hung : Laying → ℕ → ℕ → Laying
hung laying i point = record laying { points = slice_set laying.points i point }

-- one step more, from a point over a segment
abbrev pub stepped : Laying → ℕ → ℕ → Laying
stepped laying point segment =
    record laying { steps = laying.steps ++ (record { parent = point; segment = segment }) ∷ [] }

-- the point that the next step adds: points are numbered as they are added, and point 0 is there from the start
abbrev pub next_point : Laying → ℕ
next_point laying = length laying.steps + 1

-- the tree of the cavities of a mask, once they are hung
abbrev pub tree_laid : ℕ → Laying → Tree
tree_laid mask laying = record { steps = laying.steps; hangs = chosen laying.points mask }

-- the least number for which P holds
pub record IsLeastOf (P : ℕ → Type 0) (n : ℕ) : Type 0 where
  pub holds : P n
  pub least : (k : ℕ) → P k → n ≤ k

-- least costs alone lay a mask's cavities at a point that lies at node v: one cavity at v hangs there; else the least first
-- part that splits off is laid there and then the rest; else a step over the lowest open segment that leads on adds a
-- point, and the mask is laid there
pub data Laid (topology : TopologyView) (terminals : List ℕ) (least : ℕ → ℕ → Option ℕ)
    : ℕ → ℕ → ℕ → Laying → Laying → Type 0 where
  hang : {mask v point : ℕ} {before : Laying} (i : ℕ)
      → IsOneAt topology terminals mask v i
      → Laid topology terminals least mask v point before (hung before i point)
  split : {mask v point : ℕ} {before between after : Laying} (part : ℕ)
      → ((i : ℕ) → IsOneAt topology terminals mask v i → ⊥)
      → IsLeastOf (Splits topology least mask v) part
      → Laid topology terminals least part v point before between
      → Laid topology terminals least (mask - part) v point between after
      → Laid topology terminals least mask v point before after
  over : {mask v point : ℕ} {before after : Laying} (segment u : ℕ)
      → ((i : ℕ) → IsOneAt topology terminals mask v i → ⊥)
      → ((part : ℕ) → Splits topology least mask v part → ⊥)
      → IsLeastOf (λ s. (w : ℕ) × StepsTo topology least mask v s w) segment
      → StepsTo topology least mask v segment u
      → Laid topology terminals least mask u (next_point before) (stepped before point segment) after
      → Laid topology terminals least mask v point before after

-- the tree is the layout of a mask from node v
abbrev pub IsLayout : TopologyView → List ℕ → (ℕ → ℕ → Option ℕ) → ℕ → ℕ → Tree → Type 0
IsLayout topology terminals least mask v tree =
    (laying : Laying) × Laid topology terminals least mask v 0 (nothing_laid terminals) laying × (tree ≡ tree_laid mask laying)

-- the layout of a set: that of its other cavities from the node of its first one
abbrev pub IsLayoutOf : TopologyView → List ℕ → (ℕ → ℕ → Option ℕ) → ℕ → Layout → Type 0
IsLayoutOf topology terminals least mask layout =
    IsLayout topology terminals least (rest_of mask) (stem_node topology terminals mask) (tree_of layout)
