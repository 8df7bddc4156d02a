use Rattle.std.specs.Prelude.{ℕ, List, [], ◌∷◌, ◌++◌, Bool, ◌≡◌, ◌≤◌, ◌==◌, ◌&&◌, All, filter, map, max, if◌then◌else◌}
use Rattle.std.specs.List.{fold, position_from}
use Rattle.std.specs.HashMap.{HashMap, get}
use Rattle.std.specs.declared.hash.FoldHasher.{FoldHasher}
use Rattle.std.specs.declared.hash.BuildHasherDefault.{BuildHasherDefault}
use Rattle.loom_topology.specs.Topology.{TopologyView}
use Rattle.loom_types.specs.declared.plan.Module.{Module}
use Rattle.loom_types.specs.declared.wire.Wire.{Wire}
use Rattle.loom_types.specs.Modules.{module_of, rows_in}

-- whether a module is that of a harness and a row
abbrev pub is_module_of : ℕ → ℕ → Module → Bool
is_module_of harness row m = m.harness == harness && m.row == row

-- keys of harness and row
abbrev pub is_same_pair : ℕ × ℕ → ℕ × ℕ → Bool
is_same_pair x y = x.0 == y.0 && x.1 == y.1

-- the table has the place of the first module of each harness and row, and nothing where there is none
abbrev pub FindsModules : List Module → HashMap (ℕ × ℕ) ℕ (BuildHasherDefault FoldHasher) → Type 0
FindsModules modules table =
    (harness row : ℕ) → get is_same_pair table (harness, row) ≡ position_from (is_module_of harness row) 0 modules

-- with one more wire in the first module of its harness and row, which is the last one where there is none yet
abbrev pub with_wire : List Module → ℕ → ℕ → ℕ → List Module
with_wire [] harness row position = record { harness = harness; row = row; wires = position ∷ [] } ∷ []
with_wire (m ∷ modules) harness row position =
    if is_module_of harness row m
    then record m { wires = m.wires ++ position ∷ [] } ∷ modules
    else m ∷ with_wire modules harness row position

-- the greatest number of a harness
abbrev pub greatest_harness : TopologyView → ℕ
greatest_harness topology = fold (λ most node. max most node.harness) 0 topology.nodes

-- harness by harness, these are the modules of the wires in the order of their first wires
pub record AreGrouped (topology : TopologyView) (wires : List Wire) (modules : List Module) : Type 0 where
  pub known : All (λ m. m.harness ≤ greatest_harness topology) modules
  pub each : (harness : ℕ) → filter (λ m. m.harness == harness) modules
      ≡ map (module_of topology wires harness) (rows_in topology wires harness)
