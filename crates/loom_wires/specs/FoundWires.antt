use Rattle.std.specs.Prelude.{ℕ, List, [], ◌∷◌, ◌++◌, Bool, false, ◌≡◌, ◌+◌, ◌-◌, ◌==◌, ◌⊎◌, Some, length, map, slice_get, slice_index_or, unwrap_or, All, Contains, if◌then◌else◌}
use Rattle.std.specs.List.{list_any}
use Rattle.std.specs.Option.{option_map_or}
use Rattle.std.specs.declared.cmp.Ordering.{Ordering}
use Rattle.std.specs.BTreeMap.{BTreeMap, IsOrdered, get, keys}
use Rattle.loom_topology.specs.Topology.{TopologyView}
use Rattle.loom_rows.specs.declared.cond.Cond.{Cond, Never}
use Rattle.loom_rows.specs.Condition.{Meaning, value}
use Rattle.loom_rows.specs.Table.{Table, Has}
use Rattle.loom_rows.specs.Leftovers.{AreSame}
use Rattle.loom_rows.specs.Disjunction.{some_hold, any_worked}
use Rattle.loom_types.specs.declared.plan.PinLine.{PinLine}
use Rattle.loom_types.specs.declared.wire.Wire.{Wire}
use Rattle.loom_types.specs.LayoutWires.{bare}
use Rattle.loom_types.specs.WireOrder.{wire_cmp}
use Rattle.loom_wires.specs.declared.cut_wire.CutWire.{CutWire}
use Rattle.loom_wires.specs.declared.laid_set.LaidSet.{LaidSet}
use Rattle.loom_wires.specs.declared.wire_key.WireKey.{WireKey}
use Rattle.loom_wires.specs.Wires.{is_same_wire, has_wire, bare_of, AreWires}

-- the positions of the sets that pass a test, rising, where the first set has this position
abbrev pub positions_from : (LaidSet → Bool) → ℕ → List LaidSet → List ℕ
positions_from p at [] = []
positions_from p at (set ∷ sets) = if p set then at ∷ positions_from p (at + 1) sets else positions_from p (at + 1) sets

abbrev pub positions : (LaidSet → Bool) → List LaidSet → List ℕ
positions p sets = positions_from p 0 sets

-- wires, each with the positions of the sets that have it
abbrev pub Found : Type 0
Found = BTreeMap WireKey (List ℕ)

abbrev pub key_cmp : WireKey → WireKey → Ordering
key_cmp one other = wire_cmp one.wire other.wire

abbrev pub wires_of : Found → List Wire
wires_of found = map (λ k. k.wire) (keys found)

-- the positions that a wire has so far
abbrev pub positions_at : Found → WireKey → List ℕ
positions_at found key = unwrap_or (get key_cmp found key) []

-- whether the last of the positions is this one
abbrev pub ends_with : ℕ → List ℕ → Bool
ends_with at positions = option_map_or (λ p. p == at) (slice_get positions (length positions - 1)) false

-- the positions with this one at their end, once
abbrev pub with_position : ℕ → List ℕ → List ℕ
with_position at positions = if ends_with at positions then positions else positions ++ at ∷ []

-- the position of a set was noted at these wires, and at no other
pub record AreNoted (at : ℕ) (wires : List Wire) (old new : Found) : Type 0 where
  pub noted : (key : WireKey)
      → get key_cmp new key
      ≡ (if list_any (is_same_wire key.wire) wires then Some (with_position at (positions_at old key)) else get key_cmp old key)
  pub keys : (key : WireKey) → Contains (keys new) key → Contains wires key.wire ⊎ Contains (keys old) key
  pub ordered : IsOrdered key_cmp old → IsOrdered key_cmp new

-- the wires over all sets, each with the positions of the sets whose layouts have it
pub record AreFound (topology : TopologyView) (pins : List PinLine) (sets : List LaidSet) (found : Found) : Type 0 where
  pub wires : AreWires topology pins sets (wires_of found)
  pub users : All (λ e. e.1 ≡ positions (has_wire topology pins e.0.wire) sets) found.entries

-- the conditions of the sets at these positions
abbrev pub conds_at : List LaidSet → List ℕ → List Cond
conds_at sets positions = map (λ at. slice_index_or (map (λ set. set.cond) sets) at Never) positions

-- what is worked out for a wire of these sets
abbrev pub worked_for : List LaidSet → WireKey × List ℕ → List Meaning
worked_for sets found = any_worked (map value (conds_at sets found.1))

-- the found wire with the disjunction of its sets' conditions
pub record IsJoined (table : Table) (sets : List LaidSet) (found : WireKey × List ℕ) (cut : CutWire) : Type 0 where
  pub wire : bare_of cut ≡ bare found.0.wire
  pub has : Has table cut.cond
  pub condition : AreSame (value cut.cond) (some_hold (map value (conds_at sets found.1)))
