use Rattle.std.specs.Prelude.{ℕ, Bool, List, [], ◌∷◌, ◌++◌, Option, Some, None, ◌≡◌, ◌+◌, ◌≤◌, ◌&&◌, if◌then◌else◌, nat_eq}
use Rattle.std.specs.Prelude.{map, filter, length, unwrap_or}
use Rattle.std.specs.declared.cmp.Ordering.{Ordering}
use Rattle.std.specs.Ordering.{is_eq, nat_cmp, ordering_then}
use Rattle.std.specs.BTreeMap.{BTreeMap, IsOrdered, get, btree_map_len}
use Rattle.std.specs.HashMap as table
use Rattle.std.specs.HashMap.{HashMap}
use Rattle.loom_topology.specs.Topology.{TopologyView, segment_at, is_coupler}
use Rattle.loom_rows.specs.declared.cond.Cond.{Cond}
use Rattle.loom_rows.specs.Condition.{Meaning, value}
use Rattle.loom_rows.specs.Disjunction.{some_hold, any_worked}
use Rattle.loom_types.specs.Slots.{Slot, has_slot}
use Rattle.loom_laid.specs.declared.laid_set.LaidSet.{LaidSet}
use Rattle.loom_laid.specs.LaidSets.{steps_of}
use Rattle.loom_pins.specs.declared.slot.Slot.{Slot as PinSlot}
use Rattle.loom_plan.specs.Work.{line_of, slot_at}

-- a slot as a key: its net, its coupler and its ordinal
abbrev pub Key : Type 0
Key = ℕ × ℕ × ℕ

abbrev pub slot_of_key : Key → Slot
slot_of_key key = record { net = key.0; coupler = key.1; ordinal = key.2 }

-- by net, then coupler, then ordinal
abbrev pub key_cmp : Key → Key → Ordering
key_cmp one other = ordering_then (ordering_then (nat_cmp one.0 other.0) (nat_cmp one.1 other.1)) (nat_cmp one.2 other.2)

-- slots, each with the conditions of sets whose layouts have it
abbrev pub Users : Type 0
Users = BTreeMap Key (List Cond)

-- the conditions that a slot has so far
abbrev pub conds_at : Users → Key → List Cond
conds_at users key = unwrap_or (get key_cmp users key) []

-- how often a segment was crossed so far
abbrev pub crossings : {S : Type 0} → HashMap ℕ ℕ S → ℕ → ℕ
crossings counts segment = unwrap_or (table.get nat_eq counts segment) 0

-- a condition was added to one slot, behind those that it has
pub record IsAddedTo (key : Key) (cond : Cond) (old new : Users) : Type 0 where
  pub at : (q : Key) → get key_cmp new q ≡ (if is_eq (key_cmp key q) then Some (conds_at old key ++ cond ∷ []) else get key_cmp old q)
  pub few : btree_map_len new ≤ btree_map_len old + 1
  pub ordered : IsOrdered key_cmp new

-- whether the slot is one of a coupler, and the layout of the set has it
abbrev pub crosses : TopologyView → LaidSet → Key → Bool
crosses topology set key = is_coupler (segment_at topology key.1).kind && has_slot (line_of set) (slot_of_key key)

-- the condition of a set was added to each slot that its layout has, and to no other
pub record IsAdded (topology : TopologyView) (set : LaidSet) (old new : Users) : Type 0 where
  pub at : (q : Key) → get key_cmp new q ≡ (if crosses topology set q then Some (conds_at old q ++ set.cond ∷ []) else get key_cmp old q)
  pub few : btree_map_len new ≤ btree_map_len old + length set.layout.steps
  pub ordered : IsOrdered key_cmp old → IsOrdered key_cmp new

-- the conditions of the sets whose layouts have a slot, set by set
abbrev pub conds_of : TopologyView → List LaidSet → Key → List Cond
conds_of topology laid key = map (λ set. set.cond) (filter (λ set. crosses topology set key) laid)

-- a list, where it isn't empty
abbrev pub unless_empty : List Cond → Option (List Cond)
unless_empty [] = None
unless_empty (cond ∷ conds) = Some (cond ∷ conds)

-- the slots of the layouts, each with the conditions of the sets, set by set, whose layouts have it
pub record AreUsers (topology : TopologyView) (laid : List LaidSet) (users : Users) : Type 0 where
  pub at : (q : Key) → get key_cmp users q ≡ unless_empty (conds_of topology laid q)
  pub few : btree_map_len users ≤ steps_of laid
  pub ordered : IsOrdered key_cmp users

-- what is worked out for a slot's usage
abbrev pub usage_worked : Key × List Cond → List Meaning
usage_worked entry = any_worked (map value entry.1)

-- slots with usages that hold exactly where one of their conditions does
pub record AreJoined (entries : List (Key × List Cond)) (used : List PinSlot) : Type 0 where
  pub slots : map slot_at used ≡ map (λ e. slot_of_key e.0) entries
  pub usages : map (λ slot. value slot.usage) used ≡ map (λ e. some_hold (map value e.1)) entries
