-- The slots of layouts, found layout by layout and step by step.
use Rattle.std.specs.Prelude.{ℕ, Bool, List, ◌≡◌, ◌&&◌, ◌||◌, nat_eq, unwrap_or}
use Rattle.std.specs.List.{list_any}
use Rattle.std.specs.declared.cmp.Ordering.{Ordering}
use Rattle.std.specs.Ordering.{nat_cmp, ordering_then}
use Rattle.std.specs.BTreeSet.{BTreeSet, contains}
use Rattle.std.specs.HashMap as table
use Rattle.std.specs.HashMap.{HashMap}
use Rattle.loom_topology.specs.Topology.{TopologyView, segment_at, is_coupler}
use Rattle.loom_types.specs.declared.plan.SetLine.{SetLine}
use Rattle.loom_types.specs.Slots.{Slot, has_slot}

-- a slot as a key: its net, its coupler and its ordinal
abbrev pub Key : Type 0
Key = ℕ × ℕ × ℕ

abbrev pub slot_of_key : Key → Slot
slot_of_key key = record { net = key.0; coupler = key.1; ordinal = key.2 }

-- by net, then coupler, then ordinal
abbrev pub key_cmp : Key → Key → Ordering
key_cmp one other = ordering_then (ordering_then (nat_cmp one.0 other.0) (nat_cmp one.1 other.1)) (nat_cmp one.2 other.2)

-- how often a segment was crossed so far
abbrev pub crossings : {S : Type 0} → HashMap ℕ ℕ S → ℕ → ℕ
crossings counts segment = unwrap_or (table.get nat_eq counts segment) 0

-- whether the slot is one of a coupler, and the layout of the set has it
abbrev pub crosses : TopologyView → SetLine → Key → Bool
crosses topology set key = is_coupler (segment_at topology key.1).kind && has_slot set (slot_of_key key)

-- the slots of a set's layout were added, and no other
abbrev pub AreAdded : TopologyView → SetLine → BTreeSet Key → BTreeSet Key → Type 0
AreAdded topology set old new = (q : Key) → contains key_cmp new q ≡ (crosses topology set q || contains key_cmp old q)

-- these are the slots of the layouts of sets
abbrev pub AreSlotKeys : TopologyView → List SetLine → BTreeSet Key → Type 0
AreSlotKeys topology sets slots = (q : Key) → contains key_cmp slots q ≡ list_any (λ set. crosses topology set q) sets
