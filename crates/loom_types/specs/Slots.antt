use Rattle.std.specs.Prelude.{ℕ, List, Bool, ◌≡◌, ◌<◌, ◌⊎◌, ◌==◌, ◌&&◌, nat_le, IsTrue, Contains, count_by}
use Rattle.loom_topology.specs.Topology.{TopologyView, segment_at, is_coupler}
use Rattle.loom_types.specs.declared.layout.Layout.{Layout}
use Rattle.loom_types.specs.declared.plan.SetLine.{SetLine}
use Rattle.loom_types.specs.declared.plan.PinLine.{PinLine}
use Rattle.loom_types.specs.declared.wire.End.TheVariants.{Pin}
use Rattle.loom_types.specs.declared.wire.Wire.{Wire}

-- a crossing of a coupler: the ordinal-th step over it, counted from 1, in a layout of the net
pub record Slot : Type 0 where
  pub net : ℕ
  pub coupler : ℕ
  pub ordinal : ℕ

-- how many steps of a layout go over a segment
abbrev pub steps_over : Layout → ℕ → ℕ
steps_over layout segment = count_by (λ step. step.1.0 == segment) layout.steps

-- whether the layout of a set has so many steps over the coupler
abbrev pub has_slot : SetLine → Slot → Bool
has_slot set slot = set.net.0 == slot.net && (nat_le 1 slot.ordinal && nat_le slot.ordinal (steps_over set.layout slot.coupler))

-- the slot is one of a coupler, and the layout of some set has it
abbrev pub IsSlotOf : TopologyView → List SetLine → Slot → Type 0
IsSlotOf topology sets slot =
    IsTrue (is_coupler (segment_at topology slot.coupler).kind)
    × ((set : SetLine) × Contains sets set × IsTrue (has_slot set slot))

-- slots are ordered by net, then coupler, then ordinal
abbrev pub IsSlotBefore : Slot → Slot → Type 0
IsSlotBefore one other =
    (one.net < other.net)
    ⊎ ((one.net ≡ other.net) × ((one.coupler < other.coupler) ⊎ ((one.coupler ≡ other.coupler) × (one.ordinal < other.ordinal))))

-- the slot whose pin a line gives
abbrev pub slot_of : PinLine → Slot
slot_of line = record { net = line.net.0; coupler = line.coupler.0; ordinal = line.ordinal }

-- the wire ends at a pin, on whichever side
abbrev pub EndsAtPin : Wire → ℕ → ℕ → Type 0
EndsAtPin w coupler pin =
    (side : ℕ) × ((w.from ≡ Pin (record { 0 = coupler }) pin side) ⊎ (w.to ≡ Pin (record { 0 = coupler }) pin side))
