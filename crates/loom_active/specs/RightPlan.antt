use Rattle.std.specs.Prelude.{ℕ, List, [], Bool, false, Some, ◌≡◌, ◌↔◌, ◌<◌, ◌≤◌, ◌-◌, ◌^◌, ◌==◌, ◌&&◌, IsTrue, Contains, count_by, drop, filter, length, slice_index}
use Rattle.loom_base.specs.declared.positions.SegmentNo.{SegmentNo}
use Rattle.loom_formula.specs.NameIndex.{has_name}
use Rattle.loom_formula.specs.RowList.{value_of}
use Rattle.loom_topology.specs.Topology.{TopologyView, node_of, segment_at}
use Rattle.loom_topology.specs.Table.{cell_at}
use Rattle.loom_topology.specs.WiringTree.{Tree, IsWiringTree}
use Rattle.loom_topology.specs.TreeCost.{cost_of}
use Rattle.loom_topology.specs.Legal.{IsLegal, IsMask, chosen}
use Rattle.loom_project.specs.declared.draft.Draft.{Draft}
use Rattle.loom_project.specs.Draft.{pins_of}
use Rattle.loom_project.specs.Project.{topology_of, net_topology, net_at, cavities_of, reserved_of, bars_of}
use Rattle.loom_types.specs.declared.wire.Wire.{Wire}
use Rattle.loom_types.specs.declared.plan.Plan.{Plan}
use Rattle.loom_types.specs.declared.plan.PinLine.{PinLine}
use Rattle.loom_types.specs.declared.plan.SetLine.{SetLine}
use Rattle.loom_types.specs.declared.plan.TableLine.{TableLine}
use Rattle.loom_types.specs.Joined.{live_of, JoinNeeds}
use Rattle.loom_types.specs.Routes.{IsRouted}
use Rattle.loom_types.specs.Slots.{Slot, IsSlotOf, slot_of, EndsAtPin}
use Rattle.loom_types.specs.WireCost.{wires_cost}
use Rattle.loom_active.specs.Needs.{is_valid_for, need_of}
use Rattle.loom_active.specs.Usages.{IsUsed}

-- the wires that are live under a choice
abbrev pub live_wires : Plan → (ℕ → Bool) → List Wire
live_wires plan choice = live_of (value_of plan.rows choice) plan.wires

-- those of one net
abbrev pub live_wires_of : Plan → (ℕ → Bool) → ℕ → List Wire
live_wires_of plan choice net = filter (λ w. w.net.0 == net) (live_wires plan choice)

-- the node of the first of these cavities, from which trees lead to the others
abbrev pub first_node : TopologyView → List ℕ → ℕ
first_node topology need = node_of topology (slice_index need 0)

-- no wiring tree for all the cavities costs less
abbrev pub NoTreeCostsLess : TopologyView → List ℕ → ℕ → Type 0
NoTreeCostsLess topology need cost =
    (tree : Tree) → IsWiringTree topology (drop 1 need) (first_node topology need) tree → cost ≤ cost_of topology (first_node topology need) tree

-- how many printed tables a net has
abbrev pub tables_of : Plan → ℕ → ℕ
tables_of plan net = count_by (λ line. line.net.0 == net) plan.tables

-- how many printed sets a net has of a mask, and how many that are live by their rows
abbrev pub sets_of_mask : Plan → ℕ → ℕ → ℕ
sets_of_mask plan net mask = count_by (λ set. set.net.0 == net && set.mask == mask) plan.sets

abbrev pub live_sets_of : Plan → (ℕ → Bool) → ℕ → ℕ
live_sets_of plan choice net = count_by (λ set. set.net.0 == net && value_of plan.rows choice set.row) plan.sets

-- the printed table of a net, of which there is one: it has the net's masks and the project's nodes, and it is legal over the net's topology
pub record IsTableOf (draft : Draft) (plan : Plan) (net : ℕ) (line : TableLine) : Type 0 where
  pub printed : Contains plan.tables line
  pub of_net : line.net.0 ≡ net
  pub one : tables_of plan net ≡ 1
  pub masks : line.table.masks ≡ 2 ^ (length (cavities_of draft net) - 1) - 1
  pub nodes : line.table.nodes ≡ length draft.nodes
  pub legal : IsLegal (net_topology draft net) (cavities_of draft net) (cell_at line.table)

-- the printed set of what a net needs under a choice: the only one of its mask, which has no bit past the net's last terminal, and the
-- net's only one that is live by its row
pub record IsSetOfNeed (draft : Draft) (plan : Plan) (choice : ℕ → Bool) (net : ℕ) (set : SetLine) : Type 0 where
  pub printed : Contains plan.sets set
  pub of_net : set.net.0 ≡ net
  pub of_need : chosen (cavities_of draft net) set.mask ≡ need_of draft choice net
  pub within : set.mask < 2 ^ length (cavities_of draft net)
  pub one : sets_of_mask plan net set.mask ≡ 1
  pub live : IsTrue (value_of plan.rows choice set.row)
  pub one_live : live_sets_of plan choice net ≡ 1

-- what a net needs costs least, and the plan shows it: the net's printed table is legal; its cell for all needed cavities but the first, at the
-- first one's node, the printed cost of their set and the cost of the net's live wires are one number; and no wiring tree costs less
pub record CostsLeast (draft : Draft) (plan : Plan) (choice : ℕ → Bool) (net : ℕ) : Type 0 where
  pub line : TableLine
  pub is_table : IsTableOf draft plan net line
  pub set : SetLine
  pub is_set : IsSetOfNeed draft plan choice net set
  pub mask : ℕ
  pub is_mask : IsMask (cavities_of draft net) mask
  pub mask_of_rest : chosen (drop 1 (cavities_of draft net)) mask ≡ drop 1 (need_of draft choice net)
  pub cell : cell_at line.table mask (first_node (net_topology draft net) (need_of draft choice net)) ≡ Some set.cost
  pub cost : wires_cost (net_topology draft net) (live_wires_of plan choice net) ≡ set.cost
  pub least : NoTreeCostsLess (net_topology draft net) (need_of draft choice net) (wires_cost (net_topology draft net) (live_wires_of plan choice net))

-- under every valid choice the live wires join two cavities exactly when one net needs both
abbrev pub JoinsWhatNetsNeed : Draft → Plan → Type 0
JoinsWhatNetsNeed draft plan =
    (choice : ℕ → Bool) → IsTrue (is_valid_for draft choice) → JoinNeeds (need_of draft choice) (live_wires plan choice)

-- under every valid choice a net that needs fewer than two cavities has no live wire; so has a number that is no net's
abbrev pub IdleNetsHaveNoWires : Draft → Plan → Type 0
IdleNetsHaveNoWires draft plan =
    (choice : ℕ → Bool) → IsTrue (is_valid_for draft choice) → (net : ℕ) → length (need_of draft choice net) < 2
    → live_wires_of plan choice net ≡ []

-- under every valid choice each net that needs at least two cavities costs least
abbrev pub EachNetCostsLeast : Draft → Plan → Type 0
EachNetCostsLeast draft plan =
    (choice : ℕ → Bool) → IsTrue (is_valid_for draft choice) → (net : ℕ) → 2 ≤ length (need_of draft choice net) → CostsLeast draft plan choice net

-- each wire is one of a net, and leads over a chain of runs that are open to the net, whose lengths are its length
pub record IsRoutedForNet (draft : Draft) (w : Wire) : Type 0 where
  pub net : w.net.0 < length draft.nets
  pub routed : IsRouted (net_topology draft w.net.0) w

abbrev pub WiresAreRouted : Draft → Plan → Type 0
WiresAreRouted draft plan = (w : Wire) → Contains plan.wires w → IsRoutedForNet draft w

-- how many pins a segment has; a run has none
abbrev pub pins_at : Draft → ℕ → ℕ
pins_at draft segment = pins_of (segment_at (topology_of draft) segment).kind

-- the pin is one of the coupler's, counted from 1, and isn't reserved
abbrev pub IsFreePin : Draft → ℕ → ℕ → Type 0
IsFreePin draft coupler pin = (1 ≤ pin) × (pin ≤ pins_at draft coupler) × (Contains (reserved_of draft coupler) pin → ⊥)

-- how many printed lines give the pin of a slot
abbrev pub lines_of : Plan → Slot → ℕ
lines_of plan slot =
    count_by (λ line. line.net.0 == slot.net && (line.coupler.0 == slot.coupler && line.ordinal == slot.ordinal)) plan.pins

-- each slot of the printed layouts has one printed line, and there is no other line; each printed pin is one of its coupler's that isn't
-- reserved; and under every valid choice two slots of one coupler that are both used have different pins
pub record PrintsPins (draft : Draft) (plan : Plan) : Type 0 where
  pub each : (slot : Slot) → IsSlotOf (topology_of draft) plan.sets slot → lines_of plan slot ≡ 1
  pub only : (line : PinLine) → Contains plan.pins line → IsSlotOf (topology_of draft) plan.sets (slot_of line)
  pub free : (line : PinLine) → Contains plan.pins line → IsFreePin draft line.coupler.0 line.pin
  pub apart : (choice : ℕ → Bool) → IsTrue (is_valid_for draft choice) → (one other : PinLine) → Contains plan.pins one → Contains plan.pins other
      → IsUsed draft plan choice (slot_of one) → IsUsed draft plan choice (slot_of other)
      → one.coupler.0 ≡ other.coupler.0 → one.pin ≡ other.pin → slot_of one ≡ slot_of other

-- some live wire of the net ends at the pin
abbrev pub EndsLiveAtPin : Plan → (ℕ → Bool) → ℕ → ℕ → ℕ → Type 0
EndsLiveAtPin plan choice net coupler pin =
    (w : Wire) × Contains (live_wires_of plan choice net) w × EndsAtPin w coupler pin

-- a used slot of the net has the pin
pub record UsesPin (draft : Draft) (plan : Plan) (choice : ℕ → Bool) (net coupler pin : ℕ) : Type 0 where
  pub line : PinLine
  pub printed : Contains plan.pins line
  pub of_net : line.net.0 ≡ net
  pub of_coupler : line.coupler.0 ≡ coupler
  pub has_pin : line.pin ≡ pin
  pub used : IsUsed draft plan choice (slot_of line)

-- crossings that are used together have different pins, and the live wires of a net end exactly at the pins of its used slots
pub record KeepsPinsApart (draft : Draft) (plan : Plan) : Type 0 where
  pub pins : PrintsPins draft plan
  pub ends : (choice : ℕ → Bool) → IsTrue (is_valid_for draft choice) → (net coupler pin : ℕ)
      → EndsLiveAtPin plan choice net coupler pin ↔ UsesPin draft plan choice net coupler pin

-- whether a segment bars the class of a net
abbrev pub bars_net : Draft → ℕ → ℕ → Bool
bars_net draft segment net = has_name (bars_of draft segment) (net_at draft net).class

-- no segment that a wire passes bars the class of its net: neither a run of its route nor the coupler of a pin at which it ends
pub record RespectsBars (draft : Draft) (plan : Plan) : Type 0 where
  pub routes : (w : Wire) → Contains plan.wires w → (s : SegmentNo) → Contains w.route s → bars_net draft s.0 w.net.0 ≡ false
  pub couplers : (w : Wire) → Contains plan.wires w → (coupler pin : ℕ) → EndsAtPin w coupler pin
      → bars_net draft coupler w.net.0 ≡ false

-- a plan is right, whoever made it
pub record IsRight (draft : Draft) (plan : Plan) : Type 0 where
  pub joins : JoinsWhatNetsNeed draft plan
  pub idle : IdleNetsHaveNoWires draft plan
  pub least : EachNetCostsLeast draft plan
  pub routed : WiresAreRouted draft plan
  pub pins : KeepsPinsApart draft plan
  pub bars : RespectsBars draft plan
