-- Live wires end exactly at the pins of used slots, and wires at one pin are of one net.
use Rattle.std.proofs.Common.{◌≡◌, ◌↔◌, ℕ, ◌≤◌, ◌==◌, ◌&&◌, Bool, true, Ok, sym, ap, subst, ◌∙◌, Contains}
use Rattle.std.specs.Prelude.{IsTrue, nat_le}
use Rattle.std.proofs.lemmas.Bool.{eq-eqb, eqb-true, leb-true, and_parts}
use Rattle.loom_base.proofs.Contained.{Contains-filter, Contains-from_filter}
use Rattle.loom_formula.specs.RowList.{value_of}
use Rattle.loom_topology.specs.Topology.{segment_at, is_coupler}
use Rattle.loom_project.specs.declared.draft.Draft.{Draft}
use Rattle.loom_project.specs.Project.{topology_of, net_topology, cavities_of, HasSoundTopologies}
use Rattle.loom_project.specs.Sound.{draft_check}
use Rattle.loom_types.specs.declared.plan.Plan.{Plan}
use Rattle.loom_types.specs.declared.plan.SetLine.{SetLine}
use Rattle.loom_types.specs.declared.wire.Wire.{Wire}
use Rattle.loom_types.specs.LayoutWires.{bare}
use Rattle.loom_types.specs.PinLines.{pin_in}
use Rattle.loom_types.specs.Slots.{Slot, slot_of, steps_over, EndsAtPin}
use Rattle.loom_active.specs.LiveSets.{IsLiveUnder}
use Rattle.loom_active.specs.RightPlan.{live_wires, EndsLiveAtPin, UsesPin, KeepsPinsApart}
use Rattle.loom_active.specs.SetWires.{PinsKeepToNets}
use Rattle.loom_plan.specs.PlanOf.{IsPlanOf}
use Rattle.loom_plan.proofs.LowerLaws.{LowerLaws}
use Rattle.loom_active.proofs.Openings.{net_differs, coupler-same}
use Rattle.loom_plan.proofs.PrintedPins.{pin_is, apart, prints_pins, gives_pin}
use Rattle.loom_plan.proofs.SetsWires.{own_wires, printed_wire, live_wire_set, set_wire_live, laid_out, own_routed}

module _ (draft : Draft) (plan : Plan) (passed : draft_check draft ≡ Ok tt) (sound : HasSoundTopologies draft) (is : IsPlanOf draft plan)
    (laws : LowerLaws) where
  module _ (choice : ℕ → Bool) (set : SetLine) (printed : Contains plan.sets set) (live : IsLiveUnder draft choice set.net.0 set.mask) where
    -- at which pins the wires of the set's layout end
    set_ends : (coupler pin : ℕ)
        → ((w : Wire) × Contains (own_wires draft plan set) w × EndsAtPin w coupler pin)
        ↔ (IsTrue (is_coupler (segment_at (net_topology draft set.net.0) coupler).kind)
        × ((ordinal : ℕ) × (1 ≤ ordinal) × (ordinal ≤ steps_over set.layout coupler) × (pin_in plan.pins set.net.0 coupler ordinal ≡ pin)))
    unfolding own_wires
    set_ends coupler pin =
        laws.ends (net_topology draft set.net.0) set.net.0 (pin_in plan.pins set.net.0) (cavities_of draft set.net.0) set.mask set.layout
        (laid_out draft plan passed sound is laws set printed) coupler pin

    -- a wire of the set that ends at a pin ends at that of a used slot
    wire_uses : (l : Wire) → Contains (own_wires draft plan set) l → (coupler pin : ℕ) → EndsAtPin l coupler pin
        → UsesPin draft plan choice set.net.0 coupler pin
    wire_uses l at coupler pin there =
        let (is_one, found) = (set_ends coupler pin).0 (l, at, there) in
        let given = gives_pin draft plan is.pins choice set printed live coupler is_one found.0 found.1 found.2 in
        record {
          line = given.line;
          printed = given.printed;
          of_net = ap (λ (s : Slot). s.net) given.is;
          of_coupler = ap (λ (s : Slot). s.coupler) given.is;
          has_pin = given.has_pin ∙ found.3;
          used = given.used;
        }

  live_uses : (choice : ℕ → Bool) (w : Wire) → Contains plan.wires w → value_of plan.rows choice w.row ≡ true → (coupler pin : ℕ)
      → EndsAtPin w coupler pin → UsesPin draft plan choice w.net.0 coupler pin
  live_uses choice w listed holds coupler pin there =
      let found = live_wire_set draft plan passed sound is choice w listed holds in
      let live = (is.sets.condition found.set found.printed choice).0 found.holds in
      let net : w.net.0 ≡ found.set.net.0 = (own_routed draft plan passed sound is laws found.set found.printed (bare w) found.has).1 in
      subst (λ (n : ℕ). UsesPin draft plan choice n coupler pin) (sym net)
      (wire_uses choice found.set found.printed live (bare w) found.has coupler pin there)

  -- wires whose conditions hold together and that end at one pin are of one net
  pub pins_keep_to_nets : PinsKeepToNets plan
  pins_keep_to_nets w v in_w in_v (choice, holds_w, holds_v) coupler pin ends_w ends_v =
      let a = live_uses choice w in_w holds_w coupler pin ends_w in
      let b = live_uses choice v in_v holds_v coupler pin ends_v in
      let slots : slot_of a.line ≡ slot_of b.line =
      apart draft plan is.pins choice a.line b.line a.printed b.printed a.used b.used (a.of_coupler ∙ sym b.of_coupler) (a.has_pin ∙ sym b.has_pin) in
      sym a.of_net ∙ (ap (λ (s : Slot). s.net) slots ∙ b.of_net)

  -- at the pin of a used slot a live wire of its net ends
  used_ends : (choice : ℕ → Bool) (net coupler pin : ℕ) → UsesPin draft plan choice net coupler pin → EndsLiveAtPin plan choice net coupler pin
  used_ends choice net coupler pin uses =
      let line = uses.line in
      let used = uses.used in
      let set = used.set in
      let a = and_parts (set.net.0 == line.net.0) (nat_le 1 line.ordinal && nat_le line.ordinal (steps_over set.layout line.coupler.0)) used.has in
      let b = and_parts (nat_le 1 line.ordinal) (nat_le line.ordinal (steps_over set.layout line.coupler.0)) a.1 in
      let one_net : set.net.0 ≡ line.net.0 = eqb-true set.net.0 line.net.0 a.0 in
      let kind : is_coupler (segment_at (net_topology draft set.net.0) line.coupler.0).kind ≡ true =
      sym (coupler-same (topology_of draft) (net_topology draft set.net.0) (net_differs draft set.net.0) line.coupler.0) ∙ (is.pins.only line uses.printed).0 in
      let has_pin : pin_in plan.pins set.net.0 line.coupler.0 line.ordinal ≡ line.pin =
      ap (λ (n : ℕ). pin_in plan.pins n line.coupler.0 line.ordinal) one_net ∙ pin_is draft plan is.pins line uses.printed in
      let (l, at, there) = (set_ends choice set used.printed used.live line.coupler.0 line.pin).1
      (kind, (line.ordinal, leb-true 1 line.ordinal b.0, leb-true line.ordinal (steps_over set.layout line.coupler.0) b.1, has_pin)) in
      let (w, listed, same) = printed_wire draft plan passed sound is set l used.printed at in
      let has : Contains (own_wires draft plan set) (bare w) = subst (λ (u : Wire). Contains (own_wires draft plan set) u) (sym same) at in
      let holds : value_of plan.rows choice w.row ≡ true =
      set_wire_live draft plan passed sound is choice w listed
      (record { set = set; printed = used.printed; has = has; holds = (is.sets.condition set used.printed choice).1 used.live }) in
      let of_net : w.net.0 ≡ net = (own_routed draft plan passed sound is laws set used.printed (bare w) has).1 ∙ (one_net ∙ uses.of_net) in
      let ends_w : EndsAtPin (bare w) line.coupler.0 line.pin = subst (λ (u : Wire). EndsAtPin u line.coupler.0 line.pin) (sym same) there in (
        w,
        Contains-filter (λ (v : Wire). v.net.0 == net) (live_wires plan choice) w
            (Contains-filter (λ (v : Wire). value_of plan.rows choice v.row) plan.wires w listed holds) (eq-eqb w.net.0 net of_net),
        subst (λ (c : ℕ). EndsAtPin w c pin) uses.of_coupler (subst (λ (p : ℕ). EndsAtPin w line.coupler.0 p) uses.has_pin ends_w),
      )

  ends_used : (choice : ℕ → Bool) (net coupler pin : ℕ) → EndsLiveAtPin plan choice net coupler pin → UsesPin draft plan choice net coupler pin
  ends_used choice net coupler pin (w, at, there) =
      let (in_live, test) = Contains-from_filter (λ (v : Wire). v.net.0 == net) (live_wires plan choice) w at in
      let (listed, holds) = Contains-from_filter (λ (v : Wire). value_of plan.rows choice v.row) plan.wires w in_live in
      subst (λ (n : ℕ). UsesPin draft plan choice n coupler pin) (eqb-true w.net.0 net test) (live_uses choice w listed holds coupler pin there)

  pub keeps_pins_apart : KeepsPinsApart draft plan
  keeps_pins_apart = record {
    pins = prints_pins draft plan is.pins;
    ends = λ choice valid net coupler pin. (λ at. ends_used choice net coupler pin at, λ uses. used_ends choice net coupler pin uses);
  }
