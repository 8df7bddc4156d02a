-- The wires of a plan's sets form trees and are routed, its pins are apart, and its sets cost what is printed.
use Rattle.std.proofs.Common.{◌≡◌, ℕ, ◌==◌, true, Ok, refl, subst, Contains, filter}
use Rattle.std.proofs.lemmas.Bool.{eq-eqb}
use Rattle.loom_base.proofs.Contained.{Contains-filter}
use Rattle.loom_formula.specs.RowList.{value_of}
use Rattle.loom_project.specs.declared.draft.Draft.{Draft}
use Rattle.loom_project.specs.Project.{HasSoundTopologies}
use Rattle.loom_project.specs.Sound.{draft_check}
use Rattle.loom_types.specs.declared.plan.Plan.{Plan}
use Rattle.loom_types.specs.declared.wire.Wire.{Wire}
use Rattle.loom_active.specs.RightPlan.{IsFreePin, live_wires, EndsLiveAtPin}
use Rattle.loom_plan.specs.PlanOf.{IsPlanOf}
use Rattle.loom_plan.proofs.LowerLaws.{LowerLaws}
use Rattle.loom_plan.proofs.PinsKept.{pins_keep_to_nets, keeps_pins_apart}
use Rattle.loom_plan.proofs.SetsWires.{wire_of_set, set_wire_live, is_its, its, its_cost, each_set_forms_tree}
use Rattle.loom_plan.proofs.WiresRouted.{wires_are_routed}
use Rattle.loom_audit.specs.Trees.{AreTrees}
use Rattle.loom_audit.specs.RouteRule.{AreRouted}
use Rattle.loom_audit.specs.PinRule.{EndsAtFreePins, ArePinsApart}
use Rattle.loom_audit.specs.CostRule.{AreCostsEqual}
use Rattle.loom_check.proofs.AgreeingLines.{member_at}

module _ (draft : Draft) (plan : Plan) (passed : draft_check draft ≡ Ok tt) (sound : HasSoundTopologies draft) (is : IsPlanOf draft plan)
    (laws : LowerLaws) where
  pub are_trees : AreTrees draft plan
  are_trees i set stands = each_set_forms_tree draft plan passed sound is laws set (member_at plan.sets i set stands)

  pub are_routed : AreRouted draft plan
  are_routed i w stands = (wires_are_routed draft plan passed sound is laws w (member_at plan.wires i w stands)).routed

  ends_at_free : (w : Wire) → Contains plan.wires w → EndsAtFreePins draft w
  ends_at_free w listed coupler pin there =
      let kept = keeps_pins_apart draft plan passed sound is laws in
      let (set, printed, has) = wire_of_set draft plan passed sound is w listed in
      let (choice, live) = is.sets.each set printed in
      let holds : value_of plan.rows choice w.row ≡ true =
      set_wire_live draft plan passed sound is choice w listed
      (record { set = set; printed = printed; has = has; holds = (is.sets.condition set printed choice).1 live }) in
      let in_live =
      Contains-filter (λ (v : Wire). v.net.0 == w.net.0) (live_wires plan choice) w
      (Contains-filter (λ (v : Wire). value_of plan.rows choice v.row) plan.wires w listed holds) (eq-eqb w.net.0 w.net.0 refl) in
      let ends : EndsLiveAtPin plan choice w.net.0 coupler pin = (w, in_live, there) in
      let uses = (kept.ends choice live.valid w.net.0 coupler pin).0 ends in
      subst (λ (c : ℕ). IsFreePin draft c pin) uses.of_coupler
      (subst (λ (p : ℕ). IsFreePin draft uses.line.coupler.0 p) uses.has_pin (kept.pins.free uses.line uses.printed))

  pub are_pins_apart : ArePinsApart draft plan
  are_pins_apart = record {
    free = λ i w stands. ends_at_free w (member_at plan.wires i w stands);
    apart = λ i j clash.
        let meet = clash.meet in
        meet.different
        (pins_keep_to_nets draft plan passed sound is laws clash.w clash.v (member_at plan.wires i clash.w clash.first)
        (member_at plan.wires j clash.v clash.second) meet.together meet.coupler meet.pin meet.one meet.other);
  }

  pub are_costs_equal : AreCostsEqual draft plan
  are_costs_equal i set stands =
      let printed = member_at plan.sets i set stands in
      let laid = is.laid set printed in
      record {
        cell = record { line = laid.line; printed = laid.printed; of_net = laid.of_net; cell = laid.cost };
        wires = filter (is_its draft plan passed sound is laws set printed) plan.wires;
        are_its = record {
          is_its = is_its draft plan passed sound is laws set printed;
          its = its draft plan passed sound is laws set printed;
          picked = refl;
        };
        cost = its_cost draft plan passed sound is laws set printed;
      }
