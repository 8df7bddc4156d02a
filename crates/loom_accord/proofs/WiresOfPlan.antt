-- The wires of a set of a plan are those of its layout, and each wire has the condition under which one of its sets is live.
use Rattle.std.proofs.Common.{◌≡◌, ℕ, ◌<◌, List, length, Ok, sym, subst, ◌∙◌, Contains}
use Rattle.loom_project.specs.declared.draft.Draft.{Draft}
use Rattle.loom_project.specs.Project.{topology_of, net_topology, cavities_of, HasSoundTopologies}
use Rattle.loom_project.specs.Sound.{draft_check}
use Rattle.loom_types.specs.declared.plan.Plan.{Plan}
use Rattle.loom_types.specs.declared.plan.SetLine.{SetLine}
use Rattle.loom_types.specs.declared.wire.Wire.{Wire}
use Rattle.loom_types.specs.LayoutWires.{bare}
use Rattle.loom_types.specs.PinLines.{pin_in}
use Rattle.loom_active.specs.LiveSets.{IsSetBefore}
use Rattle.loom_active.specs.SetWires.{IsWireOf}
use Rattle.loom_active.proofs.Openings.{net_differs, set_wires-same}
use Rattle.loom_plan.specs.PlanOf.{IsPlanOf, wires_of_line}
use Rattle.loom_plan.proofs.LowerLaws.{LowerLaws}
use Rattle.loom_plan.proofs.Once.{same-member}
use Rattle.loom_plan.proofs.SetsWires.{own_wires, live_wire_set, wire_of_set, not_together, in_range, own_routed}
use Rattle.loom_audit.specs.Conditions.{IsWhereSetsAre}

pub lines_are_own : (draft : Draft) (plan : Plan) (set : SetLine) → wires_of_line draft plan set ≡ own_wires draft plan set
unfolding own_wires
lines_are_own draft plan set =
    set_wires-same (topology_of draft) (net_topology draft set.net.0) (net_differs draft set.net.0) set.net.0 (pin_in plan.pins set.net.0)
    (cavities_of draft set.net.0) set.mask set.layout

pub to_own : (draft : Draft) (plan : Plan) (set : SetLine) (w : Wire) → Contains (wires_of_line draft plan set) w
    → Contains (own_wires draft plan set) w
to_own draft plan set w at = subst (λ (l : List Wire). Contains l w) (lines_are_own draft plan set) at

from_own : (draft : Draft) (plan : Plan) (set : SetLine) (w : Wire) → Contains (own_wires draft plan set) w
    → Contains (wires_of_line draft plan set) w
from_own draft plan set w at = subst (λ (l : List Wire). Contains l w) (sym (lines_are_own draft plan set)) at

module _ (draft : Draft) (plan : Plan) (passed : draft_check draft ≡ Ok tt) (sound : HasSoundTopologies draft) (is : IsPlanOf draft plan)
    (laws : LowerLaws) where
  module _ (set : SetLine) (printed : Contains plan.sets set) (w : Wire) (listed : Contains plan.wires w) where
    -- a wire that the set's layout has is the set's
    pub has-is : Contains (wires_of_line draft plan set) (bare w) → IsWireOf plan set w
    has-is has =
        let (choice, live) = is.sets.each set printed in
        let holds = (is.sets.condition set printed choice).1 live in (
          (own_routed draft plan passed sound is laws set printed (bare w) (to_own draft plan set (bare w) has)).1,
          (choice, (is.wires.condition w listed choice).1 (set, printed, has, holds), holds),
        )

    -- and the other way round
    pub is-has : IsWireOf plan set w → Contains (wires_of_line draft plan set) (bare w)
    is-has (net, (choice, holds, set_holds)) =
        let found = live_wire_set draft plan passed sound is choice w listed holds in
        let own : w.net.0 ≡ found.set.net.0 = (own_routed draft plan passed sound is laws found.set found.printed (bare w) found.has).1 in
        let nets : found.set.net.0 ≡ set.net.0 = sym own ∙ net in
        let same : found.set ≡ set =
        same-member IsSetBefore plan.sets is.sets.order found.set set found.printed printed
        (not_together draft plan passed sound is choice found.set set found.printed printed found.holds set_holds nets)
        (not_together draft plan passed sound is choice set found.set printed found.printed set_holds found.holds (sym nets)) in
        from_own draft plan set (bare w) (subst (λ (s : SetLine). Contains (own_wires draft plan s) (bare w)) same found.has)

  pub where_sets_are : (w : Wire) → Contains plan.wires w → IsWhereSetsAre draft plan w
  where_sets_are w listed =
      let (set, printed, has) = wire_of_set draft plan passed sound is w listed in
      let routed = own_routed draft plan passed sound is laws set printed (bare w) has in
      record {
        net = subst (λ (n : ℕ). n < length draft.nets) (sym routed.1) (in_range draft plan passed sound is laws set printed);
        some = (set, printed, has-is set printed w listed (from_own draft plan set (bare w) has));
        condition = λ choice. (
          λ holds.
              let (other, in_sets, its, live) = (is.wires.condition w listed choice).0 holds in
              record { set = other; printed = in_sets; live = live; has = has-is other in_sets w listed its },
          λ of.
              (is.wires.condition w listed choice).1
              (of.set, of.printed, is-has of.set of.printed w listed of.has, of.live),
        );
      }
