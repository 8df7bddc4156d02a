-- The printed wires are those of the planning but for their rows, and the same is worked out for them.
use Rattle.std.proofs.Common.{◌≡◌, map, sym, subst, Contains}
use Rattle.loom_base.proofs.Contained.{Contains-map, Contains-from_map}
use Rattle.loom_project.specs.declared.draft.Draft.{Draft}
use Rattle.loom_types.specs.declared.plan.Plan.{Plan}
use Rattle.loom_types.specs.declared.wire.Wire.{Wire}
use Rattle.loom_types.specs.LayoutWires.{bare}
use Rattle.loom_types.specs.WireOrder.{IsWireBefore}
use Rattle.loom_active.proofs.Pairs.{pairs-map}
use Rattle.loom_laid.specs.declared.laid_set.LaidSet.{LaidSet}
use Rattle.loom_plan.specs.FirstStop.{HasPlan}
use Rattle.loom_plan.specs.PlanOf.{IsPlanOf, wires_of_line}
use Rattle.loom_plan.specs.Work.{pin_lines, wires_of_layout, AreWiresOf, wires_worked}
use Rattle.loom_plan.proofs.SameLines.{StageLaws}
use Rattle.loom_plan.proofs.SameWork.{same-wires, same-wires_worked}
use Rattle.loom_accord.proofs.TwinSets.{laid_of, twins, twin_of, twin_in, same_lines}
use Rattle.loom_accord.proofs.TwinPins.{same_pins}

module _ (draft : Draft) (plan : Plan) (is : IsPlanOf draft plan) where
  twin_wires : AreWiresOf draft plan.pins (twins plan) (map bare plan.wires)
  twin_wires = record {
    order = pairs-map IsWireBefore bare plan.wires is.wires.order;
    each = λ l listed.
        let (w, in_wires, e) = Contains-from_map bare plan.wires l listed in
        let (set, printed, has) = is.wires.each w in_wires in
        (laid_of set, twin_in plan set printed, subst (λ (u : Wire). Contains (wires_of_line draft plan set) u) e has);
    all = λ twin l listed has.
        let (set, printed, e) = twin_of plan twin listed in
        let own : Contains (wires_of_line draft plan set) l =
        subst (λ (s : LaidSet). Contains (wires_of_layout draft plan.pins s) l) (sym e) has in
        let (w, in_wires, f) = is.wires.all set l printed own in
        subst (λ (u : Wire). Contains (map bare plan.wires) u) f (Contains-map bare plan.wires w in_wires);
  }

  module _ (has : HasPlan draft) (stages : StageLaws) where
    same_bare : map bare plan.wires ≡ has.wires
    same_bare =
        same-wires draft (twins plan) has.laid (same_lines draft plan is has stages) plan.pins (pin_lines has.slots has.pins)
        (same_pins draft plan is has stages) (map bare plan.wires) has.wires twin_wires has.cuts.are_wires

    pub same_wires_work : wires_worked draft plan.pins (twins plan) (map bare plan.wires)
        ≡ wires_worked draft (pin_lines has.slots has.pins) has.laid has.wires
    same_wires_work =
        same-wires_worked draft (twins plan) has.laid (same_lines draft plan is has stages) plan.pins (pin_lines has.slots has.pins)
        (map bare plan.wires) has.wires (same_pins draft plan is has stages) same_bare
