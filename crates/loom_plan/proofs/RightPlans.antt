-- The plan of a sound draft is right.
use Rattle.loom_active.specs.SetWires.{EachSetFormsTree, LiveWiresAreOfLiveSets}
use Rattle.loom_plan.specs.Laws.{PlansAreRight}
use Rattle.loom_plan.proofs.LowerLaws.{LowerLaws}
use Rattle.loom_plan.proofs.SetsWires.{live_wires_are_of_live_sets, each_set_forms_tree}
use Rattle.loom_plan.proofs.PinsKept.{pins_keep_to_nets, keeps_pins_apart}
use Rattle.loom_plan.proofs.WiresRouted.{wires_are_routed, respects_bars}
use Rattle.loom_plan.proofs.NetCosts.{each_net_costs_least}

pub plans_are_right : LowerLaws → PlansAreRight
plans_are_right laws draft plan passed sound is =
    let live : LiveWiresAreOfLiveSets draft plan = live_wires_are_of_live_sets draft plan passed sound is laws in
    let trees : EachSetFormsTree draft plan = each_set_forms_tree draft plan passed sound is laws in
    record {
      joins = laws.joins draft plan is.clear is.sets live trees (pins_keep_to_nets draft plan passed sound is laws);
      idle = laws.idle draft plan is.sets live;
      least = each_net_costs_least draft plan passed sound is laws;
      routed = wires_are_routed draft plan passed sound is laws;
      pins = keeps_pins_apart draft plan passed sound is laws;
      bars = respects_bars draft plan passed sound is laws;
    }
