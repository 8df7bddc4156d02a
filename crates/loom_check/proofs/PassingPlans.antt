-- A plan of a sound draft that passes all rules is right.
use Rattle.loom_check.specs.Laws.{PassingIsRight}
use Rattle.loom_check.proofs.LowerLaws.{LowerLaws}
use Rattle.loom_check.proofs.WiresOfLiveSets.{prints, no_clash, live_of_live_sets, sets_form_trees, pins_keep_to_nets}
use Rattle.loom_check.proofs.OpenRoutes.{wires_are_routed, respects_bars}
use Rattle.loom_check.proofs.LeastByTables.{each_net_costs_least}
use Rattle.loom_check.proofs.PinsOfLayouts.{keeps_pins_apart}

pub passing_is_right : LowerLaws → PassingIsRight
passing_is_right laws draft plan passed sound passes = record {
  joins =
      laws.joins draft plan (no_clash draft plan passes) (prints draft plan passes) (live_of_live_sets draft plan passes)
      (sets_form_trees draft plan passes) (pins_keep_to_nets draft plan passes);
  idle = laws.idle draft plan (prints draft plan passes) (live_of_live_sets draft plan passes);
  least = each_net_costs_least draft plan passed sound passes laws;
  routed = wires_are_routed draft plan passes;
  pins = keeps_pins_apart draft plan passes laws;
  bars = respects_bars draft plan passes;
}
