-- The plan of a sound draft passes all nine rules.
use Rattle.std.proofs.Common.{◌≡◌, length, Ok}
use Rattle.loom_potential.specs.Laws.{UnbrokenIsLegal}
use Rattle.loom_project.specs.declared.draft.Draft.{Draft}
use Rattle.loom_project.specs.Project.{HasSoundTopologies}
use Rattle.loom_project.specs.Sound.{draft_check}
use Rattle.loom_types.specs.declared.plan.Plan.{Plan}
use Rattle.loom_plan.specs.FirstStop.{HasPlan, FindsSets}
use Rattle.loom_plan.specs.PlanOf.{IsPlanOf}
use Rattle.loom_plan.proofs.LowerLaws.{LowerLaws}
use Rattle.loom_plan.proofs.SameLines.{StageLaws}
use Rattle.loom_check.specs.Stages.{FindsLiveSets, TakesRows, HasConditions}
use Rattle.loom_check.proofs.AgreeingLines.{member_at}
use Rattle.loom_accord.specs.Laws.{PlansPass}
use Rattle.loom_accord.proofs.LayoutsOfPlan.{layouts_are_true}
use Rattle.loom_accord.proofs.LiveSetsOfPlan.{sets_are_live}
use Rattle.loom_accord.proofs.RowsNeeded.{few_rows, works_wires}
use Rattle.loom_accord.proofs.RowsOfPlan.{rows_are_sound}
use Rattle.loom_accord.proofs.SimpleRules.{are_trees, are_routed, are_pins_apart, are_costs_equal}
use Rattle.loom_accord.proofs.TablesOfPlan.{tables_are_legal}
use Rattle.loom_accord.proofs.WiresOfPlan.{where_sets_are}

-- the laws of the crates below on which this law stands
pub record AccordLaws : Type 0 where
  pub lower : LowerLaws
  pub stages : StageLaws
  pub unbroken : UnbrokenIsLegal

module _ (laws : AccordLaws) (draft : Draft) (plan : Plan) (passed : draft_check draft ≡ Ok tt) (sound : HasSoundTopologies draft)
    (has : HasPlan draft) (is : IsPlanOf draft plan) where
  finds : FindsSets draft
  finds = has.cuts.found.works.lays.found

  found : FindsLiveSets draft
  found = record { some_choice = finds.some_choice; clear = finds.clear; few_sets = finds.few_sets; few_rows = finds.few_rows }

  takes : TakesRows draft plan
  takes = record { found = found; rows = rows_are_sound draft plan is; few_rows = few_rows draft plan is has laws.stages }

  conditions : HasConditions draft plan (length plan.wires)
  conditions = record {
    sets = record { takes = takes; sets = sets_are_live draft plan is.sets };
    works = works_wires draft plan is has laws.stages passed sound laws.lower;
    conditions = λ i w within stands. where_sets_are draft plan passed sound is laws.lower w (member_at plan.wires i w stands);
  }

pub plans_pass : AccordLaws → PlansPass
plans_pass laws draft plan passed sound has is = record {
  conditions = conditions laws draft plan passed sound has is;
  trees = are_trees draft plan passed sound is laws.lower;
  routes = are_routed draft plan passed sound is laws.lower;
  pins = are_pins_apart draft plan passed sound is laws.lower;
  tables = tables_are_legal draft plan is passed sound laws.lower laws.unbroken;
  costs = are_costs_equal draft plan passed sound is laws.lower;
  layouts = layouts_are_true draft plan passed sound is laws.lower;
}
