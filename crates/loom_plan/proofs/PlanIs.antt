-- What is printed is the plan of the project, and nothing stops the planning.
use Rattle.std.proofs.Common.{◌≡◌, List, length, map, Ok}
use Rattle.loom_project.specs.declared.draft.Draft.{Draft}
use Rattle.loom_project.specs.Project.{HasSoundTopologies}
use Rattle.loom_project.specs.Sound.{draft_check}
use Rattle.loom_rows.specs.Table.{Table}
use Rattle.loom_types.specs.declared.plan.Plan.{Plan}
use Rattle.loom_types.specs.declared.plan.PinLine.{PinLine}
use Rattle.loom_laid.specs.declared.laid_set.Laid.{Laid}
use Rattle.loom_wires.specs.declared.cut_wire.CutWire.{CutWire}
use Rattle.loom_wires.specs.Wires.{bare_of}
use Rattle.loom_plan.specs.FirstStop.{HasPlan}
use Rattle.loom_plan.specs.PlanOf.{IsPlanOf}
use Rattle.loom_plan.specs.Stages.{HasLaid, HasCut, Prints}
use Rattle.loom_plan.proofs.PlanPins.{plan_pins}
use Rattle.loom_plan.proofs.PlanSets.{prints_live, plan_tables, plan_laid, plan_rows}
use Rattle.loom_plan.proofs.PlanWires.{plan_wires}

pub plan_is : (draft : Draft) → HasSoundTopologies draft → draft_check draft ≡ Ok tt → (t : Table) (laid : Laid) (lines : List PinLine) (wires : List CutWire)
    → HasLaid draft t laid → HasCut draft t laid.sets lines wires → t.options ≡ length draft.options
    → (plan : Plan) → Prints draft t.options laid lines wires plan → IsPlanOf draft plan
plan_is draft sound passed t laid lines wires has cut options plan prints = record {
  some_choice = has.lays.found.some_choice;
  clear = has.lays.found.clear;
  sets = prints_live draft t t.options laid has lines wires plan prints;
  tables = plan_tables draft t t.options laid has lines wires plan prints;
  laid = plan_laid draft t t.options laid has lines wires plan prints;
  pins = plan_pins draft t t.options laid has lines wires cut plan prints;
  wires = plan_wires draft sound passed t t.options laid has lines wires cut plan prints;
  modules = prints.modules_are;
  rows = plan_rows draft t t.options laid has lines wires plan prints options;
}

pub has_plan : (draft : Draft) (t : Table) (laid : Laid) (lines : List PinLine) (wires : List CutWire) → HasCut draft t laid.sets lines wires → HasPlan draft
has_plan draft t laid lines wires cut = record {
  laid = laid.sets;
  slots = cut.slots;
  pins = cut.pins;
  wires = map bare_of wires;
  cuts = cut.cuts;
  few_rows = cut.few_rows;
}
