use Rattle.std.specs.Prelude.{◌≡◌, ◌≢◌}
use Rattle.loom_project.specs.declared.draft.Draft.{Draft}
use Rattle.loom_types.specs.declared.stop.PlanStop.{PlanStop}
use Rattle.loom_types.specs.declared.stop.PlanStop.TheVariants.{NoMemory}
use Rattle.loom_plan.specs.FirstStop.{FirstStop, HasPlan}

-- a plan and a first stop exclude each other: where nothing stops the planning, no stop is the first but want of memory
abbrev pub PlanExcludesStops : Type 0
PlanExcludesStops = (draft : Draft) (stop : PlanStop) → HasPlan draft → FirstStop draft stop → stop ≡ NoMemory

-- a project has one first stop at most, but for want of memory
abbrev pub FirstStopIsUnique : Type 0
FirstStopIsUnique =
    (draft : Draft) (one other : PlanStop) → FirstStop draft one → FirstStop draft other → one ≢ NoMemory → other ≢ NoMemory → one ≡ other
