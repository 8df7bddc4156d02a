-- Where nothing stops the planning, no stop is the first but want of memory.
use Rattle.std.proofs.Common.{◌≡◌, inl, inr, refl}
use Rattle.loom_project.specs.declared.draft.Draft.{Draft}
use Rattle.loom_types.specs.declared.stop.PlanStop.{PlanStop}
use Rattle.loom_types.specs.declared.stop.PlanStop.TheVariants.{NoChoice, Clash, Unreachable, NoPin, Limit, NoMemory}
use Rattle.loom_active.specs.declared.stop.ActiveStop.TheVariants as active
use Rattle.loom_laid.specs.declared.stop.LaidStop.TheVariants as laid
use Rattle.loom_plan.specs.FirstStop.{FindsPins, HasPlan, FirstStop}
use Rattle.loom_plan.specs.StopsLaw.{PlanExcludesStops}
use Rattle.loom_plan.proofs.SameLines.{StageLaws}
use Rattle.loom_plan.proofs.StopStages.{live-passed, laying-passed, usages-passed, pins-passed, wires-passed, plan-passed}

module _ (laws : StageLaws) (draft : Draft) (plan : HasPlan draft) where
  found : FindsPins draft plan.laid plan.slots plan.pins
  found = plan.cuts.found

  no_stop : (stop : PlanStop) → FirstStop draft stop → stop ≡ NoMemory
  no_stop NoChoice due = (let none = live-passed draft active.NoChoice found.works.lays.found due in absurd (cc))
  no_stop (Clash cavity first second choice) due =
      (let none = live-passed draft (active.Clash cavity first second choice) found.works.lays.found due in absurd (cc))
  no_stop (Unreachable net cavity reached) due =
      (let none = laying-passed laws draft plan.laid (laid.Unreachable net cavity reached) found.works.lays due in absurd (cc))
  no_stop (NoPin net coupler ordinal) due =
      absurd (pins-passed laws draft plan.laid plan.slots plan.pins (record { net = net.0; coupler = coupler.0; ordinal = ordinal }) found due)
  no_stop (Limit which count) (inl live) =
      (let none = live-passed draft (active.Limit which count) found.works.lays.found live in absurd (cc))
  no_stop (Limit which count) (inr (inl (is, counts, due))) =
      (let none = laying-passed laws draft plan.laid laid.TooManyCells found.works.lays due in absurd (cc))
  no_stop (Limit which count) (inr (inr (inl (is, counts, due)))) =
      (let none = laying-passed laws draft plan.laid laid.TooManySteps found.works.lays due in absurd (cc))
  no_stop (Limit which count) (inr (inr (inr (inl (is, counts, due))))) =
      absurd (wires-passed laws draft plan.laid plan.slots plan.pins plan.wires plan.cuts due)
  no_stop (Limit which count) (inr (inr (inr (inr (is, counts, inl due))))) =
      absurd (usages-passed laws draft plan.laid plan.slots found.works due)
  no_stop (Limit which count) (inr (inr (inr (inr (is, counts, inr due))))) = absurd (plan-passed laws draft plan due)
  no_stop NoMemory due = refl

pub plan_excludes_stops : StageLaws → PlanExcludesStops
plan_excludes_stops laws draft stop plan due = no_stop laws draft plan stop due
