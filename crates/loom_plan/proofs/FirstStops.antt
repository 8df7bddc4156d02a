-- Two first stops are one, but for want of memory.
use Rattle.std.proofs.Common.{◌≡◌, ℕ, ◌⊎◌, inl, inr, List, refl, sym, ap, ◌∙◌}
use Rattle.std.specs.Prelude.{◌≢◌}
use Rattle.loom_base.specs.declared.limits.Which.TheVariants as limits
use Rattle.loom_project.specs.declared.draft.Draft.{Draft}
use Rattle.loom_types.specs.declared.stop.PlanStop.{PlanStop}
use Rattle.loom_types.specs.declared.stop.PlanStop.TheVariants.{NoChoice, Clash, Unreachable, NoPin, Limit, NoMemory}
use Rattle.loom_types.specs.Slots.{Slot}
use Rattle.loom_active.specs.declared.stop.ActiveStop.{ActiveStop}
use Rattle.loom_active.specs.declared.stop.ActiveStop.TheVariants as active
use Rattle.loom_active.specs.LiveStops.{IsLiveStop}
use Rattle.loom_laid.specs.declared.laid_set.LaidSet.{LaidSet}
use Rattle.loom_laid.specs.declared.stop.LaidStop.{LaidStop}
use Rattle.loom_laid.specs.declared.stop.LaidStop.TheVariants as laid
use Rattle.loom_plan.specs.FirstStop.{FindsSets, LaysSets, WorksUsages, FindsPins, FirstStop, StopsLaying, PassesRowsForPins, LacksPin, PassesWires, PassesRowsForWires}
use Rattle.loom_plan.specs.StopsLaw.{FirstStopIsUnique}
use Rattle.loom_plan.proofs.SameLines.{StageLaws}
use Rattle.loom_plan.proofs.StopStages.{live-passed, laying-passed, usages-passed, pins-passed, wires-passed}
use Rattle.loom_plan.proofs.SameStops.{same-live_stop, same-laid_stop, same-lack}

abbrev stop_of_live : ActiveStop → PlanStop
stop_of_live active.NoChoice = NoChoice
stop_of_live (active.Clash cavity first second choice) = Clash cavity first second choice
stop_of_live (active.Limit which count) = Limit which count
stop_of_live active.NoMemory = NoMemory

abbrev stop_of_laid : LaidStop → PlanStop
stop_of_laid laid.TooManyCells = Limit limits.Cells 2097153
stop_of_laid (laid.Unreachable net cavity reached) = Unreachable net cavity reached
stop_of_laid laid.TooManySteps = Limit limits.Steps 1000001
stop_of_laid laid.NoMemory = NoMemory

abbrev stop_of_slot : Slot → PlanStop
stop_of_slot slot = NoPin (record { 0 = slot.net }) (record { 0 = slot.coupler }) slot.ordinal

module _ (draft : Draft) where
  -- a stop at a stage, or at a later one
  abbrev FromWires : PlanStop → Type 0
  FromWires stop =
      (PassesWires draft × (stop ≡ Limit limits.Wires 65537)) ⊎ (PassesRowsForWires draft × (stop ≡ Limit limits.Rows 262145))

  abbrev FromPins : PlanStop → Type 0
  FromPins stop = ((slot : Slot) × LacksPin draft slot × (stop ≡ stop_of_slot slot)) ⊎ FromWires stop

  abbrev FromUsages : PlanStop → Type 0
  FromUsages stop = (PassesRowsForPins draft × (stop ≡ Limit limits.Rows 262145)) ⊎ FromPins stop

  abbrev FromLaying : PlanStop → Type 0
  FromLaying stop = ((due : LaidStop) × StopsLaying draft due × (due ≢ laid.NoMemory) × (stop ≡ stop_of_laid due)) ⊎ FromUsages stop

  abbrev FromStart : PlanStop → Type 0
  FromStart stop = ((due : ActiveStop) × IsLiveStop draft due × (due ≢ active.NoMemory) × (stop ≡ stop_of_live due)) ⊎ FromLaying stop

  staged : (stop : PlanStop) → FirstStop draft stop → stop ≢ NoMemory → FromStart stop
  staged NoChoice due some = inl (active.NoChoice, due, (λ e. cc), refl)
  staged (Clash cavity first second choice) due some = inl (active.Clash cavity first second choice, due, (λ e. cc), refl)
  staged (Unreachable net cavity reached) due some = inr (inl (laid.Unreachable net cavity reached, due, (λ e. cc), refl))
  staged (NoPin net coupler ordinal) due some =
      inr (inr (inr (inl (record { net = net.0; coupler = coupler.0; ordinal = ordinal }, due, refl))))
  staged (Limit which count) (inl live) some = inl (active.Limit which count, live, (λ e. cc), refl)
  staged (Limit which count) (inr (inl (is, counts, due))) some =
      inr (inl (laid.TooManyCells, due, (λ e. cc), (λ i. Limit (is i) (counts i))))
  staged (Limit which count) (inr (inr (inl (is, counts, due)))) some =
      inr (inl (laid.TooManySteps, due, (λ e. cc), (λ i. Limit (is i) (counts i))))
  staged (Limit which count) (inr (inr (inr (inl (is, counts, due))))) some =
      inr (inr (inr (inr (inl (due, (λ i. Limit (is i) (counts i)))))))
  staged (Limit which count) (inr (inr (inr (inr (is, counts, inl due))))) some = inr (inr (inl (due, (λ i. Limit (is i) (counts i)))))
  staged (Limit which count) (inr (inr (inr (inr (is, counts, inr due))))) some =
      inr (inr (inr (inr (inr (due, (λ i. Limit (is i) (counts i)))))))
  staged NoMemory due some = absurd (some refl)

  -- what is passed before
  finds_pins : (stop : PlanStop) → FromWires stop → (sets : List LaidSet) × (slots : List Slot) × (pins : List ℕ) × FindsPins draft sets slots pins
  finds_pins stop (inl (due, is)) = (due.laid, due.slots, due.pins, due.found)
  finds_pins stop (inr (due, is)) = (due.laid, due.slots, due.pins, due.cuts.found)

  works_usages : (stop : PlanStop) → FromPins stop → (sets : List LaidSet) × (slots : List Slot) × WorksUsages draft sets slots
  works_usages stop (inl (slot, due, is)) = (due.laid, due.slots, due.works)
  works_usages stop (inr rest) = (let (sets, slots, pins, found) = finds_pins stop rest in (sets, slots, found.works))

  lays_sets : (stop : PlanStop) → FromUsages stop → (sets : List LaidSet) × LaysSets draft sets
  lays_sets stop (inl (due, is)) = (due.laid, due.lays)
  lays_sets stop (inr rest) = (let (sets, slots, works) = works_usages stop rest in (sets, works.lays))

  finds_sets : (stop : PlanStop) → FromLaying stop → FindsSets draft
  finds_sets stop (inl (laying, due, some, is)) = due.found
  finds_sets stop (inr rest) = (lays_sets stop rest).1.found

module _ (laws : StageLaws) (draft : Draft) (one other : PlanStop) where
  same_from_wires : FromWires draft one → FromWires draft other → one ≡ other
  same_from_wires (inl a) (inl b) = a.1 ∙ sym b.1
  same_from_wires (inl (due, is)) (inr (its, more)) = absurd (wires-passed laws draft its.laid its.slots its.pins its.wires its.cuts due)
  same_from_wires (inr (its, more)) (inl (due, is)) = absurd (wires-passed laws draft its.laid its.slots its.pins its.wires its.cuts due)
  same_from_wires (inr a) (inr b) = a.1 ∙ sym b.1

  same_from_pins : FromPins draft one → FromPins draft other → one ≡ other
  same_from_pins (inl (slot, due, is)) (inl (twin, its, more)) = is ∙ (ap stop_of_slot (same-lack laws draft slot twin due its) ∙ sym more)
  same_from_pins (inl (slot, due, is)) (inr rest) =
      (let (sets, slots, pins, found) = finds_pins draft other rest in absurd (pins-passed laws draft sets slots pins slot found due))
  same_from_pins (inr rest) (inl (slot, due, is)) =
      (let (sets, slots, pins, found) = finds_pins draft one rest in absurd (pins-passed laws draft sets slots pins slot found due))
  same_from_pins (inr a) (inr b) = same_from_wires a b

  same_from_usages : FromUsages draft one → FromUsages draft other → one ≡ other
  same_from_usages (inl a) (inl b) = a.1 ∙ sym b.1
  same_from_usages (inl (due, is)) (inr rest) =
      (let (sets, slots, works) = works_usages draft other rest in absurd (usages-passed laws draft sets slots works due))
  same_from_usages (inr rest) (inl (due, is)) =
      (let (sets, slots, works) = works_usages draft one rest in absurd (usages-passed laws draft sets slots works due))
  same_from_usages (inr a) (inr b) = same_from_pins a b

  same_from_laying : FromLaying draft one → FromLaying draft other → one ≡ other
  same_from_laying (inl (stop, due, some, is)) (inl (twin, its, same, more)) =
      is ∙ (ap stop_of_laid (same-laid_stop draft stop twin due its some same) ∙ sym more)
  same_from_laying (inl (stop, due, some, is)) (inr rest) =
      (let (sets, lays) = lays_sets draft other rest in absurd (some (laying-passed laws draft sets stop lays due)))
  same_from_laying (inr rest) (inl (stop, due, some, is)) =
      (let (sets, lays) = lays_sets draft one rest in absurd (some (laying-passed laws draft sets stop lays due)))
  same_from_laying (inr a) (inr b) = same_from_usages a b

  same_from_start : FromStart draft one → FromStart draft other → one ≡ other
  same_from_start (inl (stop, due, some, is)) (inl (twin, its, same, more)) =
      is ∙ (ap stop_of_live (same-live_stop draft stop twin due its some same) ∙ sym more)
  same_from_start (inl (stop, due, some, is)) (inr rest) = absurd (some (live-passed draft stop (finds_sets draft other rest) due))
  same_from_start (inr rest) (inl (stop, due, some, is)) = absurd (some (live-passed draft stop (finds_sets draft one rest) due))
  same_from_start (inr a) (inr b) = same_from_laying a b

pub first_stop_is_unique : StageLaws → FirstStopIsUnique
first_stop_is_unique laws draft one other due its some same =
    same_from_start laws draft one other (staged draft one due some) (staged draft other its same)
