-- The printed sets are the laid sets of the planning, but for their conditions, and so are their slots.
use Rattle.std.proofs.Common.{◌≡◌, ℕ, List, map, ap, subst, ◌∙◌, Contains}
use Rattle.loom_base.proofs.Contained.{Contains-map, Contains-from_map}
use Rattle.loom_project.specs.declared.draft.Draft.{Draft}
use Rattle.loom_project.specs.Project.{topology_of, net_topology, cavities_of}
use Rattle.loom_rows.specs.declared.cond.Cond.{Never}
use Rattle.loom_types.specs.declared.plan.Plan.{Plan}
use Rattle.loom_types.specs.declared.plan.SetLine.{SetLine}
use Rattle.loom_types.specs.Slots.{Slot, has_slot, IsSlotOf, slot_of}
use Rattle.loom_steiner.specs.LeastTable.{IsLeastTable}
use Rattle.loom_active.specs.LiveSets.{IsLiveSet, IsListedBefore}
use Rattle.loom_active.proofs.Pairs.{pairs-map}
use Rattle.loom_laid.specs.declared.laid_set.LaidSet.{LaidSet}
use Rattle.loom_plan.specs.FirstStop.{HasPlan, LaysSets}
use Rattle.loom_plan.specs.PlanOf.{IsPlanOf}
use Rattle.loom_plan.specs.Work.{line_of, AreSlots}
use Rattle.loom_plan.proofs.SameLines.{StageLaws, IsFixed, AreFixed, fixed-from_laid, same-lines}
use Rattle.loom_plan.proofs.SameWork.{same-slots}

-- a printed set as a laid one, with no condition of its own
abbrev pub laid_of : SetLine → LaidSet
laid_of set = record { net = set.net; mask = set.mask; cond = Never; cost = set.cost; layout = set.layout }

abbrev pub twins : Plan → List LaidSet
twins plan = map laid_of plan.sets

pub twin_of : (plan : Plan) (twin : LaidSet) → Contains (twins plan) twin → (set : SetLine) × Contains plan.sets set × (laid_of set ≡ twin)
twin_of plan twin listed = Contains-from_map laid_of plan.sets twin listed

pub twin_in : (plan : Plan) (set : SetLine) → Contains plan.sets set → Contains (twins plan) (laid_of set)
twin_in plan set printed = Contains-map laid_of plan.sets set printed

module _ (draft : Draft) (plan : Plan) (is : IsPlanOf draft plan) where
  fixed_line : (set : SetLine) → Contains plan.sets set → IsFixed draft set.net.0 set.mask set.cost set.layout
  fixed_line set printed =
      let laid = is.laid set printed in
      record {
        table = laid.line.table;
        least =
            subst (λ (n : ℕ). IsLeastTable (net_topology draft n) (cavities_of draft n) laid.line.table) laid.of_net
            (is.tables.least laid.line laid.printed);
        whole = is.tables.whole laid.line laid.printed;
        laid = laid.layout;
        costs = laid.cost;
      }

  twins_fixed : AreFixed draft (twins plan)
  twins_fixed = record {
    order =
        pairs-map (λ (one other : LaidSet). IsListedBefore one.net.0 one.mask other.net.0 other.mask) laid_of plan.sets is.sets.order;
    each = λ twin listed.
        let (set, printed, e) = twin_of plan twin listed in
        subst (λ (s : LaidSet). IsLiveSet draft s.net.0 s.mask) e (is.sets.each set printed);
    all = λ net mask live.
        let (set, printed, of_net, of_mask) = is.sets.all net mask live in
        (laid_of set, twin_in plan set printed, of_net, of_mask);
    fixed = λ twin listed.
        let (set, printed, e) = twin_of plan twin listed in
        subst (λ (s : LaidSet). IsFixed draft s.net.0 s.mask s.cost s.layout) e (fixed_line set printed);
  }

  slot_of_twin : (slot : Slot) → IsSlotOf (topology_of draft) plan.sets slot → IsSlotOf (topology_of draft) (map line_of (twins plan)) slot
  slot_of_twin slot (coupler, (set, printed, has)) =
      (coupler, (line_of (laid_of set), Contains-map line_of (twins plan) (laid_of set) (twin_in plan set printed), has))

  slot_of_set : (slot : Slot) → IsSlotOf (topology_of draft) (map line_of (twins plan)) slot → IsSlotOf (topology_of draft) plan.sets slot
  slot_of_set slot (coupler, (line, at, has)) =
      let (twin, listed, e) = Contains-from_map line_of (twins plan) line at in
      let (set, printed, f) = twin_of plan twin listed in
      let same : line_of (laid_of set) ≡ line = ap line_of f ∙ e in
      (coupler, (set, printed, ap (λ (l : SetLine). has_slot l slot) same ∙ has))

  twin_slots : AreSlots draft (twins plan) (map slot_of plan.pins)
  twin_slots = record {
    order = is.pins.order;
    each = λ slot listed.
        let (line, printed, same) = Contains-from_map slot_of plan.pins slot listed in
        slot_of_twin slot (subst (λ (s : Slot). IsSlotOf (topology_of draft) plan.sets s) same (is.pins.only line printed));
    all = λ slot is_slot.
        let (line, printed, same) = is.pins.each slot (slot_of_set slot is_slot) in
        subst (λ (s : Slot). Contains (map slot_of plan.pins) s) same (Contains-map slot_of plan.pins line printed);
  }

  module _ (has : HasPlan draft) (stages : StageLaws) where
    lays : LaysSets draft has.laid
    lays = has.cuts.found.works.lays

    pub same_lines : map line_of (twins plan) ≡ map line_of has.laid
    same_lines =
        same-lines stages draft (twins plan) has.laid twins_fixed
        (fixed-from_laid draft lays.tables lays.sets has.laid lays.are_sets lays.are_tables lays.are_laid)

    pub same_slots : map slot_of plan.pins ≡ has.slots
    same_slots =
        same-slots draft (twins plan) has.laid same_lines (map slot_of plan.pins) has.slots twin_slots has.cuts.found.works.are_slots
