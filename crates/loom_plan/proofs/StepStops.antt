-- What stands after a step, and how a step stops.
use Rattle.std.proofs.Common.{◌≡◌, ℕ, ◌+◌, ◌<◌, ◌≤◌, ◌++◌, List, [], ◌∷◌, length, map, drop, get_or, Some, Ok, refl, sym, ap, ap₂, append_assoc, subst, ◌∙◌, arith, inl, inr}
use Rattle.std.proofs.lemmas.List.{length-map, drop_more, get_or-map}
use Rattle.std.proofs.lemmas.Option.{slice_get-get_or, slice_get_within}
use Rattle.loom_base.specs.declared.limits.Which.TheVariants as limits
use Rattle.loom_project.specs.declared.draft.Draft.{Draft}
use Rattle.loom_project.specs.Project.{topology_of, HasSoundTopologies}
use Rattle.loom_project.specs.Sound.{draft_check}
use Rattle.loom_topology.specs.Topology.{TopologyView}
use Rattle.loom_rows.specs.Condition.{Meaning}
use Rattle.loom_rows.specs.Table.{Table}
use Rattle.loom_rows.specs.Leftovers.{AreMoreThan, IsRowOf}
use Rattle.loom_types.specs.declared.plan.PinLine.{PinLine}
use Rattle.loom_types.specs.declared.stop.PlanStop.TheVariants.{Limit}
use Rattle.loom_types.specs.declared.wire.Wire.{Wire}
use Rattle.loom_types.specs.Slots.{Slot}
use Rattle.loom_active.specs.Valid.{NeedTooManyRows}
use Rattle.loom_active.specs.LiveWork.{live_worked}
use Rattle.loom_active.proofs.Pairs.{slice_get-map}
use Rattle.loom_laid.specs.declared.laid_set.LaidSet.{LaidSet}
use Rattle.loom_laid.specs.declared.laid_set.Laid.{Laid}
use Rattle.loom_pins.specs.declared.slot.Slot.{Slot as PinSlot}
use Rattle.loom_pins.specs.declared.slot.CouplerPins.{CouplerPins}
use Rattle.loom_pins.specs.FirstFit.{IsFirstWithout}
use Rattle.loom_wires.specs.declared.cut_wire.CutWire.{CutWire}
use Rattle.loom_wires.specs.declared.laid_set.LaidSet.{LaidSet as WireSet}
use Rattle.loom_wires.specs.Wires.{AreWires, AreManyWires, AreCut, bare_of, wires_worked as worked_for_sets}
use Rattle.loom_plan.specs.Work.{AreSlots, AreWiresOf, couplers_of, slot_at, usages_worked, pin_line, pin_lines, wires_worked}
use Rattle.loom_plan.specs.FirstStop.{FirstStop, LacksPin, CutsWires, PassesWires, PassesRowsForPins, PassesRowsForWires, worked_for_pins}
use Rattle.loom_plan.specs.Stages.{HasLaid, HasUsed, ArePinLines, HasPinned, HasCut, wired_of}
use Rattle.loom_plan.proofs.WireSets.{worked_alike, wires_of_sets}

-- a fact of two values, of equal ones
pub moved : {A B : Type 0} (P : A → B → Type 0) (a c : A) (b d : B) → a ≡ c → b ≡ d → P a b → P c d
moved {A} P a c b d e f p = subst (λ (x : A). P x d) e (subst (P a) f p)

-- ---- slots

-- their usages need too many rows
pub rows_stop_slots : (draft : Draft) (t : Table) (laid : Laid) (sets : List LaidSet) → sets ≡ laid.sets → t.limit ≡ 262144 → HasLaid draft t laid
    → (slots : List Slot) × AreSlots draft sets slots × AreMoreThan t.limit (IsRowOf (live_worked draft ++ usages_worked draft sets slots))
    → FirstStop draft (Limit limits.Rows 262145)
rows_stop_slots draft t laid sets same limit has many =
    let Many : List LaidSet → Type 0 =
    λ l. (slots : List Slot) × AreSlots draft l slots × AreMoreThan t.limit (IsRowOf (live_worked draft ++ usages_worked draft l slots)) in
    let (slots, are, more) = subst Many same many in
    let passes : PassesRowsForPins draft = record {
      laid = laid.sets;
      slots = slots;
      lays = has.lays;
      are_slots = are;
      many = subst (λ (n : ℕ). AreMoreThan n (IsRowOf (worked_for_pins draft laid.sets slots))) limit more;
    } in
    inr (inr (inr (inr (refl, refl, inl passes))))

-- a slot has no pin
pub lacks_pin : (draft : Draft) (t : Table) (laid : List LaidSet) (used : List PinSlot) (couplers : List CouplerPins) (at n : ℕ) (d : PinSlot)
    → HasUsed draft t laid used → couplers ≡ couplers_of draft → IsFirstWithout couplers used at → n ≡ at → LacksPin draft (slot_at (get_or used n d))
lacks_pin draft t laid used couplers at n d has same without e = record {
  laid = laid;
  slots = map slot_at used;
  works = has.works;
  used = used;
  are_used = has.usages;
  at = at;
  is_first = subst (λ (cs : List CouplerPins). IsFirstWithout cs used at) same without;
  stands =
      slice_get-map slot_at used at (get_or used n d)
      (slice_get-get_or used at d (slice_get_within used at without.slot without.stands) ∙ ap (λ (k : ℕ). Some (get_or used k d)) (sym e));
}

pub place_within : (couplers : List CouplerPins) (used : List PinSlot) (at n : ℕ) → IsFirstWithout couplers used at → n ≡ at → n < length used
place_within couplers used at n without e =
    let lt = slice_get_within used at without.slot without.stands in omega (arith, lt, e)

-- ---- pins

-- one line more
pub pin_lines-more : (used : List PinSlot) (pins : List ℕ) (all done new : List PinLine) (at : ℕ) (d : PinSlot) → at < length used
    → length pins ≡ length used → all ≡ done ++ pin_lines (drop at (map slot_at used)) (drop at pins)
    → new ≡ done ++ pin_line (slot_at (get_or used at d)) (get_or pins at 0) ∷ []
    → all ≡ new ++ pin_lines (drop (at + 1) (map slot_at used)) (drop (at + 1) pins)
pin_lines-more used pins all done new at d lt count e is =
    let slots : List Slot = map slot_at used in
    let slot : Slot = slot_at (get_or used at d) in
    let pin : ℕ = get_or pins at 0 in
    let in_slots : at < length slots = omega (arith, lt, length-map used slot_at) in
    e
    ∙ ap₂ (λ (ss : List Slot) (ps : List ℕ). done ++ pin_lines ss ps)
    (drop_more slots at slot in_slots ∙ ap (λ (s : Slot). s ∷ drop (at + 1) slots) (get_or-map slot_at used at d slot lt))
    (drop_more pins at 0 (omega (arith, lt, count)))
    ∙ sym (append_assoc done (pin_line slot pin ∷ []) (pin_lines (drop (at + 1) slots) (drop (at + 1) pins)))
    ∙ ap (λ (l : List PinLine). l ++ pin_lines (drop (at + 1) slots) (drop (at + 1) pins)) (sym is)

pub pinned_from : (draft : Draft) (t : Table) (laid : List LaidSet) (used : List PinSlot) (lines : List PinLine) → HasUsed draft t laid used → ArePinLines draft used lines
    → HasPinned draft t laid lines
pinned_from draft t laid used lines has are = record {
  slots = map slot_at used;
  pins = are.pins;
  job = has.job;
  found = record { works = has.works; used = used; are_used = has.usages; are_pins = are.are_pins };
  lines_are = are.lines_are;
}

-- ---- wires

module _ (draft : Draft) (sound : HasSoundTopologies draft) (passed : draft_check draft ≡ Ok tt) (t : Table) (laid : Laid) (has : HasLaid draft t laid)
    (lines : List PinLine) (pinned : HasPinned draft t laid.sets lines) where
  abbrev topology : TopologyView
  topology = topology_of draft

  abbrev sets : List WireSet
  sets = map (wired_of draft) laid.sets

  -- what is worked out up to wires, by the layouts and their sets
  worked_same : (wires : List Wire) → worked_for_pins draft laid.sets pinned.slots ++ worked_for_sets topology lines sets wires
      ≡ worked_for_pins draft laid.sets pinned.slots ++ wires_worked draft (pin_lines pinned.slots pinned.pins) laid.sets wires
  worked_same wires =
      ap (λ l. worked_for_pins draft laid.sets pinned.slots ++ l) (worked_alike draft sound t laid has passed lines wires)
      ∙ ap (λ (ls : List PinLine). worked_for_pins draft laid.sets pinned.slots ++ wires_worked draft ls laid.sets wires) pinned.lines_are

  more_same : (wires : List Wire) → AreMoreThan t.limit (IsRowOf (worked_for_pins draft laid.sets pinned.slots ++ worked_for_sets topology lines sets wires))
      → NeedTooManyRows (worked_for_pins draft laid.sets pinned.slots ++ wires_worked draft (pin_lines pinned.slots pinned.pins) laid.sets wires)
  more_same wires more =
      subst (λ (l : List Meaning). AreMoreThan 262144 (IsRowOf l)) (worked_same wires)
      (subst (λ (n : ℕ). AreMoreThan n (IsRowOf (worked_for_pins draft laid.sets pinned.slots ++ worked_for_sets topology lines sets wires))) pinned.job.limit more)

  same_more : (wires : List Wire)
      → NeedTooManyRows (worked_for_pins draft laid.sets pinned.slots ++ wires_worked draft (pin_lines pinned.slots pinned.pins) laid.sets wires)
      → AreMoreThan t.limit (IsRowOf (worked_for_pins draft laid.sets pinned.slots ++ worked_for_sets topology lines sets wires))
  same_more wires more =
      subst (λ (n : ℕ). AreMoreThan n (IsRowOf (worked_for_pins draft laid.sets pinned.slots ++ worked_for_sets topology lines sets wires))) (sym pinned.job.limit)
      (subst (λ (l : List Meaning). AreMoreThan 262144 (IsRowOf l)) (sym (worked_same wires)) more)

  cuts : (wires : List Wire) → AreWires topology lines sets wires → length wires ≤ 65536 → CutsWires draft laid.sets pinned.slots pinned.pins wires
  cuts wires are few = record {
    found = pinned.found;
    are_wires =
        subst (λ (ls : List PinLine). AreWiresOf draft ls laid.sets wires) pinned.lines_are
        (wires_of_sets draft sound t laid has passed lines wires are);
    few_wires = few;
  }

  pub wires_stop : AreManyWires 65536 topology lines sets → FirstStop draft (Limit limits.Wires 65537)
  wires_stop (wires, are, many) =
      let passes : PassesWires draft = record {
        laid = laid.sets;
        slots = pinned.slots;
        pins = pinned.pins;
        wires = wires;
        found = pinned.found;
        are_wires =
            subst (λ (ls : List PinLine). AreWiresOf draft ls laid.sets wires) pinned.lines_are
            (wires_of_sets draft sound t laid has passed lines wires are);
        many = many;
      } in
      inr (inr (inr (inl (refl, refl, passes))))

  pub rows_stop_wires : (wires : List Wire) → AreWires topology lines sets wires
      → (length wires ≤ 65536) × AreMoreThan t.limit (IsRowOf (worked_for_pins draft laid.sets pinned.slots ++ worked_for_sets topology lines sets wires))
      → FirstStop draft (Limit limits.Rows 262145)
  rows_stop_wires wires are (few, more) =
      let passes : PassesRowsForWires draft = record {
        laid = laid.sets;
        slots = pinned.slots;
        pins = pinned.pins;
        wires = wires;
        cuts = cuts wires are few;
        many = more_same wires more;
      } in
      inr (inr (inr (inr (refl, refl, inr passes))))

  pub cut_from : (u : Table) (wires : List CutWire) → AreCut topology lines sets u wires → length wires ≤ 65536
      → (AreMoreThan t.limit (IsRowOf (worked_for_pins draft laid.sets pinned.slots ++ worked_for_sets topology lines sets (map bare_of wires))) → ⊥)
      → HasCut draft u laid.sets lines wires
  cut_from u wires are few few_rows = record {
    slots = pinned.slots;
    pins = pinned.pins;
    cuts = cuts (map bare_of wires) are.wires (omega (arith, few, length-map wires bare_of));
    few_rows = λ more. few_rows (same_more (map bare_of wires) more);
    lines_are = pinned.lines_are;
    are_cut = are;
  }
