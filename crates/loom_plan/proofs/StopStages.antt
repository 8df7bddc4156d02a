-- A stop at a stage of the planning excludes that the stage is passed.
use Rattle.std.proofs.Common.{◌≡◌, ℕ, zero, suc, ◌+◌, ◌<◌, ◌≤◌, inl, inr, List, [], ◌∷◌, ◌++◌, append_assoc, map, length, take, get_or, slice_get, IsTrue, refl, sym, ap, subst, ◌∙◌, arith, Contains}
use Rattle.std.specs.List.{flat_map}
use Rattle.std.proofs.lemmas.Bool.{cases_lt, true≢false}
use Rattle.std.proofs.lemmas.List.{length-map, get_or_past, take_all}
use Rattle.std.proofs.lemmas.List.Kept.{AllPairs-from_increasing}
use Rattle.std.proofs.lemmas.Option.{same_Some, slice_get_within}
use Rattle.loom_base.proofs.Contained.{Contains-map}
use Rattle.loom_topology.specs.Topology.{TopologyView, Segment, segment_at, no_segment, is_coupler, node_of}
use Rattle.loom_topology.specs.Legal.{chosen}
use Rattle.loom_topology.specs.Reach.{IsReached as Reaches}
use Rattle.loom_formula.specs.Choice.{choice_at}
use Rattle.loom_project.specs.declared.draft.Draft.{Draft}
use Rattle.loom_project.specs.declared.draft.NetDraft.{NetDraft}
use Rattle.loom_project.specs.Draft.{node_names, pins_of}
use Rattle.loom_project.specs.Project.{topology_of, placed_segment, net_topology, cavities_of}
use Rattle.loom_rows.specs.Condition.{Meaning}
use Rattle.loom_rows.specs.Disjunction.{some_hold}
use Rattle.loom_rows.proofs.Counted.{element}
use Rattle.loom_rows.proofs.Worked.{rows-more}
use Rattle.loom_types.specs.declared.wire.Wire.{Wire}
use Rattle.loom_types.specs.Slots.{Slot}
use Rattle.loom_types.specs.SetMask.{stem_node}
use Rattle.loom_active.specs.declared.stop.ActiveStop.{ActiveStop}
use Rattle.loom_active.specs.declared.stop.ActiveStop.TheVariants as active
use Rattle.loom_active.specs.Needs.{is_valid_for}
use Rattle.loom_active.specs.Valid.{rules_worked, NeedTooManyRows}
use Rattle.loom_active.specs.LiveWork.{formulas_of, signs_worked, terminals_worked, sets_worked, needs_worked, worked_through, live_worked}
use Rattle.loom_active.specs.LiveStops.{IsLiveStop, HaveMoreSets}
use Rattle.loom_active.proofs.Pairs.{at_index, slice_get-map}
use Rattle.loom_active.proofs.ClashLemmas.{place_in}
use Rattle.loom_laid.specs.declared.laid_set.LaidSet.{LaidSet}
use Rattle.loom_laid.specs.declared.stop.LaidStop.{LaidStop}
use Rattle.loom_laid.specs.declared.stop.LaidStop.TheVariants as laid
use Rattle.loom_laid.specs.LaidSets.{AreLiveNets, cells_of}
use Rattle.loom_laid.specs.LaidStops.{FitCells, PassCells, PassSteps, IsReached}
use Rattle.loom_layout.specs.Stop.{IsFirstWithout as IsFirstUnreachedIn}
use Rattle.loom_pins.specs.declared.slot.Slot.{Slot as PinSlot}
use Rattle.loom_pins.specs.declared.slot.CouplerPins.{CouplerPins}
use Rattle.loom_pins.specs.Laws.{HaveCouplers}
use Rattle.loom_plan.specs.Work.{line_of, AreSlots, AreUsages, slot_at, users_of_slot, couplers_of, pin_lines, AreWiresOf}
use Rattle.loom_plan.specs.FirstStop.{FindsSets, LaysSets, WorksUsages, FindsPins, CutsWires, HasPlan, worked_for_pins, worked_for_wires, StopsLaying, PassesRowsForPins, LacksPin, PassesWires, PassesRowsForWires}
use Rattle.loom_plan.proofs.StrictOrders.{same-members, numbers_once}
use Rattle.loom_plan.proofs.SameLines.{StageLaws, fixed-from_laid, same-lines}
use Rattle.loom_plan.proofs.SameWork.{same-steps, same-users, same-slots, same-usages, same-wires, same-wires_worked}
use Rattle.loom_plan.proofs.AlikeSlots.{HasTwins, pins-alike, without-alike}

-- ---- the search for live sets

pub more_sets : (draft : Draft) (n m limit : ℕ) → n ≤ m → HaveMoreSets draft n limit → HaveMoreSets draft m limit
more_sets draft n m limit le more = record {
  listed = more.listed;
  different = more.different;
  live = λ k d lt. let q = more.live k d lt in (omega (arith, q.0, le), q.1);
  many = more.many;
}

-- what comes of the first k elements is a front of what comes of the first l
front : {X A : Type 0} (f : X → List A) (xs : List X) (k l : ℕ) → k ≤ l
    → (rest : List A) × (flat_map f (take l xs) ≡ flat_map f (take k xs) ++ rest)
front f xs zero l le = (flat_map f (take l xs), refl)
front f [] (suc k) zero le = absurd (omega arith)
front f [] (suc k) (suc l) le = ([], refl)
front f (x ∷ xs) (suc k) zero le = absurd (omega arith)
front {X} {A} f (x ∷ xs) (suc k) (suc l) le =
    let later = front f xs k l (omega arith) in
    (later.0, ap (λ (made : List A). f x ++ made) later.1 ∙ sym (append_assoc (f x) (flat_map f (take k xs)) later.0))

module _ (draft : Draft) where
  signs_of : NetDraft → List Meaning
  signs_of net = signs_worked (is_valid_for draft) (formulas_of draft.options net)

  pub rows-needs : NeedTooManyRows (rules_worked draft) → NeedTooManyRows (needs_worked draft)
  rows-needs many = rows-more 262144 (rules_worked draft) (terminals_worked draft.options (is_valid_for draft) draft.nets) many

  pub rows-through : (k : ℕ) → NeedTooManyRows (needs_worked draft) → NeedTooManyRows (worked_through draft k)
  rows-through k many = rows-more 262144 (needs_worked draft) (sets_worked draft.options (is_valid_for draft) (take k draft.nets)) many

  pub rows-further : (k l : ℕ) → k ≤ l → NeedTooManyRows (worked_through draft k) → NeedTooManyRows (worked_through draft l)
  unfolding signs_of
  rows-further k l le many =
      let more = front signs_of draft.nets k l le in
      let same : worked_through draft k ++ more.0 ≡ worked_through draft l =
      append_assoc (needs_worked draft) (flat_map signs_of (take k draft.nets)) more.0
      ∙ ap (λ (ws : List Meaning). needs_worked draft ++ ws) (sym more.1) in
      subst NeedTooManyRows same (rows-more 262144 (worked_through draft k) more.0 many)

  pub rows-live : (k : ℕ) → NeedTooManyRows (worked_through draft k) → NeedTooManyRows (live_worked draft)
  rows-live k many =
      let all : take (k + length draft.nets) draft.nets ≡ draft.nets = take_all (k + length draft.nets) draft.nets (omega arith) in
      let same : worked_through draft (k + length draft.nets) ≡ live_worked draft =
      ap (λ (nets : List NetDraft). needs_worked draft ++ sets_worked draft.options (is_valid_for draft) nets) all in
      subst NeedTooManyRows same (rows-further k (k + length draft.nets) (omega arith) many)

  pub live-passed : (stop : ActiveStop) → FindsSets draft → IsLiveStop draft stop → stop ≡ active.NoMemory
  live-passed active.NoChoice finds (none, few) = absurd (none finds.some_choice.0 finds.some_choice.1)
  live-passed (active.Clash cavity first second choice) finds (few, count, is_first) =
      absurd (finds.clear cavity.0 first.0 second.0 (choice_at choice.values) is_first.clash)
  live-passed (active.Limit which count) finds (inl (is, counts, (net, (reached, few, many)))) =
      absurd (finds.few_sets (more_sets draft (net + 1) (length draft.nets) 16384 (omega (arith, reached.in_range)) many))
  live-passed (active.Limit which count) finds (inr (is, counts, inl rules)) =
      absurd (finds.few_rows (rows-live 0 (rows-through 0 (rows-needs rules))))
  live-passed (active.Limit which count) finds (inr (is, counts, inr (inl (some, few, needs)))) =
      absurd (finds.few_rows (rows-live 0 (rows-through 0 needs)))
  live-passed (active.Limit which count) finds (inr (is, counts, inr (inr (net, reached, many)))) =
      absurd (finds.few_rows (rows-live (net + 1) many))
  live-passed active.NoMemory finds due = refl

-- ---- layouts

same_nets : (draft : Draft) (nets others : List ℕ) → AreLiveNets draft nets → AreLiveNets draft others → nets ≡ others
same_nets draft nets others a b =
    same-members (λ x y. x < y) numbers_once nets others (AllPairs-from_increasing nets a.rising) (AllPairs-from_increasing others b.rising)
    (λ net at. let live = a.each net at in b.all net live.0 live.1)
    (λ net at. let live = b.each net at in a.all net live.0 live.1)

pub cells-exclude : (draft : Draft) → FitCells draft → PassCells draft → ⊥
cells-exclude draft fit pass =
    let same = ap (cells_of draft) (same_nets draft fit.nets pass.nets fit.are_nets pass.are_nets) in
    omega (arith, fit.few, pass.many, same)

pub reach-excludes : (draft : Draft) (net mask cavity : ℕ) → IsReached draft net mask
    → IsFirstUnreachedIn
    (λ c. Reaches (net_topology draft net) (stem_node (net_topology draft net) (cavities_of draft net) mask) (node_of (net_topology draft net) c))
    (chosen (cavities_of draft net) mask) cavity
    → ⊥
reach-excludes draft net mask cavity reached first =
    let P = λ (c : ℕ).
    Reaches (net_topology draft net) (stem_node (net_topology draft net) (cavities_of draft net) mask) (node_of (net_topology draft net) c) in
    first.without (subst P first.at (reached first.place 0 first.within))

module _ (laws : StageLaws) (draft : Draft) where
  lines_of : (one other : List LaidSet) → LaysSets draft one → LaysSets draft other → map line_of one ≡ map line_of other
  lines_of one other a b =
      same-lines laws draft one other (fixed-from_laid draft a.tables a.sets one a.are_sets a.are_tables a.are_laid)
      (fixed-from_laid draft b.tables b.sets other b.are_sets b.are_tables b.are_laid)

  pub laying-passed : (sets : List LaidSet) (stop : LaidStop) → LaysSets draft sets → StopsLaying draft stop → stop ≡ laid.NoMemory
  laying-passed sets laid.TooManyCells lays due = absurd (cells-exclude draft lays.few_cells due.stops)
  laying-passed sets (laid.Unreachable net cavity reached) lays due =
      let (mask, first, stop) = due.stops.1 in
      absurd (reach-excludes draft net.0 mask cavity.0 (lays.reached net.0 mask first.live) stop.0)
  laying-passed sets laid.TooManySteps lays due =
      let pass : PassSteps draft due.sets = due.stops.1 in
      let lines =
      same-lines laws draft sets pass.laid (fixed-from_laid draft lays.tables lays.sets sets lays.are_sets lays.are_tables lays.are_laid)
      (fixed-from_laid draft pass.tables due.sets pass.laid due.are_sets pass.are_tables pass.are_laid) in
      absurd (omega (arith, lays.few_steps, pass.many, same-steps draft sets pass.laid lines))
  laying-passed sets laid.NoMemory lays due = refl

  -- ---- slots

  pub slots_of : (one other : List LaidSet) (slots others : List Slot) → LaysSets draft one → LaysSets draft other → AreSlots draft one slots
      → AreSlots draft other others → slots ≡ others
  slots_of one other slots others a b are also = same-slots draft one other (lines_of one other a b) slots others are also

  worked_of : (one other : List LaidSet) (slots others : List Slot) → LaysSets draft one → LaysSets draft other → AreSlots draft one slots
      → AreSlots draft other others → worked_for_pins draft one slots ≡ worked_for_pins draft other others
  worked_of one other slots others a b are also =
      ap (λ (ws : List Meaning). live_worked draft ++ ws)
      (same-usages draft one other (lines_of one other a b) slots others (slots_of one other slots others a b are also))

  pub usages-passed : (one : List LaidSet) (slots : List Slot) → WorksUsages draft one slots → PassesRowsForPins draft → ⊥
  usages-passed one slots works due =
      works.few_rows
      (subst NeedTooManyRows (worked_of due.laid one due.slots slots due.lays works.lays due.are_slots works.are_slots) due.many)

-- ---- pins

coupler_within : (topology : TopologyView) (s : ℕ) → IsTrue (is_coupler (segment_at topology s).kind) → s < length topology.segments
coupler_within topology s holds = elim (cases_lt s (length topology.segments)) [
  | inl below ↦ below
  | inr past ↦ absurd (true≢false (sym holds ∙ ap (λ (g : Segment). is_coupler g.kind) (get_or_past topology.segments s no_segment past)))
]

count_segments : (draft : Draft) → length (topology_of draft).segments ≡ length draft.segments
unfolding topology_of
count_segments draft = length-map draft.segments (placed_segment (node_names draft.nodes))

pub have-couplers : (draft : Draft) (one : List LaidSet) (slots : List Slot) (used : List PinSlot) → AreSlots draft one slots
    → AreUsages draft one slots used → HaveCouplers (couplers_of draft) used
have-couplers draft one slots used are usages k d below =
    let slot = get_or used k d in
    let listed : Contains slots (slot_at slot) =
    subst (λ (l : List Slot). Contains l (slot_at slot)) usages.slots_are (Contains-map slot_at used slot (at_index used k d below)) in
    let inside = coupler_within (topology_of draft) slot.coupler.0 (are.each (slot_at slot) listed).0 in
    let count : length (couplers_of draft) ≡ length draft.segments =
    length-map draft.segments (λ segment. let c : CouplerPins = record { pins = pins_of segment.kind; reserved = segment.reserved } in c) in
    omega (arith, inside, count, count_segments draft)

module _ (draft : Draft) (one other : List LaidSet) (lines : map line_of one ≡ map line_of other) (slots others : List Slot) (same : slots ≡ others)
    (used own : List PinSlot) (a : AreUsages draft one slots used) (b : AreUsages draft other others own) where
  maps : map slot_at used ≡ map slot_at own
  maps = a.slots_are ∙ (same ∙ sym b.slots_are)

  count_used : length used ≡ length own
  count_used = sym (length-map used slot_at) ∙ (ap length maps ∙ length-map own slot_at)

  twins_of : HasTwins used own
  twins_of at slot stands =
      let below : at < length own = omega (arith, slice_get_within used at slot stands, count_used) in
      let (twin, found) = element own at below in
      let alike : slot_at slot ≡ slot_at twin =
      same_Some (slot_at slot) (slot_at twin)
      (sym (slice_get-map slot_at used at slot stands)
      ∙ (ap (λ (l : List Slot). slice_get l at) maps ∙ slice_get-map slot_at own at twin found)) in
      let users : users_of_slot draft one (slot_at slot) ≡ users_of_slot draft other (slot_at twin) =
      same-users draft one other lines (slot_at slot) ∙ ap (users_of_slot draft other) alike in (
        twin,
        found,
        record {
          coupler = ap (λ (s : Slot). s.coupler) alike;
          usage = λ c.
              a.usage slot (place_in used at slot stands) c
              ∙ (ap (λ (fs : List Meaning). some_hold fs c) users ∙ sym (b.usage twin (place_in own at twin found) c));
        },
      )

module _ (laws : StageLaws) (draft : Draft) where
  -- the pins of one list of used slots are those of the other
  pub carried : (one other : List LaidSet) (slots others : List Slot) → WorksUsages draft one slots → WorksUsages draft other others
      → (used own : List PinSlot) → AreUsages draft one slots used → AreUsages draft other others own
      → HasTwins used own × HasTwins own used × (length used ≡ length own)
  carried one other slots others works works_other used own a b =
      let lines = lines_of laws draft one other works.lays works_other.lays in
      let same = slots_of laws draft one other slots others works.lays works_other.lays works.are_slots works_other.are_slots in (
        twins_of draft one other lines slots others same used own a b,
        twins_of draft other one (sym lines) others slots (sym same) own used b a,
        count_used draft one other lines slots others same used own a b,
      )

  pins_of_slots : (one other : List LaidSet) (slots others : List Slot) (pins own : List ℕ) → FindsPins draft one slots pins
      → FindsPins draft other others own → pins ≡ own
  pins_of_slots one other slots others pins own a b =
      let (there, back, count) = carried other one others slots b.works a.works b.used a.used b.are_used a.are_used in
      laws.pins (couplers_of draft) a.used pins own (have-couplers draft one slots a.used a.works.are_slots a.are_used) a.are_pins
      (pins-alike b.used a.used there back (couplers_of draft) own count b.are_pins)

  pub pins-passed : (one : List LaidSet) (slots : List Slot) (pins : List ℕ) (slot : Slot) → FindsPins draft one slots pins → LacksPin draft slot → ⊥
  pins-passed one slots pins slot finds due =
      let (there, back, count) = carried due.laid one due.slots slots due.works finds.works due.used finds.used due.are_used finds.are_used in
      (laws.without (couplers_of draft) finds.used due.at (have-couplers draft one slots finds.used finds.works.are_slots finds.are_used)
      (without-alike due.used finds.used there back (couplers_of draft) due.at due.is_first)).0
      pins finds.are_pins

  -- ---- wires

  wires_of : (one other : List LaidSet) (slots others : List Slot) (pins own : List ℕ) (wires more : List Wire) → FindsPins draft one slots pins
      → FindsPins draft other others own → AreWiresOf draft (pin_lines slots pins) one wires → AreWiresOf draft (pin_lines others own) other more
      → (pin_lines slots pins ≡ pin_lines others own) × (wires ≡ more)
  wires_of one other slots others pins own wires more a b are also =
      let lines = lines_of laws draft one other a.works.lays b.works.lays in
      let same_slot = slots_of laws draft one other slots others a.works.lays b.works.lays a.works.are_slots b.works.are_slots in
      let same_pin = pins_of_slots one other slots others pins own a b in
      let printed : pin_lines slots pins ≡ pin_lines others own = λ i. pin_lines (same_slot i) (same_pin i) in
      (printed, same-wires draft one other lines (pin_lines slots pins) (pin_lines others own) printed wires more are also)

  pub wires-passed : (one : List LaidSet) (slots : List Slot) (pins : List ℕ) (wires : List Wire) → CutsWires draft one slots pins wires
      → PassesWires draft → ⊥
  wires-passed one slots pins wires cuts due =
      let same = (wires_of one due.laid slots due.slots pins due.pins wires due.wires cuts.found due.found cuts.are_wires due.are_wires).1 in
      omega (arith, cuts.few_wires, due.many, ap length same)

  pub plan-passed : HasPlan draft → PassesRowsForWires draft → ⊥
  plan-passed plan due =
      let a = due.cuts in
      let b = plan.cuts in
      let (printed, same) =
      wires_of due.laid plan.laid due.slots plan.slots due.pins plan.pins due.wires plan.wires a.found b.found a.are_wires b.are_wires in
      let lines = lines_of laws draft due.laid plan.laid a.found.works.lays b.found.works.lays in
      let usages =
      worked_of laws draft due.laid plan.laid due.slots plan.slots a.found.works.lays b.found.works.lays a.found.works.are_slots
      b.found.works.are_slots in
      let wires =
      same-wires_worked draft due.laid plan.laid lines (pin_lines due.slots due.pins) (pin_lines plan.slots plan.pins) due.wires plan.wires
      printed same in
      let worked :
      worked_for_wires draft due.laid due.slots due.pins due.wires ≡ worked_for_wires draft plan.laid plan.slots plan.pins plan.wires =
      λ i. usages i ++ wires i in
      plan.few_rows (subst NeedTooManyRows worked due.many)
