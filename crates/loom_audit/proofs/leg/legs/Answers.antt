use Rattle.std.proofs.Common.{◌≡◌, ◌<◌, ◌≤◌, ◌+◌, ℕ, length, get_or, ap, ◌∙◌, arith}
use Rattle.std.proofs.Math.ListN.{set as set_at}
use Rattle.std.proofs.lemmas.List.{get_or_read}
use Rattle.loom_base.specs.declared.positions.SegmentNo.{SegmentNo}
use Rattle.loom_topology.specs.Topology.{node_of}
use Rattle.loom_topology.specs.WiringTree.{place_of, step_at}
use Rattle.loom_types.specs.LayoutTree.{tree_of}
use Rattle.loom_types.specs.LayoutWires.{crossing_of}
use Rattle.loom_types.specs.PinLines.{pin_in}
use Rattle.loom_audit.specs.CutSets.{first_of}
use Rattle.loom_audit.proofs.LaidLemmas.{is_step, place_is, places_count, steps_length}
use Rattle.loom_audit.proofs.LegSteps.{led_more, ordinal_fits}
use Rattle.loom_audit.proofs.leg.legs.Goals as goal

pub index-requires : goal.index-requires
index-requires c =
    let s = is_step c.args.topology.now c.args.set.now c.requires.laid c.as_slice-step-items.result.now c.loop-step.step-index (0, record { 0 = 0 })
    c.as_slice-step-items.ensures c.loop-step-test.true in
    omega (arith, s.segment, s.there, c.loop-step.invariant.segments, c.loop-step.ordinals.ok.0)

pub index_mut-requires : goal.index_mut-requires
index_mut-requires c =
    let s = is_step c.args.topology.now c.args.set.now c.requires.laid c.as_slice-step-items.result.now c.loop-step.step-index (0, record { 0 = 0 })
    c.as_slice-step-items.ensures c.loop-step-test.true in
    omega (arith, s.segment, s.there, c.loop-step.invariant.segments, c.loop-step.ordinals.ok.0)

pub crossing_from-crossing-requires : goal.crossing_from-crossing-requires
crossing_from-crossing-requires c =
    let s = is_step c.args.topology.now c.args.set.now c.requires.laid c.as_slice-step-items.result.now c.loop-step.step-index (0, record { 0 = 0 })
    c.as_slice-step-items.ensures c.loop-step-test.true in
    omega (arith, s.segment, s.there)

pub bounds-places-parent : goal.bounds-places-parent
bounds-places-parent c =
    let s = is_step c.args.topology.now c.args.set.now c.requires.laid c.as_slice-step-items.result.now c.loop-step.step-index (0, record { 0 = 0 })
    c.as_slice-step-items.ensures c.loop-step-test.true in
    omega (
      arith,
      s.parent,
      s.below,
      s.inside,
      places_count c.args.topology.now c.requires.sound c.args.set.now c.requires.laid c.args.places.now c.requires.places,
      steps_length c.args.topology.now c.args.set.now c.requires.laid,
    )

pub overflow_add-ordinal : goal.overflow_add-ordinal
overflow_add-ordinal c =
    let s = is_step c.args.topology.now c.args.set.now c.requires.laid c.as_slice-step-items.result.now c.loop-step.step-index (0, record { 0 = 0 })
    c.as_slice-step-items.ensures c.loop-step-test.true in
    let ordinals = c.loop-step.ordinals.items in
    let here : ℕ = (get_or c.as_slice-step-items.result.now c.loop-step.step-index (0, record { 0 = 0 })).1.0 in
    let within : here < length ordinals = omega (arith, s.segment, s.there, c.loop-step.invariant.segments) in
    let read : c.index.result.now ≡ get_or ordinals here 0 = get_or_read ordinals here c.index.result.now within c.index.ensures 0 in
    let fits : get_or ordinals here 0 ≤ c.loop-step.step-index =
    ordinal_fits c.args.topology.now (node_of c.args.topology.now (first_of c.args.set.now)) (pin_in c.args.pins.now c.args.set.now.net.0)
    (tree_of c.args.set.now.layout) ordinals c.loop-step.legs.items c.loop-step.step-index here c.loop-step.invariant (omega (arith, s.inside)) within in
    omega (arith, read, fits, c.loop-step-test.true, ap length c.as_slice-step-items.ensures, c.requires.few)

pub loop-step-preserved : goal.loop-step-preserved
loop-step-preserved c =
    let s = is_step c.args.topology.now c.args.set.now c.requires.laid c.as_slice-step-items.result.now c.loop-step.step-index (0, record { 0 = 0 })
    c.as_slice-step-items.ensures c.loop-step-test.true in
    let topology = c.args.topology.now in
    let set = c.args.set.now in
    let tree = tree_of set.layout in
    let k = c.loop-step.step-index in
    let step : ℕ × SegmentNo = get_or c.as_slice-step-items.result.now k (0, record { 0 = 0 }) in
    let ordinals = c.loop-step.ordinals.items in
    let places = c.args.places.now in
    let begin : ℕ = (get_or places step.0 (record { 0 = 0 })).0 in
    let ordinal : ℕ = c.index.result.now + 1 in
    let within : step.1.0 < length ordinals = omega (arith, s.segment, s.there, c.loop-step.invariant.segments) in
    let read : c.index.result.now ≡ get_or ordinals step.1.0 0 = get_or_read ordinals step.1.0 c.index.result.now within c.index.ensures 0 in
    let counted : ordinal ≡ get_or ordinals (step_at tree k).segment 0 + 1 = ap (λ n. n + 1) (read ∙ ap (λ (n : ℕ). get_or ordinals n 0) s.segment) in
    let known : step.0 < length places =
    omega (
      arith,
      s.parent,
      s.below,
      s.inside,
      places_count topology c.requires.sound set c.requires.laid places c.requires.places,
      steps_length topology set c.requires.laid,
    ) in
    let start : begin ≡ place_of topology (node_of topology (first_of set)) tree (step_at tree k).parent =
    place_is topology c.requires.sound set c.requires.laid places c.requires.places step.0 (record { 0 = 0 }) known
    ∙ ap (place_of topology (node_of topology (first_of set)) tree) s.parent in
    let crosses =
    c.crossing_from-crossing.ensures
    ∙ ap (λ (n : ℕ). crossing_of topology begin n (pin_in c.args.pins.now set.net.0 n ordinal)) s.segment in
    led_more topology (node_of topology (first_of set)) (pin_in c.args.pins.now set.net.0) tree ordinals c.loop-step.legs.items k c.loop-step.invariant
    s.inside s.there c.requires.sound s.below ordinal begin counted start
    (record { parent = step.0; crossing = c.crossing_from-crossing.result }) s.parent crosses
    (set_at ordinals step.1.0 ordinal) (ap (λ (n : ℕ). set_at ordinals n ordinal) s.segment)
    c.push.new.self.items c.in_ok-push.ensures.items
