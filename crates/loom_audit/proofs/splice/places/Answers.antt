use Rattle.std.proofs.Common.{◌<◌, length, get_or, ap, ◌∙◌, arith}
use Rattle.std.proofs.lemmas.List.{length-map}
use Rattle.loom_base.specs.declared.positions.NodeNo.{NodeNo}
use Rattle.loom_topology.specs.Topology.{node_of}
use Rattle.loom_types.specs.LayoutTree.{step_of, tree_of}
use Rattle.loom_audit.specs.CutSets.{first_of}
use Rattle.loom_audit.proofs.LaidLemmas.{first_read, is_step}
use Rattle.loom_audit.proofs.PlaceSteps.{length-places_of-take, place_first, place_more}
use Rattle.loom_audit.proofs.splice.places.Goals as goal

pub loop-step-init : goal.loop-step-init
loop-step-init c =
    let topology = c.args.topology.now in
    let set = c.args.set.now in
    let some : 0 < length c.as_slice.result.now = omega (arith, c.requires.laid.some, ap length c.as_slice.ensures) in
    place_first topology (node_of topology (first_of set)) (tree_of set.layout).steps c.new-places.result.items c.push.new.self.items c.cavity_node.result
    c.new-places.ensures.items c.in_ok-push.ensures.items
    (c.cavity_node.ensures.node ∙ ap (node_of topology) (first_read set c.as_slice.result.now (record { 0 = 0 }) c.as_slice.ensures some))

pub index-start-requires : goal.index-start-requires
index-start-requires c =
    let topology = c.args.topology.now in
    let set = c.args.set.now in
    let s = is_step c.args.topology.now c.args.set.now c.requires.laid c.as_slice-step-items.result.now c.loop-step.step-index (0, record { 0 = 0 })
    c.as_slice-step-items.ensures c.loop-step-test.true in
    omega (
      arith,
      s.parent,
      s.below,
      c.loop-step.places.ok.0,
      length-map c.loop-step.places.items (λ (v : NodeNo). v.0),
      ap length c.loop-step.invariant,
      length-places_of-take topology (node_of topology (first_of set)) (tree_of set.layout).steps c.loop-step.step-index (omega (arith, s.inside)),
    )

pub way_from-way-requires : goal.way_from-way-requires
way_from-way-requires c =
    let s = is_step c.args.topology.now c.args.set.now c.requires.laid c.as_slice-step-items.result.now c.loop-step.step-index (0, record { 0 = 0 })
    c.as_slice-step-items.ensures c.loop-step-test.true in
    omega (arith, s.segment, s.there)

pub loop-step-preserved : goal.loop-step-preserved
loop-step-preserved c =
    let topology = c.args.topology.now in
    let set = c.args.set.now in
    let s = is_step c.args.topology.now c.args.set.now c.requires.laid c.as_slice-step-items.result.now c.loop-step.step-index (0, record { 0 = 0 })
    c.as_slice-step-items.ensures c.loop-step-test.true in
    place_more topology (node_of topology (first_of set)) (tree_of set.layout).steps c.loop-step.step-index s.inside
    c.loop-step.places.items c.push-in-loop-step.new.self.items
    (step_of (get_or c.as_slice-step-items.result.now c.loop-step.step-index (0, record { 0 = 0 }))) s.read (omega (arith, s.parent, s.below))
    c.loop-step.invariant c.index-start.result.now c.index-start.ensures
    c.way_from-way.result.to (ap (λ way. way.to.0) c.way_from-way.ensures.way) c.in_ok-push-2.ensures.items
