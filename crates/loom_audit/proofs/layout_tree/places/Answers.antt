use Rattle.std.proofs.Common.{◌<◌, length, get_or, ap, arith}
use Rattle.std.proofs.lemmas.List.{length-map}
use Rattle.loom_project.specs.Project.{net_topology}
use Rattle.loom_types.specs.LayoutTree.{step_of, tree_of}
use Rattle.loom_audit.proofs.PlacedSteps.{placed_first, placed_more, places_long, late_parent, no_way, placed_sound, placed_all, step-read}
use Rattle.loom_audit.proofs.layout_tree.places.Goals as goal

pub loop-step-init : goal.loop-step-init
loop-step-init c =
    placed_first (net_topology c.args.project.now c.args.net.0) (tree_of c.args.layout.now) c.new-places.result.items c.push.new.self.items c.args.start
    c.new-places.ensures.items c.in_ok-push.ensures.items

pub returns-then-parent-len-clause-unsound : goal.returns-then-parent-len-clause-unsound
returns-then-parent-len-clause-unsound c =
    let topology = net_topology c.args.project.now c.args.net.0 in
    let tree = tree_of c.args.layout.now in
    let k = c.loop-step.step-index in
    let items = c.as_slice-step-items.result.now in
    let there : k < length tree.steps = omega (arith, c.loop-step-test.true, ap length c.as_slice-step-items.ensures, length-map c.args.layout.now.steps step_of) in
    let long = places_long topology c.args.start.0 tree c.loop-step.places.items k c.loop-step.invariant (omega (arith, there)) in
    late_parent topology c.args.start.0 tree c.loop-step.places.items k c.loop-step.invariant (omega (arith, there))
    (step_of (get_or items k (0, record { 0 = 0 }))) there (step-read c.args.layout.now items k (0, record { 0 = 0 }) c.as_slice-step-items.ensures c.loop-step-test.true)
    (omega (arith, c.if-parent-len.true, c.len.ensures, c.loop-step.places.ok.0, long))

pub returns-in_default-clause-unsound : goal.returns-in_default-clause-unsound
returns-in_default-clause-unsound c =
    let topology = net_topology c.args.project.now c.args.net.0 in
    let tree = tree_of c.args.layout.now in
    let k = c.loop-step.step-index in
    let items = c.as_slice-step-items.result.now in
    let there : k < length tree.steps = omega (arith, c.loop-step-test.true, ap length c.as_slice-step-items.ensures, length-map c.args.layout.now.steps step_of) in
    let long = places_long topology c.args.start.0 tree c.loop-step.places.items k c.loop-step.invariant (omega (arith, there)) in
    no_way topology c.args.start.0 tree c.loop-step.places.items k c.loop-step.invariant (omega (arith, there))
    (step_of (get_or items k (0, record { 0 = 0 }))) there (step-read c.args.layout.now items k (0, record { 0 = 0 }) c.as_slice-step-items.ensures c.loop-step-test.true)
    (omega (arith, c.if-parent-len.false, c.len.ensures, c.loop-step.places.ok.0, long)) c.index.result.now c.index.ensures c.in_default.ensures.not

pub loop-step-preserved : goal.loop-step-preserved
loop-step-preserved c =
    let topology = net_topology c.args.project.now c.args.net.0 in
    let tree = tree_of c.args.layout.now in
    let k = c.loop-step.step-index in
    let items = c.as_slice-step-items.result.now in
    let there : k < length tree.steps = omega (arith, c.loop-step-test.true, ap length c.as_slice-step-items.ensures, length-map c.args.layout.now.steps step_of) in
    let long = places_long topology c.args.start.0 tree c.loop-step.places.items k c.loop-step.invariant (omega (arith, there)) in
    placed_more topology c.args.start.0 tree c.loop-step.places.items k c.loop-step.invariant (omega (arith, there)) c.push-in-loop-step.new.self.items
    (step_of (get_or items k (0, record { 0 = 0 }))) there (step-read c.args.layout.now items k (0, record { 0 = 0 }) c.as_slice-step-items.ensures c.loop-step-test.true)
    (omega (arith, c.if-parent-len.false, c.len.ensures, c.loop-step.places.ok.0, long)) c.index.result.now c.index.ensures
    c.in-Some.node c.in-Some.ensures.passable c.in-Some.ensures.to c.in_ok-push-2.ensures.items

pub returns-clause-sound : goal.returns-clause-sound
returns-clause-sound c =
    placed_sound (net_topology c.args.project.now c.args.net.0) c.args.start.0 (tree_of c.args.layout.now) c.loop-step.places.items c.loop-step.step-index c.loop-step.invariant
    (omega (arith, c.loop-step-test.false, ap length c.as_slice-step-items.ensures, length-map c.args.layout.now.steps step_of))

pub returns-clause-places : goal.returns-clause-places
returns-clause-places c =
    placed_all (net_topology c.args.project.now c.args.net.0) c.args.start.0 (tree_of c.args.layout.now) c.loop-step.places.items c.loop-step.step-index c.loop-step.invariant
    (omega (arith, c.loop-step-test.false, ap length c.as_slice-step-items.ensures, length-map c.args.layout.now.steps step_of))
