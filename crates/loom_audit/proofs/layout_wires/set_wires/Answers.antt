use Rattle.std.proofs.Common.{◌≡◌, ◌<◌, ◌≤◌, ◌+◌, ℕ, List, max, length, get_or, subst, sym, ap, ◌∙◌, arith}
use Rattle.std.specs.List.{fold}
use Rattle.std.proofs.lemmas.Result.{IfOk-weaker}
use Rattle.std.proofs.lemmas.List.Elements.{All-weaker}
use Rattle.loom_topology.specs.Topology.{node_of}
use Rattle.loom_types.specs.declared.wire.End.{End}
use Rattle.loom_types.specs.declared.wire.End.TheVariants.{Cavity}
use Rattle.loom_types.specs.declared.wire.Wire.{Wire}
use Rattle.loom_types.specs.LayoutTree.{tree_of}
use Rattle.loom_types.specs.LayoutWires.{cut, hung_of, legs_of, splice_of}
use Rattle.loom_types.specs.PinLines.{pin_in}
use Rattle.loom_audit.specs.Threads.{AreSplices, legs_back}
use Rattle.loom_audit.specs.CutSets.{first_of, others_of}
use Rattle.loom_audit.proofs.LaidLemmas.{each_hangs, first_read, greatest_hang, hangs_within, steps_length}
use Rattle.loom_audit.proofs.LegSteps.{length-legs_back, length-legs_of}
use Rattle.loom_audit.proofs.layout_wires.set_wires.Goals as goal

pub splices-requires-clause-few : goal.splices-requires-clause-few
splices-requires-clause-few c =
    omega (arith, c.greatest-last.ensures, ap (fold max 0) c.as_slice.ensures, greatest_hang c.args.topology.now c.args.set.now c.requires.laid, c.greatest-last.type_inv)

pub legs-requires-clause-few : goal.legs-requires-clause-few
legs-requires-clause-few c =
    omega (arith, c.greatest-last.ensures, ap (fold max 0) c.as_slice.ensures, greatest_hang c.args.topology.now c.args.set.now c.requires.laid, c.greatest-last.type_inv)

pub hung-requires-clause-each : goal.hung-requires-clause-each
hung-requires-clause-each c = each_hangs c.args.topology.now c.args.set.now c.requires.laid

pub hung-requires-clause-points : goal.hung-requires-clause-points
hung-requires-clause-points c =
    let last : c.greatest-last.result ≡ length c.args.set.now.layout.steps =
    c.greatest-last.ensures ∙ (ap (fold max 0) c.as_slice.ensures ∙ greatest_hang c.args.topology.now c.args.set.now c.requires.laid) in
    All-weaker (λ point. point ≤ length c.args.set.now.layout.steps) (λ point. point < c.greatest-last.result + 1) (λ point h. omega arith)
    c.args.set.now.layout.hangs (hangs_within c.args.topology.now c.args.set.now c.requires.laid)

pub walked-requires-clause-few : goal.walked-requires-clause-few
walked-requires-clause-few c =
    omega (
      arith,
      c.in_ok-legs.legs.ok.0,
      length-legs_back c.in_ok-legs.legs.items,
      ap length c.in_ok-legs.ensures.legs,
      length-legs_of c.args.topology.now (node_of c.args.topology.now (first_of c.args.set.now)) (pin_in c.args.pins.now c.args.set.now.net.0) (tree_of c.args.set.now.layout)
          (length c.args.set.now.layout.steps),
      c.greatest-last.ensures,
      ap (fold max 0) c.as_slice.ensures,
      greatest_hang c.args.topology.now c.args.set.now c.requires.laid,
      c.greatest-last.type_inv,
    )

pub walked-requires-clause-splices : goal.walked-requires-clause-splices
walked-requires-clause-splices c =
    omega (
      arith,
      c.in_ok-legs.legs.ok.0,
      length-legs_back c.in_ok-legs.legs.items,
      ap length c.in_ok-legs.ensures.legs,
      length-legs_of c.args.topology.now (node_of c.args.topology.now (first_of c.args.set.now)) (pin_in c.args.pins.now c.args.set.now.net.0) (tree_of c.args.set.now.layout)
          (length c.args.set.now.layout.steps),
      ap length c.deref-3.ensures.value,
      c.in_ok-splices.ensures.count,
    )

pub walked-requires-clause-stacks : goal.walked-requires-clause-stacks
walked-requires-clause-stacks c =
    omega (
      arith,
      c.in_ok-legs.legs.ok.0,
      length-legs_back c.in_ok-legs.legs.items,
      ap length c.in_ok-legs.ensures.legs,
      length-legs_of c.args.topology.now (node_of c.args.topology.now (first_of c.args.set.now)) (pin_in c.args.pins.now c.args.set.now.net.0) (tree_of c.args.set.now.layout)
          (length c.args.set.now.layout.steps),
      c.in_ok-stacks.ensures.count,
      c.greatest-last.ensures,
      ap (fold max 0) c.as_slice.ensures,
      greatest_hang c.args.topology.now c.args.set.now c.requires.laid,
    )

pub returns : goal.returns
returns c =
    let topology = c.args.topology.now in
    let set = c.args.set.now in
    let v = node_of topology (first_of set) in
    let tree = tree_of set.layout in
    let pins = pin_in c.args.pins.now set.net.0 in
    let stem : End = Cavity (get_or c.as_slice-2.result.now 0 (record { 0 = 0 })) in
    let hung = hung_of (others_of set) set.layout.hangs in
    let some : 0 < length c.as_slice-2.result.now = omega (arith, c.requires.laid.some, ap length c.as_slice-2.ensures) in
    let same_stem : stem ≡ Cavity (record { 0 = first_of set }) =
    ap (λ (n : ℕ). Cavity (record { 0 = n })) (first_read set c.as_slice-2.result.now (record { 0 = 0 }) c.as_slice-2.ensures some) in
    let same_legs : legs_back c.in_ok-legs.legs.items ≡ legs_of topology v pins tree (length tree.steps) =
    c.in_ok-legs.ensures.legs ∙ ap (legs_of topology v pins tree) (sym (steps_length topology set c.requires.laid)) in
    let same_wires : cut set.net.0 (splice_of topology v tree) stem hung (legs_back c.in_ok-legs.legs.items)
    ≡ cut set.net.0 (splice_of topology v tree) (Cavity (record { 0 = first_of set })) hung (legs_of topology v pins tree (length tree.steps)) =
    ap (λ (e : End). cut set.net.0 (splice_of topology v tree) e hung (legs_back c.in_ok-legs.legs.items)) same_stem
    ∙ ap (cut set.net.0 (splice_of topology v tree) (Cavity (record { 0 = first_of set })) hung) same_legs in
    let named : AreSplices (splice_of topology v tree) c.deref-3.result.now =
    subst (AreSplices (splice_of topology v tree)) (sym c.deref-3.ensures.value) c.in_ok-splices.ensures.splices in
    IfOk-weaker c.walked.result (λ (wires : List Wire). wires ≡ cut set.net.0 (splice_of topology v tree) stem hung (legs_back c.in_ok-legs.legs.items))
    (λ (wires : List Wire). wires ≡ cut set.net.0 (splice_of topology v tree) (Cavity (record { 0 = first_of set })) hung (legs_of topology v pins tree (length tree.steps)))
    (λ wires e. e ∙ same_wires)
    (c.walked.ensures (splice_of topology v tree) hung named c.in_ok-stacks.ensures.hung)
