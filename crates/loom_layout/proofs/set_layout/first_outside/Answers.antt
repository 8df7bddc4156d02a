use Rattle.std.proofs.Common.{◌≡◌, ◌<◌, ℕ, length, map, get_or, sym, ap, ◌∙◌, subst, arith}
use Rattle.std.specs.List.{Contains}
use Rattle.std.proofs.lemmas.List.{length-map, get_or-map}
use Rattle.loom_base.specs.declared.positions.CavityNo.{CavityNo}
use Rattle.loom_topology.specs.Topology.{node_of}
use Rattle.loom_layout.specs.Stop.{IsFirstWithout}
use Rattle.loom_topology.specs.Legal.{chosen}
use Rattle.loom_layout.proofs.Choosing.{hold_at_first, hold_past, hold_one, hold_all, first_without, is_among, isnt_among}
use Rattle.loom_layout.proofs.set_layout.first_outside.Goals as goal
use Rattle.loom_layout.proofs.set_layout.first_outside.Goals.{else-left-eq1-via-then-left-eq1+else-not-contains, else-left-eq1-via-else-left-eq1}

pub loop-cavity-init : goal.loop-cavity-init
loop-cavity-init c =
    hold_at_first (λ x. Contains (map (λ v. v.0) c.args.nodes.now) (node_of c.args.topology.now x))
    (map (λ x. x.0) c.args.terminals.now) c.args.mask

pub returns-then-not-contains : goal.returns-then-not-contains
returns-then-not-contains c =
    let none : CavityNo = record { 0 = 0 } in
    let i : ℕ = c.loop-cavity.cavity-index in
    let number : get_or (map (λ (x : CavityNo). x.0) c.args.terminals.now) i 0 ≡ (get_or c.args.terminals.now i none).0 =
    get_or-map (λ (x : CavityNo). x.0) c.args.terminals.now i none 0 c.loop-cavity-test.true in
    let within : i < length (map (λ (x : CavityNo). x.0) c.args.terminals.now) =
    omega (arith, c.loop-cavity-test.true, length-map c.args.terminals.now (λ (x : CavityNo). x.0)) in
    subst (λ (x : ℕ). IsFirstWithout (λ c'. Contains (map (λ v. v.0) c.args.nodes.now) (node_of c.args.topology.now c'))
    (chosen (map (λ c'. c'.0) c.args.terminals.now) c.args.mask) x) number
    (first_without (λ x. Contains (map (λ v. v.0) c.args.nodes.now) (node_of c.args.topology.now x))
    (map (λ x. x.0) c.args.terminals.now) c.args.mask i c.loop-cavity.left within c.if-left-eq1.true
    (λ holds. isnt_among c.cavity_node.result.0 c.args.nodes.now (sym c.contains.ensures.value ∙ c.if-not-contains.true)
    (subst (λ (n : ℕ). Contains (map (λ v. v.0) c.args.nodes.now) n) (ap (node_of c.args.topology.now) number ∙ sym c.cavity_node.ensures.node) holds))
    c.loop-cavity.invariant)

pub loop-cavity-preserved : goal.loop-cavity-preserved
loop-cavity-preserved c =
    let none : CavityNo = record { 0 = 0 } in
    let i : ℕ = c.loop-cavity.cavity-index in
    let number : get_or (map (λ (x : CavityNo). x.0) c.args.terminals.now) i 0 ≡ (get_or c.args.terminals.now i none).0 =
    get_or-map (λ (x : CavityNo). x.0) c.args.terminals.now i none 0 c.loop-cavity-test.true in
    let within : i < length (map (λ (x : CavityNo). x.0) c.args.terminals.now) =
    omega (arith, c.loop-cavity-test.true, length-map c.args.terminals.now (λ (x : CavityNo). x.0)) in
    elim c.else-left-eq1.branch [
      | else-left-eq1-via-then-left-eq1+else-not-contains w ↦
          hold_one (λ x. Contains (map (λ v. v.0) c.args.nodes.now) (node_of c.args.topology.now x))
          (map (λ x. x.0) c.args.terminals.now) c.args.mask i c.loop-cavity.left within w.if-left-eq1.true
          (subst (λ (n : ℕ). Contains (map (λ v. v.0) c.args.nodes.now) n) (w.cavity_node.ensures.node ∙ ap (node_of c.args.topology.now) (sym number))
          (is_among w.cavity_node.result.0 c.args.nodes.now (sym w.contains.ensures.value ∙ w.if-not-contains.false)))
          c.loop-cavity.invariant
      | else-left-eq1-via-else-left-eq1 w ↦
          hold_past (λ x. Contains (map (λ v. v.0) c.args.nodes.now) (node_of c.args.topology.now x))
          (map (λ x. x.0) c.args.terminals.now) c.args.mask i c.loop-cavity.left within w.if-left-eq1.false c.loop-cavity.invariant
    ]

pub returns : goal.returns
returns c =
    hold_all (λ x. Contains (map (λ v. v.0) c.args.nodes.now) (node_of c.args.topology.now x))
    (map (λ x. x.0) c.args.terminals.now) c.args.mask c.loop-cavity.cavity-index c.loop-cavity.left
    (omega (arith, c.loop-cavity-test.false, length-map c.args.terminals.now (λ (x : CavityNo). x.0))) c.loop-cavity.invariant
