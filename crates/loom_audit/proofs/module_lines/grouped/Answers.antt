use Rattle.std.proofs.Common.{◌≡◌, ◌≤◌, ◌+◌, ℕ, List, [], ◌∷◌, ◌++◌, length, take, subst, sym, ap, ◌∙◌, arith}
use Rattle.std.proofs.lemmas.List.{length-take-le, take_more}
use Rattle.loom_topology.specs.Topology.{harness_at}
use Rattle.loom_types.specs.declared.plan.Module.{Module}
use Rattle.loom_types.specs.declared.wire.Wire.{Wire}
use Rattle.loom_types.specs.Modules.{harness_of}
use Rattle.loom_audit.specs.Grouping.{greatest_harness, AreGrouped, with_wire}
use Rattle.loom_audit.proofs.GroupSteps.{grouped_more, harness_known}
use Rattle.loom_audit.proofs.module_lines.grouped.Goals as goal

pub loop-at-preserved : goal.loop-at-preserved
loop-at-preserved c =
    let topology = c.args.topology.now in
    let wires = c.args.wires.now in
    let at : ℕ = c.loop-at.at in
    let w : Wire = c.index-wires-at.result in
    let before : List Wire = take at wires in
    let modules : List Module = c.loop-at.modules.items in
    let harness : c.harness-harness.result ≡ harness_of topology w = c.harness-harness.ensures ∙ ap (harness_at topology) c.end_node.ensures.node in
    let position : c.in-Ok.position ≡ length before = c.in-Ok.ensures.1 ∙ sym (length-take-le at wires (omega arith)) in
    let added : c.add_wire.new.modules.items ≡ with_wire modules (harness_of topology w) w.row (length before) =
    c.in_ok-add_wire.ensures.added
    ∙ (ap (λ (h : ℕ). with_wire modules h w.row c.in-Ok.position) harness ∙ ap (with_wire modules (harness_of topology w) w.row) position) in
    let more : before ++ w ∷ [] ≡ take (at + 1) wires = ap (λ (x : Wire). before ++ x ∷ []) c.index-wires-at.is ∙ sym (take_more wires at w c.loop-at-test.true) in (
      subst (λ (l : List Module). AreGrouped topology (take (at + 1) wires) l) (sym added)
          (subst (λ (l : List Wire). AreGrouped topology l (with_wire modules (harness_of topology w) w.row (length before))) more
          (grouped_more topology before w modules c.loop-at.invariant.0
          (subst (λ (v : ℕ). harness_at topology v ≤ greatest_harness topology) c.end_node.ensures.node (harness_known topology c.end_node.result.0)))),
      c.in_ok-add_wire.ensures.finds,
    )
