use Rattle.std.proofs.Common.{ℕ, List, ◌≡◌, Bool, map, sym, ap, ◌∙◌, subst, IsTrue}
use Rattle.std.specs.Prelude.{◌↔◌}
use Rattle.std.specs.List.{filter_map, slice_get}
use Rattle.loom_topology.specs.Legal.{chosen}
use Rattle.loom_project.specs.Project.{cavities_of}
use Rattle.loom_types.specs.declared.wire.End.{End}
use Rattle.loom_types.specs.declared.wire.Wire.{Wire}
use Rattle.loom_types.specs.WireTree.{ends_of, FormsTree}
use Rattle.loom_active.specs.SetWires.{SetFormsTree}
use Rattle.loom_audit.specs.SetWires.{wires_at}
use Rattle.loom_audit.proofs.TreeTests.{IfOk-then}
use Rattle.loom_audit.proofs.SetWireLists.{set_tree_from, tree_of_set}
use Rattle.loom_audit.proofs.trees.set_forms_tree.Goals as goal

pub returns : goal.returns
returns c =
    let draft = c.args.project.now in
    let plan = c.args.plan.now in
    let set = c.args.set.now in
    let wires : List Wire = wires_at plan c.args.positions.now in
    let cavities : List ℕ = chosen (cavities_of draft set.net.0) set.mask in
    let cavities_are : c.deref.result.now ≡ cavities =
    c.deref.ensures.value ∙ (c.in_ok-cavities.ensures ∙ ap (λ (l : List ℕ). chosen l set.mask) c.cavities.ensures.places) in
    let wires_are : c.deref-2.result.now ≡ map ends_of wires =
    c.deref-2.ensures.value ∙ (c.in_ok-wires.ensures ∙ ap (λ (l : List Wire). map ends_of (filter_map (slice_get l) c.args.positions.now)) c.as_slice.ensures) in
    IfOk-then c.form_tree.result (λ (b : Bool). IsTrue b ↔ FormsTree c.deref.result.now c.deref-2.result.now) (λ (b : Bool). IsTrue b ↔ SetFormsTree draft plan set) c.form_tree.ensures
    (λ b told. (
      λ holds. set_tree_from draft plan set wires c.requires.members
          (subst (λ (t : List ℕ × List (End × End)). FormsTree t.0 t.1) (λ i. (cavities_are i, wires_are i)) (told.0 holds)),
      λ forms. told.1 (subst (λ (t : List ℕ × List (End × End)). FormsTree t.0 t.1) (λ i. (sym cavities_are i, sym wires_are i))
          (tree_of_set draft plan set wires c.requires.members forms)),
    ))
