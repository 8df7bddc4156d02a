use Rattle.std.proofs.Common.{◌≡◌, ◌<◌, ℕ, List, length, map, subst, ap, ◌∙◌, arith}
use Rattle.std.proofs.lemmas.List.{length-map, length-replicate}
use Rattle.std.proofs.lemmas.List.Elements.{All-same, All-map, All-weaker}
use Rattle.std.proofs.lemmas.Result.{IfOk-weaker}
use Rattle.loom_types.specs.LayoutTree.{step_of, tree_of}
use Rattle.loom_audit.specs.Degrees.{AreCounted, AreDegrees}
use Rattle.loom_audit.proofs.DegreeLemmas.{degrees_are}
use Rattle.loom_audit.proofs.degrees.degrees.Goals as goal

pub counted-requires : goal.counted-requires
counted-requires c =
    let tree = tree_of c.args.layout.now in
    let long : length c.in_ok-ones.ones.items ≡ c.args.point_count =
    ap length (c.in_ok-ones.ensures.items_if_clones_equal (λ y same. same)) ∙ length-replicate c.args.point_count 1 in
    All-same (λ point. point < length c.in_ok-ones.ones.items) c.deref.result.now (map (λ step. step.parent) tree.steps)
    (c.deref.ensures.value ∙ c.in_ok-parents.ensures)
    (All-map (λ point. point < length c.in_ok-ones.ones.items) (λ step. step.parent) tree.steps
    (All-weaker (λ step. step.parent < c.args.point_count) (λ step. step.parent < length c.in_ok-ones.ones.items) (λ step h. omega arith) tree.steps
    c.requires.parents))

pub returns : goal.returns
returns c =
    let tree = tree_of c.args.layout.now in
    IfOk-weaker _ (λ after. AreCounted c.in_ok-steps.steps.items c.as_slice.result.now after.items) (λ after. AreDegrees tree after.items)
    (λ after both.
    degrees_are tree c.args.point_count c.in_ok-ones.ones.items c.in_ok-steps.steps.items after.items
    (c.in_ok-ones.ensures.items_if_clones_equal (λ y same. same)) (omega (arith, c.requires.points, length-map c.args.layout.now.steps step_of))
    (subst (λ (l : List ℕ). AreCounted c.in_ok-ones.ones.items l c.in_ok-steps.steps.items) (c.deref.ensures.value ∙ c.in_ok-parents.ensures) c.in_ok-steps.ensures)
    (subst (λ (l : List ℕ). AreCounted c.in_ok-steps.steps.items l after.items) c.as_slice.ensures both))
    c.counted-2.ensures
