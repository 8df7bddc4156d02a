use Rattle.std.proofs.Common.{◌≡◌, ◌<◌, ℕ, List, length, map, subst, ap, ◌∙◌, arith}
use Rattle.std.proofs.lemmas.List.{length-map, length-replicate}
use Rattle.std.proofs.lemmas.List.Elements.{All-same, All-map, All-weaker}
use Rattle.loom_types.specs.LayoutTree.{step_of, tree_of}
use Rattle.loom_wires.specs.Degrees.{AreCounted}
use Rattle.loom_wires.proofs.DegreeLemmas.{degrees_are}
use Rattle.loom_wires.proofs.splice.below.Goals as goal

pub counted-steps-requires : goal.counted-steps-requires
counted-steps-requires c =
    let tree = tree_of c.args.layout.now in
    let long : length c.in_ok-none.none.items ≡ c.args.point_count =
    ap length (c.in_ok-none.ensures.items_if_clones_equal (λ y same. same)) ∙ length-replicate c.args.point_count 0 in
    All-same (λ point. point < length c.in_ok-none.none.items) c.deref.result.now (map (λ step. step.parent) tree.steps)
    (c.deref.ensures.value ∙ c.in_ok-parents.ensures)
    (All-map (λ point. point < length c.in_ok-none.none.items) (λ step. step.parent) tree.steps
    (All-weaker (λ step. step.parent < c.args.point_count) (λ step. step.parent < length c.in_ok-none.none.items) (λ step h. omega arith) tree.steps
    c.requires.parents))

pub returns : goal.returns
returns c =
    let tree = tree_of c.args.layout.now in
    degrees_are tree c.args.point_count c.in_ok-none.none.items c.counted-steps.result.items c.counted-both.result.items
    (c.in_ok-none.ensures.items_if_clones_equal (λ y same. same)) (omega (arith, c.requires.points, length-map c.args.layout.now.steps step_of))
    (subst (λ (l : List ℕ). AreCounted c.in_ok-none.none.items l c.counted-steps.result.items) (c.deref.ensures.value ∙ c.in_ok-parents.ensures) c.counted-steps.ensures)
    (subst (λ (l : List ℕ). AreCounted c.counted-steps.result.items l c.counted-both.result.items) c.as_slice.ensures c.counted-both.ensures)
