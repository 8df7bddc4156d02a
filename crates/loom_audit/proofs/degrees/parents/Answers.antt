use Rattle.std.proofs.Common.{◌≡◌, ℕ, List, [], ◌∷◌, ◌++◌, length, map, take, get_or, sym, ap, ◌∙◌, ◌+◌, ◌<◌, arith}
use Rattle.std.proofs.lemmas.List.{take_more, get_or-map, length-map}
use Rattle.loom_base.specs.declared.positions.SegmentNo.{SegmentNo}
use Rattle.loom_topology.specs.WiringTree.{no_step}
use Rattle.loom_types.specs.LayoutTree.{step_of}
use Rattle.loom_audit.proofs.degrees.parents.Goals as goal

-- one more parent
more : (items : List (ℕ × SegmentNo)) (k : ℕ) (none : ℕ × SegmentNo) (before after : List ℕ) → k < length items
    → before ≡ take k (map (λ step. step.parent) (map step_of items)) → after ≡ before ++ (get_or items k none).0 ∷ []
    → after ≡ take (k + 1) (map (λ step. step.parent) (map step_of items))
more items k none before after within known pushed =
    let inside : k < length (map step_of items) = omega (arith, length-map items step_of) in
    let whole : k < length (map (λ step. step.parent) (map step_of items)) = omega (arith, length-map (map step_of items) (λ step. step.parent)) in
    let read : get_or (map (λ step. step.parent) (map step_of items)) k 0 ≡ (get_or items k none).0 =
    get_or-map (λ step. step.parent) (map step_of items) k no_step 0 inside
    ∙ ap (λ step. step.parent) (get_or-map step_of items k none no_step within) in
    pushed
    ∙ (ap (λ (l : List ℕ). l ++ (get_or items k none).0 ∷ []) known
    ∙ (ap (λ (n : ℕ). take k (map (λ step. step.parent) (map step_of items)) ++ n ∷ []) (sym read)
    ∙ sym (take_more (map (λ step. step.parent) (map step_of items)) k 0 whole)))

pub loop-step-preserved : goal.loop-step-preserved
loop-step-preserved c =
    more c.as_slice-step-items.result.now c.loop-step.step-index (0, record { 0 = 0 }) c.loop-step.parents.items c.push.new.self.items
    c.loop-step-test.true c.loop-step.invariant c.in_ok-push.ensures.items
