use Rattle.std.proofs.Common.{ℕ, List, ◌∷◌, [], ◌++◌, ◌≡◌, ◌+◌, Some, length, take, get_or, sym, ap, ◌∙◌, subst}
use Rattle.std.specs.List.{AllZip, slice_get}
use Rattle.std.proofs.lemmas.List.{take_more, take_all}
use Rattle.loom_types.specs.declared.wire.End.{End}
use Rattle.loom_types.specs.declared.wire.End.TheVariants.{Cavity}
use Rattle.loom_types.specs.WireTree.{joint_of}
use Rattle.loom_audit.specs.EndKeys.{key_of, IsLinkOf}
use Rattle.loom_audit.proofs.LinkSteps.{get_inserted, link_kept, link_pushed, stored_key, numbered_once}
use Rattle.loom_audit.proofs.links.links_of.Goals as goal

pub loop-wire-preserved : goal.loop-wire-preserved
loop-wire-preserved c =
    let wires : List (End × End) = c.args.wires.now in
    let at : ℕ = c.loop-wire.wire-index in
    let w : End × End = get_or wires at (Cavity (record { 0 = 0 }), Cavity (record { 0 = 0 })) in
    let known : List (ℕ × ℕ × ℕ × ℕ) = c.loop-wire.points.keys in
    let with_start : List (ℕ × ℕ × ℕ × ℕ) = c.insert_full.new.self.keys in
    let with_both : List (ℕ × ℕ × ℕ × ℕ) = c.insert_full-in-loop-wire.new.self.keys in
    let start : ℕ = c.in_ok-start.start in
    let finish : ℕ = c.in_ok-finish.finish in
    let first_kept = λ (i : ℕ) (k : ℕ × ℕ × ℕ × ℕ) (here : slice_get known i ≡ Some k).
    ap (λ (l : List (ℕ × ℕ × ℕ × ℕ)). slice_get l i) c.in_ok-start.ensures.keys ∙ get_inserted known c.end_key.result i k here in
    let second_kept = λ (i : ℕ) (k : ℕ × ℕ × ℕ × ℕ) (here : slice_get with_start i ≡ Some k).
    ap (λ (l : List (ℕ × ℕ × ℕ × ℕ)). slice_get l i) c.in_ok-finish.ensures.keys ∙ get_inserted with_start c.end_key-in-loop-wire.result i k here in
    let one : slice_get with_both start ≡ Some (key_of (joint_of w.0)) =
    second_kept start c.end_key.result (stored_key with_start c.end_key.result start c.in_ok-start.ensures.stored)
    ∙ ap (λ (k : ℕ × ℕ × ℕ × ℕ). Some k) (c.end_key.ensures ∙ ap key_of c.joint.ensures) in
    let two : slice_get with_both finish ≡ Some (key_of (joint_of w.1)) =
    stored_key with_both c.end_key-in-loop-wire.result finish c.in_ok-finish.ensures.stored
    ∙ ap (λ (k : ℕ × ℕ × ℕ × ℕ). Some k) (c.end_key-in-loop-wire.ensures ∙ ap key_of c.joint-in-loop-wire.ensures) in
    let before = link_kept known with_both (λ i k here. second_kept i k (first_kept i k here)) (take at wires) c.loop-wire.pairs.items c.loop-wire.invariant in
    let more : take (at + 1) wires ≡ take at wires ++ w ∷ [] = take_more wires at (Cavity (record { 0 = 0 }), Cavity (record { 0 = 0 })) c.loop-wire-test.true in
    subst (λ (t : List (End × End) × List (ℕ × ℕ)). AllZip (IsLinkOf with_both) t.0 t.1) (λ i. (sym more i, sym c.in_ok-push.ensures.items i))
    (link_pushed with_both (take at wires) c.loop-wire.pairs.items w (start, finish) before (one, two))

pub returns : goal.returns
returns c = record {
  points = c.loop-wire.points.keys;
  counted = sym c.len.ensures.len;
  once = numbered_once c.loop-wire.points.keys c.len.ensures.unique;
  each = subst (λ (ws : List (End × End)). AllZip (IsLinkOf c.loop-wire.points.keys) ws c.loop-wire.pairs.items)
      (take_all c.loop-wire.wire-index c.args.wires.now c.loop-wire-test.false) c.loop-wire.invariant;
}
