use Rattle.std.proofs.Common.{rules, ◌≡◌, List, [], ◌∷◌, length, refl, sym, ap, subst, ◌∙◌, arith}
use Rattle.std.specs.Vec.Iter.{into_iter_items}
use Rattle.loom_types.specs.declared.wire.Wire.{Wire}
use Rattle.loom_wires.proofs.NoteLemmas.{NotedSoFar, noted-init, noted-next, noted-done}
use Rattle.loom_wires.proofs.found.add_wires.Goals as goal

pub loop-wire-init : goal.loop-wire-init
loop-wire-init c = record {
  counted = search rules;
  noted =
      subst (λ (l : List Wire). NotedSoFar c.args.at c.args.wires l c.args.found.now c.args.found.now)
      (sym (c.into_iter-wire-iterator.ensures.into_iter_gives.0 ∙ c.into_vec-wire-items.ensures))
      (noted-init c.args.at c.args.wires c.args.found.now);
}

pub loop-wire-preserved : goal.loop-wire-preserved
loop-wire-preserved c = record {
  counted =
      let moved : length (into_iter_items c.loop-wire.wire-iterator) ≡ length (c.in-Some.wire ∷ into_iter_items c.next.new.self) = ap length c.in-Some.ensures.steps.0 in
      omega (arith, moved, c.in-Some.ensures.steps.1, c.loop-wire.invariant.counted);
  noted =
      noted-next c.args.at c.args.wires c.in-Some.wire (into_iter_items c.next.new.self) c.args.found.now c.loop-wire.found c.add_wire.new.found
      (subst (λ (l : List Wire). NotedSoFar c.args.at c.args.wires l c.args.found.now c.loop-wire.found) c.in-Some.ensures.steps.0 c.loop-wire.invariant.noted)
      c.in_ok-add_wire.ensures;
}

no_wire : (l : List Wire) → length l ≡ 0 → l ≡ []
no_wire [] e = refl
no_wire (w ∷ ws) e = absurd (omega (arith, e))

pub returns : goal.returns
returns c =
    noted-done c.args.at c.args.wires c.args.found.now c.loop-wire.found
    (subst (λ (l : List Wire). NotedSoFar c.args.at c.args.wires l c.args.found.now c.loop-wire.found)
    (no_wire (into_iter_items c.loop-wire.wire-iterator) (sym c.loop-wire.invariant.counted ∙ c.in-None.ensures.steps.0))
    c.loop-wire.invariant.noted)
