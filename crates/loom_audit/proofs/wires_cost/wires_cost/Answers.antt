use Rattle.std.proofs.Common.{ℕ, ◌≡◌, ◌+◌, ◌-◌, ◌^◌, ◌<◌, List, min, drop, length, get_or, subst, sym, ap, ◌∙◌, arith}
use Rattle.loom_audit.specs.SetWires.{wires_at}
use Rattle.loom_types.specs.declared.wire.Wire.{Wire}
use Rattle.loom_audit.proofs.WireCosts.{IsCounted, wire_counted, wires-found}
use Rattle.loom_audit.proofs.wires_cost.wires_cost.Goals as goal

pub loop-k-preserved-in-Some : goal.loop-k-preserved-in-Some
loop-k-preserved-in-Some c =
    let topology = c.args.topology.now in
    let positions = c.args.positions.now in
    let k : ℕ = c.loop-k.k - 1 in
    let up : c.loop-k.k ≡ k + 1 = omega (arith, c.loop-k-test.true) in
    let within : k < length positions = omega (arith, c.loop-k.auto.k, c.loop-k-test.true) in
    let later = wires_at c.args.plan.now (drop (k + 1) positions) in
    let before : IsCounted topology later c.loop-k.counts c.loop-k.cost =
    subst (λ (n : ℕ). IsCounted topology (wires_at c.args.plan.now (drop n positions)) c.loop-k.counts c.loop-k.cost) up c.loop-k.invariant in
    subst (λ (ws : List Wire). IsCounted topology ws c.add_end-in-Some.new.counts c.saturating_add-cost-in-Some-2.result)
    (sym (wires-found c.args.plan.now positions k (get_or positions k 0) within (λ i. get_or positions k 0) c.in-Some.wire.now (sym c.in-Some.ensures.value)))
    (wire_counted topology later c.in-Some.wire.now c.loop-k.counts c.add_end.new.counts c.add_end-in-Some.new.counts c.loop-k.cost
    c.in_ok-to.to c.in_ok-from.from c.saturating_add-cost.result c.saturating_add-cost-in-Some.result c.saturating_add-cost-in-Some-2.result before
    c.in_ok-to.ensures.added c.in_ok-to.ensures.more c.in_ok-from.ensures.added c.in_ok-from.ensures.more
    (c.saturating_add-cost.ensures ∙ ap (λ (n : ℕ). min (c.loop-k.cost + n) (2 ^ 128 - 1)) c.from.ensures)
    (c.saturating_add-cost-in-Some.ensures ∙ ap (λ (n : ℕ). min (c.saturating_add-cost.result + n) (2 ^ 128 - 1)) c.from-in-Some.ensures)
    (c.saturating_add-cost-in-Some-2.ensures ∙ ap (λ (n : ℕ). min (c.saturating_add-cost-in-Some.result + n) (2 ^ 128 - 1)) c.from-in-Some-2.ensures))
