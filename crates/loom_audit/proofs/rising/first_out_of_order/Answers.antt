use Rattle.std.proofs.Common.{◌≡◌, ◌<◌, ◌-◌, List, length, get_or, refl, sym, ap, ap₂, subst, ◌∙◌, arith}
use Rattle.std.specs.declared.cmp.Ordering.{Ordering}
use Rattle.std.specs.declared.cmp.Ordering.TheVariants.{Less, Equal, Greater}
use Rattle.std.specs.Ordering.{is_lt}
use Rattle.std.proofs.lemmas.List.{get_or_default}
use Rattle.loom_types.specs.declared.wire.Wire.{Wire}
use Rattle.loom_types.specs.WireOrder.{wire_cmp}
use Rattle.loom_audit.specs.LayoutRule.{IsAfterLast}
use Rattle.loom_audit.proofs.Firsts.{before_more, each_from_before}
use Rattle.loom_audit.proofs.RisingWires.{after_last}
use Rattle.loom_audit.proofs.rising.first_out_of_order.Goals as goal

less : (o : Ordering) → is_lt o ≡ Rattle.std.proofs.Common.true → o ≡ Less
less Less e = refl
less Equal e = absurd (cc)
less Greater e = absurd (cc)

pub loop-at-preserved : goal.loop-at-preserved
loop-at-preserved c =
    let plan = c.args.plan.now in
    let at = c.loop-at.at in
    let v : Wire = c.index-wires-at.result in
    let w : Wire = c.index-wires-at-in-loop-at.result in
    let long = ap length c.as_slice-wires.ensures in
    let within : at < length plan.wires = omega (arith, c.loop-at-test.true, long) in
    let v_is : v ≡ get_or plan.wires (at - 1) w =
    c.index-wires-at.is ∙ ap (λ (l : List Wire). get_or l (at - 1) v) c.as_slice-wires.ensures
    ∙ get_or_default plan.wires (at - 1) v w (omega (arith, within)) in
    let w_is : w ≡ get_or plan.wires at w = c.index-wires-at-in-loop-at.is ∙ ap (λ (l : List Wire). get_or l at w) c.as_slice-wires.ensures in
    let before : wire_cmp v w ≡ Less = sym c.order.ensures ∙ less c.order.result (sym c.is_lt.ensures ∙ c.if-not-is_lt.false) in
    before_more (IsAfterLast plan) plan.wires at w within c.loop-at.invariant
    (after_last plan at w (omega (arith, c.loop-at.auto.at)) within (ap₂ (λ (a b : Wire). wire_cmp a b) (sym v_is) (sym w_is) ∙ before))

pub returns-clause-holds : goal.returns-clause-holds
returns-clause-holds c =
    each_from_before (IsAfterLast c.args.plan.now) c.args.plan.now.wires c.loop-at.at
    (omega (arith, c.loop-at-test.false, ap length c.as_slice-wires.ensures)) c.loop-at.invariant
