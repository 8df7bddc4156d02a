use Rattle.std.proofs.Common.{◌≡◌, true, false, List, refl, sym, subst, arith, Contains}
use Rattle.std.proofs.lemmas.List.Elements.{Contains-get_or}
use Rattle.loom_project.specs.Project.{net_topology}
use Rattle.loom_types.specs.declared.wire.Wire.{Wire}
use Rattle.loom_types.specs.Routes.{IsRouted}
use Rattle.loom_audit.proofs.FirstFailures.{each_next, each_one, first_without}
use Rattle.loom_audit.proofs.routes.first_unrouted.Goals as goal

pub is_routed-requires : goal.is_routed-requires
is_routed-requires c =
    let here : Contains c.as_slice-wire-items.result.now c.wire-item.result =
    subst (λ (w : Wire). Contains c.as_slice-wire-items.result.now w) (sym c.wire-item.is)
    (Contains-get_or c.as_slice-wire-items.result.now c.loop-at.at c.wire-item.result c.loop-at-test.true) in
    c.requires.nets c.wire-item.result
    (subst (λ (ws : List Wire). Contains ws c.wire-item.result) c.as_slice-wire-items.ensures here)

pub returns-then-not-is_routed-clause-first : goal.returns-then-not-is_routed-clause-first
returns-then-not-is_routed-clause-first c =
    first_without (λ (w : Wire). IsRouted (net_topology c.args.project.now w.net.0) w) c.as_slice-wire-items.result.now c.args.plan.now.wires c.loop-at.at
    c.loop-at.invariant c.wire-item.result c.as_slice-wire-items.ensures c.loop-at-test.true c.wire-item.is
    (λ routed.
    let e : false ≡ true = c.if-not-is_routed.ensures.1 routed in
    absurd (cc))

pub loop-at-preserved : goal.loop-at-preserved
loop-at-preserved c =
    each_next (λ (w : Wire). IsRouted (net_topology c.args.project.now w.net.0) w) c.as_slice-wire-items.result.now c.args.plan.now.wires c.loop-at.at
    c.loop-at.invariant c.wire-item.result c.loop-at-test.true c.wire-item.is (c.if-not-is_routed.ensures.0 refl)

pub returns-clause-none : goal.returns-clause-none
returns-clause-none c =
    each_one (λ (w : Wire). IsRouted (net_topology c.args.project.now w.net.0) w) c.as_slice-wire-items.result.now c.args.plan.now.wires c.loop-at.at
    c.loop-at.invariant c.as_slice-wire-items.ensures (omega (arith, c.loop-at-test.false))
