use Rattle.std.proofs.Common.{◌≡◌, ℕ, List, Option, None, Some, IfNone, IfSome, sym, subst}
use Rattle.loom_types.specs.declared.plan.Plan.{Plan}
use Rattle.loom_types.specs.declared.wire.Wire.{Wire}
use Rattle.loom_audit.specs.declared.spot.Spot.{Spot}
use Rattle.loom_audit.specs.FirstFailure.{Each, IsFirstWithout}
use Rattle.loom_audit.specs.PinRule.{EndsAtFreePins, IsPinClash, PinsFailAt, wire, wires}
use Rattle.loom_check.specs.PinTables.{IsFirstClash}
use Rattle.loom_check.proofs.pins.pins_failure.Goals as goal

no_clash : (plan : Plan) (found : Option (ℕ × ℕ)) → found ≡ None → IfNone found ((i j : ℕ) → IsPinClash plan i j → ⊥) → (i j : ℕ) → IsPinClash plan i j → ⊥
no_clash plan found is told = subst (λ (o : Option (ℕ × ℕ)). IfNone o ((i j : ℕ) → IsPinClash plan i j → ⊥)) is told

first_of : (plan : Plan) (found : Option (ℕ × ℕ)) (i j : ℕ) → found ≡ Some (i, j) → IfSome found (λ clash. IsFirstClash plan clash.0 clash.1)
    → IsFirstClash plan i j
first_of plan found i j is told = subst (λ (o : Option (ℕ × ℕ)). IfSome o (λ clash. IsFirstClash plan clash.0 clash.1)) is told

pub returns-in-Some-clause-fails : goal.returns-in-Some-clause-fails
returns-in-Some-clause-fails c =
    subst (PinsFailAt c.args.project.now c.args.plan.now) (sym c.in_ok-line.ensures)
    (wire c.in-Some.at
    (subst (λ (l : List Wire). IsFirstWithout (λ i w. EndsAtFreePins c.args.project.now w) l c.in-Some.at) c.as_slice-wires.ensures c.in-Some.ensures.fails))

pub returns-in_default-2-clause-holds : goal.returns-in_default-2-clause-holds
returns-in_default-2-clause-holds c = record {
  free = subst (λ (l : List Wire). Each (λ i w. EndsAtFreePins c.args.project.now w) l) c.as_slice-wires.ensures c.in_default.ensures.holds;
  apart = no_clash c.args.plan.now c.in_ok-first.field-0 c.in_default-2.is c.in_ok-first.ensures.holds;
}

pub returns-clause-fails : goal.returns-clause-fails
returns-clause-fails c =
    let clash = first_of c.args.plan.now c.in_ok-first.field-0 c.in-Some-2.first c.in-Some-2.second c.in-Some-2.is c.in_ok-first.ensures.fails in
    subst (λ (s : Spot). PinsFailAt c.args.project.now c.args.plan.now (record s { b = c.in-Some-2.second })) (sym c.in_ok-spot.ensures)
    (wires c.in-Some-2.first c.in-Some-2.second
    (subst (λ (l : List Wire). Each (λ i w. EndsAtFreePins c.args.project.now w) l) c.as_slice-wires.ensures c.in_default.ensures.holds)
    clash.clash clash.none_before)
