-- A wire against the one before it.
use Rattle.std.proofs.Common.{◌≡◌, ℕ, ◌-◌, ◌<◌, ◌≤◌, length, get_or, ap, subst, ◌∙◌, arith}
use Rattle.std.proofs.lemmas.Option.{slice_get-get_or, get_or_from_slice_get}
use Rattle.loom_types.specs.declared.plan.Plan.{Plan}
use Rattle.loom_types.specs.declared.wire.Wire.{Wire}
use Rattle.loom_types.specs.WireOrder.{IsWireBefore}
use Rattle.loom_audit.specs.FirstFailure.{EachBefore}
use Rattle.loom_audit.specs.LayoutRule.{IsAfterLast}

module _ (plan : Plan) (at : ℕ) (d : Wire) (some : 1 ≤ at) (within : at < length plan.wires) where
  pub after_last : IsWireBefore (get_or plan.wires (at - 1) d) (get_or plan.wires at d) → IsAfterLast plan at (get_or plan.wires at d)
  after_last less before v e stands =
      let place : at - 1 ≡ before = omega (arith, e, some) in
      let is : get_or plan.wires (at - 1) d ≡ v = ap (λ (k : ℕ). get_or plan.wires k d) place ∙ get_or_from_slice_get plan.wires before v d stands in
      subst (λ (w : Wire). IsWireBefore w (get_or plan.wires at d)) is less

  pub before_it : IsAfterLast plan at (get_or plan.wires at d) → IsWireBefore (get_or plan.wires (at - 1) d) (get_or plan.wires at d)
  before_it after = after (at - 1) (get_or plan.wires (at - 1) d) (omega (arith, some)) (slice_get-get_or plan.wires (at - 1) d (omega (arith, some, within)))

pub first_has_none : (plan : Plan) → EachBefore (IsAfterLast plan) plan.wires 1
first_has_none plan i w lt stands before v e there = absurd (omega (arith, lt, e))
