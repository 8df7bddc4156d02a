use Rattle.std.proofs.Common.{◌≡◌, ℕ, Bool, false, List, [], ◌∷◌, ◌++◌, length, refl, sym, ap, ◌∙◌}
use Rattle.std.specs.Prelude.{Option, Some, slice_get}
use Rattle.std.specs.Option.{option_map_or}
use Rattle.std.proofs.lemmas.Option.{slice_get_read}
use Rattle.loom_formula.specs.Choice.{choice_at}
use Rattle.loom_formula.specs.RowList.{value_of}
use Rattle.loom_types.specs.declared.wire.Wire.{Wire}
use Rattle.loom_extract.specs.Variant.{is_live_at}
use Rattle.loom_extract.proofs.Picking.{filter-more_yes, filter-more_no}
use Rattle.loom_extract.proofs.variant.live_numbers.Goals.{then-is_live+in_ok-push, else-is_live}
use Rattle.loom_extract.proofs.variant.live_numbers.Goals as goal

pub loop-at-preserved : goal.loop-at-preserved
loop-at-preserved c =
    let choice = choice_at c.args.choice.now.values in
    let passes : ℕ → Bool = is_live_at c.args.plan.now choice in
    let at : ℕ = c.loop-at.at in
    let items : List Wire = c.as_slice-wire-items.result.now in
    let value : Option Wire → Bool = λ o. option_map_or (λ w. value_of c.args.plan.now.rows choice w.row) o false in
    let stands : slice_get items at ≡ Some c.wire-item.result =
    slice_get_read items (length items) at c.wire-item.result refl c.loop-at-test.true c.wire-item.is in
    let known : passes at ≡ c.is_live.result =
    ap (λ (ws : List Wire). value (slice_get ws at)) (sym c.as_slice-wire-items.ensures) ∙ ap value stands ∙ sym c.is_live.ensures in
    let position : c.in_ok-number.number ≡ at = c.in_ok-number.ensures in
    elim c.if-is_live.branch [
      | then-is_live+in_ok-push w ↦
          w.numbers-is ∙ w.in_ok-push.ensures.ok ∙ ap (λ (n : ℕ). c.loop-at.numbers ++ n ∷ []) position
          ∙ filter-more_yes passes at c.loop-at.numbers c.loop-at.invariant (known ∙ w.if-is_live.true)
      | else-is_live w ↦
          w.numbers-is ∙ filter-more_no passes at c.loop-at.numbers c.loop-at.invariant (known ∙ w.if-is_live.false)
    ]
