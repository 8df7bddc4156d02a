use Rattle.std.proofs.Common.{◌≡◌, ℕ, ◌<◌, ◌++◌, List, [], ◌∷◌, Some, length, get_or, refl, sym, ap, ap₂, ◌∙◌}
use Rattle.std.specs.List.{slice_get}
use Rattle.std.proofs.lemmas.List.Elements.{All-get_or}
use Rattle.std.proofs.lemmas.Option.{slice_get_read}
use Rattle.loom_rows.specs.declared.cond.Cond.{Cond}
use Rattle.loom_types.specs.declared.plan.SetLine.{SetLine}
use Rattle.loom_check.proofs.SetConditions.{conditions-more}
use Rattle.loom_check.proofs.conditions.conditions_at.Goals as goal

pub loop-at-preserved : goal.loop-at-preserved
loop-at-preserved c =
    let sets = c.args.plan.now.sets in
    let at : ℕ = get_or c.args.positions.now c.loop-at.at-index 0 in
    let set : SetLine = c.index-as_slice-at.result in
    let within : at < length sets = All-get_or (λ n. n < length sets) c.args.positions.now c.loop-at.at-index 0 c.loop-at-test.true c.requires.within in
    let stands : slice_get sets at ≡ Some set =
    slice_get_read sets (length sets) at set refl within (c.index-as_slice-at.is ∙ ap (λ (l : List SetLine). get_or l at set) c.as_slice.ensures) in
    c.in_ok-push.ensures.ok ∙ ap₂ (λ (l : List Cond) (x : Cond). l ++ x ∷ []) c.loop-at.invariant c.condition.ensures
    ∙ sym (conditions-more c.args.plan.now c.args.conds.now c.args.positions.now c.loop-at.at-index set c.loop-at-test.true stands)
