use Rattle.std.proofs.Common.{ℕ, ◌+◌, refl, arith}
use Rattle.std.proofs.lemmas.List.{map-append}
use Rattle.std.proofs.lemmas.List.FromFn.{map-range_with_len_more}
use Rattle.loom_answer.specs.Plans.{mask_shown}
use Rattle.loom_answer.proofs.plans.cells_value.Goals as goal

pub loop-place-preserved : goal.loop-place-preserved
loop-place-preserved c =
    let more = map-range_with_len_more (λ (place : ℕ). mask_shown c.args.table.now (place + 1)) 0 c.loop-place.place c.loop-place.place (omega arith) in
    rw (c.in_ok-push.ensures.items, map-append, c.loop-place.invariant, more, c.in_ok-mask_value.ensures) refl
