use Rattle.std.proofs.Common.{◌<◌, ℕ, List, Option, [], unwrap_or, length, sym, ap, subst, ◌∙◌}
use Rattle.std.specs.List.{All, AllPairs}
use Rattle.std.proofs.lemmas.Result.{IfOk-weaker}
use Rattle.loom_check.specs.PinTables.{pin_of, IsLeast, IsRivalAmong, IsRivalAt}
use Rattle.loom_check.proofs.PinClashes.{among-at}
use Rattle.loom_check.proofs.pins.rival_at.Goals as goal

pub first_rival-requires-clause-within : goal.first_rival-requires-clause-within
first_rival-requires-clause-within c =
    subst (All (λ place. place < length c.args.plan.now.wires))
    (ap (λ (o : Option (List ℕ)). unwrap_or o []) (sym c.in-Some-get.ensures.value) ∙ sym c.as_slice.ensures)
    (c.requires.by_pin.known c.in-Some.pin).within

pub first_rival-requires-clause-rising : goal.first_rival-requires-clause-rising
first_rival-requires-clause-rising c =
    subst (AllPairs (λ (one other : ℕ). one < other))
    (ap (λ (o : Option (List ℕ)). unwrap_or o []) (sym c.in-Some-get.ensures.value) ∙ sym c.as_slice.ensures)
    (c.requires.by_pin.known c.in-Some.pin).rising

pub returns-in-Some-get-clause-least : goal.returns-in-Some-get-clause-least
returns-in-Some-get-clause-least c =
    IfOk-weaker c.first_rival.result (IsLeast (IsRivalAmong c.args.plan.now c.args.at c.args.wire.now c.as_slice.result.now))
    (IsLeast (IsRivalAt c.args.plan.now c.args.by_pin.now c.args.at c.args.wire.now (pin_of c.args.end.now)))
    (among-at c.args.plan.now c.args.by_pin.now c.args.at c.args.wire.now (pin_of c.args.end.now) c.in-Some.pin (sym c.pin_of.ensures ∙ c.in-Some.is)
    c.as_slice.result.now (c.as_slice.ensures ∙ ap (λ (o : Option (List ℕ)). unwrap_or o []) c.in-Some-get.ensures.value))
    c.first_rival.ensures.least
