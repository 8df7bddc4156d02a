use Rattle.std.proofs.Common.{◌≡◌, ◌+◌, ◌-◌, ◌<◌, ℕ, length, get_or, drop, subst, arith}
use Rattle.std.specs.HashMap.{get}
use Rattle.std.specs.List.{position_from}
use Rattle.std.proofs.lemmas.List.{get_or_default}
use Rattle.loom_types.specs.declared.plan.PinLine.{PinLine}
use Rattle.loom_types.specs.PinLines.{is_line_of}
use Rattle.loom_audit.specs.FirstLines.{is_same_key}
use Rattle.loom_audit.proofs.FirstLineLemmas.{put_in_front}
use Rattle.loom_audit.proofs.pin_index.first_places.Goals as goal

pub loop-place-preserved : goal.loop-place-preserved
loop-place-preserved c net coupler ordinal =
    let lines = c.args.lines.now in
    let none : PinLine = record { net = record { 0 = 0 }; coupler = record { 0 = 0 }; ordinal = 0; pin = 0 } in
    let place : ℕ = c.loop-place.place - 1 in
    let line : PinLine = get_or lines place none in
    let up : c.loop-place.place ≡ place + 1 = omega arith in
    let within : place < length lines = omega arith in
    put_in_front lines place line net coupler ordinal
    (get is_same_key c.insert.new.self (net, coupler, ordinal)) (get is_same_key c.loop-place.firsts (net, coupler, ordinal))
    within (get_or_default lines place none line within)
    (c.in_ok-insert.ensures.updates.0 (net, coupler, ordinal))
    (subst (λ (i : ℕ). get is_same_key c.loop-place.firsts (net, coupler, ordinal) ≡ position_from (is_line_of net coupler ordinal) i (drop i lines)) up
    (c.loop-place.invariant net coupler ordinal))
