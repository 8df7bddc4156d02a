use Rattle.std.proofs.Common.{ℕ, ◌<◌, Bool, true, cond, ◌==◌, ◌&&◌, ◌||◌, take, length, get_or, sym, ap, ◌∙◌, arith}
use Rattle.std.specs.HashSet.{contains}
use Rattle.std.specs.List.{list_any}
use Rattle.std.proofs.lemmas.List.Folds.{list_any_more}
use Rattle.loom_pins.specs.Holders.{pair_eq}
use Rattle.loom_pins.proofs.ReservedPins.{one-more, nothing-more}
use Rattle.loom_pins.proofs.reserved.add_reserved.Goals as goal

pub loop-pin-init : goal.loop-pin-init
loop-pin-init c = λ other pin. nothing-more (contains pair_eq c.args.reserved.now (other, pin)) (c.args.number == other)

pub loop-pin-preserved : goal.loop-pin-preserved
loop-pin-preserved c = λ other pin.
    let x : ℕ = get_or c.args.pins.now c.loop-pin.pin-index 0 in
    let old : Bool = contains pair_eq c.args.reserved.now (other, pin) in
    let same : Bool = c.args.number == other in
    let lt : c.loop-pin.pin-index < length c.args.pins.now = omega arith in
    c.in_ok-insert.ensures.updates.0 (other, pin)
    ∙ ap (λ (b : Bool). cond (same && (x == pin)) true b) (c.loop-pin.invariant other pin)
    ∙ one-more old same (x == pin) (list_any (λ y. y == pin) (take c.loop-pin.pin-index c.args.pins.now))
    ∙ ap (λ (b : Bool). old || (same && b)) (sym (list_any_more (λ y. y == pin) c.args.pins.now c.loop-pin.pin-index 0 lt))
