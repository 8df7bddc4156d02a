use Rattle.std.proofs.Common.{◌≡◌, ℕ, cond, Some, length, get_or, subst, arith}
use Rattle.std.specs.HashMap.{get}
use Rattle.std.specs.List.{slice_get}
use Rattle.std.proofs.lemmas.Option.{slice_get-get_or}
use Rattle.loom_rows.specs.declared.cond.Cond.{Never}
use Rattle.loom_pins.specs.declared.slot.Slot.{Slot}
use Rattle.loom_pins.specs.declared.holders.Holders.{Holders}
use Rattle.loom_pins.specs.Holders.{pair_eq}
use Rattle.loom_pins.proofs.Links.{holders-push}
use Rattle.loom_pins.proofs.holders.Holders.give.Goals as goal

abbrev nobody : Slot
nobody = record { net = record { 0 = 0 }; coupler = record { 0 = 0 }; ordinal = 0; usage = Never }

pub returns-clause-holders : goal.returns-clause-holders
returns-clause-holders c =
    let slot : Slot = get_or c.args.slots.now c.len-at.result nobody in
    let new : Holders = record { pins = c.push-2.new.self; newest = c.insert-2.new.self; earlier = c.push.new.self; latest = c.insert.new.self } in
    let P = λ (k : ℕ). slice_get c.args.slots.now k ≡ Some slot in
    let stands : P (length c.args.self.now.pins) =
    subst P c.len-at.ensures (slice_get-get_or c.args.slots.now c.len-at.result nobody (omega (arith, c.len-at.ensures, c.requires.room))) in
    holders-push c.args.slots.now c.args.self.now new slot c.args.pin c.in_ok-before.before c.requires.holders stands c.requires.room
    c.in_ok-push-2.ensures.ok c.in_ok-push.ensures.ok c.in_ok-before.ensures.old
    (λ q.
    let Q = λ (k : ℕ). get pair_eq c.insert-2.new.self q ≡ cond (pair_eq (slot.coupler.0, c.args.pin) q) (Some k) (get pair_eq c.args.self.now.newest q) in
    subst Q c.len-at.ensures (c.in_ok-before.ensures.updates.0 q))
