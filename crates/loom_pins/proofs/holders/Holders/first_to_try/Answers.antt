use Rattle.std.proofs.Common.{◌≡◌, ℕ, suc, ◌<◌, length, get_or, arith}
use Rattle.loom_rows.specs.declared.cond.Cond.{Never}
use Rattle.loom_pins.specs.declared.slot.Slot.{Slot}
use Rattle.loom_pins.proofs.Fitted.{slot-fits, passed-before, passed-later}
use Rattle.loom_pins.proofs.holders.Holders.first_to_try.Goals as goal

abbrev nobody : Slot
nobody = record { net = record { 0 = 0 }; coupler = record { 0 = 0 }; ordinal = 0; usage = Never }

pub returns-then-same-clause-positive : goal.returns-then-same-clause-positive
returns-then-same-clause-positive c = λ couplers coupler fitted is.
    (slot-fits couplers c.args.slots.now c.args.self.now.pins c.in-Some.at c.as_slice.result.now c.args.slot nobody coupler
    fitted (omega (arith, c.len.ensures, c.if-at-len.false)) c.requires.within c.as_slice.ensures c.if-before-slot.true is).free.from_one

pub returns-then-same-clause-passed : goal.returns-then-same-clause-passed
returns-then-same-clause-passed c = λ couplers coupler fitted is.
    let below : c.in-Some.at < length c.args.self.now.pins = omega (arith, c.len.ensures, c.if-at-len.false) in
    let before : Slot = get_or c.args.slots.now c.in-Some.at nobody in
    let pin : ℕ = get_or c.as_slice.result.now c.in-Some.at 0 in
    let fit = slot-fits couplers c.args.slots.now c.args.self.now.pins c.in-Some.at c.as_slice.result.now c.args.slot nobody coupler
    fitted below c.requires.within c.as_slice.ensures c.if-before-slot.true is in
    passed-later coupler c.args.slots.now c.args.self.now.pins (suc c.in-Some.at) (length c.args.self.now.pins) c.args.slot pin (omega (arith, below))
    (passed-before coupler c.args.slots.now c.args.self.now.pins c.in-Some.at pin before c.args.slot fit
    c.if-before-slot.true (c.same.ensures.same.0 c.if-same.true))
