use Rattle.std.proofs.Common.{◌≡◌, ◌<◌, length, map, get_or, refl, sym, ◌∙◌, arith}
use Rattle.std.proofs.lemmas.Bool.{false≢true}
use Rattle.std.proofs.lemmas.List.{length-map, get_or-map}
use Rattle.loom_types.specs.declared.plan.PinLine.{PinLine}
use Rattle.loom_audit.specs.LayoutRule.{IsLineOfSlot}
use Rattle.loom_audit.specs.SlotSets.{slot_of_key}
use Rattle.loom_audit.proofs.Differences.{agree_more, differ_apart}
use Rattle.loom_audit.proofs.pin_lines.first_difference.Goals as goal

no_line : PinLine
no_line = record { net = record { 0 = 0 }; coupler = record { 0 = 0 }; ordinal = 0; pin = 0 }

pub returns-then-not-is_line_of-clause-fails : goal.returns-then-not-is_line_of-clause-fails
unfolding no_line
returns-then-not-is_line_of-clause-fails c =
    let slots = c.args.slots.now in
    let at = c.loop-at.at in
    let in_slots : at < length slots = omega (arith, c.loop-at-test.true, c.min-both.ensures) in
    let in_lines : at < length c.args.lines.now = omega (arith, c.loop-at-test.true, c.min-both.ensures) in
    let slot_at : get_or (map slot_of_key slots) at (slot_of_key (0, 0, 0)) ≡ slot_of_key (get_or slots at (0, 0, 0)) =
    get_or-map slot_of_key slots at (0, 0, 0) (slot_of_key (0, 0, 0)) in_slots in
    differ_apart IsLineOfSlot (map slot_of_key slots) c.args.lines.now at (slot_of_key (0, 0, 0)) no_line
    (omega (arith, in_slots, length-map slots slot_of_key)) in_lines c.loop-at.invariant
    (λ p. absurd (false≢true (c.if-not-is_line_of.ensures.1 (p ∙ slot_at))))

pub loop-at-preserved : goal.loop-at-preserved
unfolding no_line
loop-at-preserved c =
    let slots = c.args.slots.now in
    let at = c.loop-at.at in
    let in_slots : at < length slots = omega (arith, c.loop-at-test.true, c.min-both.ensures) in
    let in_lines : at < length c.args.lines.now = omega (arith, c.loop-at-test.true, c.min-both.ensures) in
    let slot_at : get_or (map slot_of_key slots) at (slot_of_key (0, 0, 0)) ≡ slot_of_key (get_or slots at (0, 0, 0)) =
    get_or-map slot_of_key slots at (0, 0, 0) (slot_of_key (0, 0, 0)) in_slots in
    agree_more IsLineOfSlot (map slot_of_key slots) c.args.lines.now at (slot_of_key (0, 0, 0)) no_line
    (omega (arith, in_slots, length-map slots slot_of_key)) in_lines c.loop-at.invariant
    (c.if-not-is_line_of.ensures.0 refl ∙ sym slot_at)
