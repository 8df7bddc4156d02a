use Rattle.std.proofs.Common.{arith}
use Rattle.loom_check.proofs.EndsAtPins.{noted-more, shared-all}
use Rattle.loom_check.proofs.pin_tables.shared_pins.Goals as goal

pub loop-wire-preserved : goal.loop-wire-preserved
loop-wire-preserved c =
    noted-more c.args.wires.now c.loop-wire.wire-index c.wire-item.result c.loop-wire-test.true c.wire-item.is c.loop-wire.nets c.note_end.new.nets
    c.note_end-in-loop-wire.new.nets c.loop-wire.shared c.note_end.new.shared c.note_end-in-loop-wire.new.shared c.in_ok-note_end.ensures.kept
    c.in_ok-note_end.ensures.noted c.in_ok-note_end-2.ensures.kept c.in_ok-note_end-2.ensures.noted c.loop-wire.invariant

pub returns : goal.returns
returns c = shared-all c.args.wires.now c.loop-wire.wire-index c.loop-wire.nets c.loop-wire.shared (omega (arith, c.loop-wire-test.false)) c.loop-wire.invariant
