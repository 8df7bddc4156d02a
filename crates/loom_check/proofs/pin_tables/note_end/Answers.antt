use Rattle.std.proofs.Common.{arith}
use Rattle.loom_check.proofs.EndsAtPins.{kept-shared, kept-nets}
use Rattle.loom_check.proofs.pin_tables.note_end.Goals as goal

pub returns-in_ok-insert-in-Some-copied-clause-kept :
    goal.returns-in_ok-insert-in-Some-copied-clause-kept
returns-in_ok-insert-in-Some-copied-clause-kept c =
    kept-shared c.args.nets.now c.args.shared.now c.insert.new.self c.in-Some.pin c.in_ok-insert-in-Some-copied.ensures.updates.0

pub returns-in_ok-insert-in-None-clause-kept : goal.returns-in_ok-insert-in-None-clause-kept
returns-in_ok-insert-in-None-clause-kept c =
    kept-nets c.args.nets.now c.insert-in-None.new.self c.args.shared.now c.in-Some.pin c.args.net (grind arith) c.in_ok-insert-in-None.ensures.updates.0
